-- What each call of a list does.
use Rattle.std.proofs.Common.{◌≡◌, Bool, true, false, List, [], ◌∷◌, ◌++◌, ℕ, Some, ap, map, inl, inr, refl, subst, sym, ⊎_elim, ◌∙◌}
use Rattle.std.specs.Prelude.{Err, Ok, OnErr, OnOk, Result}
use Rattle.blob_directory.specs.declared.profile.Settles.{Settles}
use Rattle.blob_directory.specs.declared.profile.Settles.TheVariants.{All, Names, Own, UpToLast, UpToLastOrSize}
use Rattle.blob_directory.specs.Names.{Edit, binds, directory_at, entry, exchanges, file, frees, moves, resizes}
use Rattle.blob_directory.specs.declared.table.Table.{Table}
use Rattle.blob_directory.specs.Tables.{bound}
use Rattle.blob_directory.specs.Records.{Found}
use Rattle.blob_journal.specs.Moves.{binding_told}
use Rattle.blob_journal.specs.Told.{Grows}
use Rattle.blob_journal.proofs.Growing.{grows_added, grows_twice}
use Rattle.blob_fs.specs.declared.file_system.Descriptor.{Descriptor}
use Rattle.blob_fs.specs.declared.file_system.FileSystem.{FileSystem}
use Rattle.blob_fs.specs.declared.renames.Rename as rename
use Rattle.blob_fs.specs.declared.call.NumberCall.{NumberCall}
use Rattle.blob_fs.specs.declared.call.NumberCall.TheVariants.{Create, MakeDirectory, Link, Unlink, RemoveDirectory, Rename, Open, OpenTruncated, Close, Read, Write, Truncate, Sync, SyncData, SyncDirectory, SyncAll, Settle}
use Rattle.blob_fs.specs.Files.{AddsTold, GrowsTold, IfNames, KeepsNames, KeepsTold, MayResize, MayTruncate, SameNames, SettlesSome, TellsAndSettles, fresh_inode, inode_opened, settles_of, told_of}
use Rattle.blob_fs.specs.Calls.{Does, DoesAll, Leaves, Makes, MakesIf, Renames, Unchanged, Moved, Exchanged}
use Rattle.blob_fs.specs.Fixed.{KeepsUnreached}
use Rattle.blob_fs.proofs.Growing.{grows_kept, told_as}
use Rattle.blob_fs.proofs.Fixed.{some_same}

-- by what a call returned

pub on_ok : {T E P Q S : Type 0} (r : Result T E) → OnOk r P → OnOk r Q → (P → Q → S) → OnOk r S
on_ok (Ok x) p q f = f p q
on_ok (Err e) p q f = tt

pub on_err : {T E P Q S : Type 0} (r : Result T E) → OnErr r P → OnErr r Q → (P → Q → S) → OnErr r S
on_err (Ok x) p q f = tt
on_err (Err e) p q f = f p q

pub always : {T E P : Type 0} (r : Result T E) → P → OnErr r P
always (Ok x) p = tt
always (Err e) p = p

pub always_ok : {T E P : Type 0} (r : Result T E) → P → OnOk r P
always_ok (Ok x) p = p
always_ok (Err e) p = tt

pub was_ok : {T E P S : Type 0} (r : Result T E) (x : T) → r ≡ Ok x → OnOk r P → (P → S) → S
was_ok {T} {E} {P} {S} r x is p f = f (subst (λ (q : Result T E). OnOk q P) is p)

pub either : {T E P Q S : Type 0} (r : Result T E) → OnOk r P → OnErr r Q → (P → S) → (Q → S) → S
either (Ok x) p q f g = f p
either (Err e) p q f g = g q

pub leaves : {R : Type 0} (fs fs' : FileSystem R) → KeepsNames fs fs' → KeepsTold fs fs' → Leaves fs fs'
leaves fs fs' names told = record { recorded = told; names = same fs fs' names }
  where
    same : {R : Type 0} (fs fs' : FileSystem R) → KeepsNames fs fs' → SameNames fs fs'
    same fs fs' names = λ e. ap (λ (t : Table). bound t e) (sym names)

-- A truncation before and after calls that add no edit.

pub truncates_then : {R : Type 0} (f : Descriptor) (a b c : FileSystem R) → MayTruncate f a b → KeepsTold b c → MayTruncate f a c
truncates_then f a b c h same = ⊎_elim (λ none. inl (same ∙ none)) (λ one. inr (one.0, one.1, same ∙ one.2)) h

pub resizes_from : {R : Type 0} (inode : ℕ) (a b c : FileSystem R) → KeepsTold a b → MayResize inode b c → MayResize inode a c
resizes_from inode a b c before h = ⊎_elim
    (λ none. inl (none ∙ before))
    (λ one. inr (told_as (told_of a) (told_of b) (told_of c) (resizes inode) (resizes inode) refl before one))
    h

-- of the file of a descriptor
pub resizes_opened : {R : Type 0} (f : Descriptor) (inode : ℕ) (a b c d : FileSystem R) → inode_opened b f ≡ Some inode → KeepsTold a b → MayTruncate f b c → KeepsTold c d → MayResize inode a d
resizes_opened f inode a b c d opened before h after = ⊎_elim
    (λ none. inl (after ∙ none ∙ before))
    (λ one. inr (told_as (told_of a) (told_of b) (told_of d) (resizes one.0) (resizes inode) (ap resizes (some_same (sym one.1 ∙ opened))) before (after ∙ one.2)))
    h

-- no edit is changed by a call

grows_added_one : {R : Type 0} (edit : Edit) (fs fs' : FileSystem R) → AddsTold edit fs fs' → GrowsTold fs fs'
grows_added_one edit fs fs' told = subst (λ (l : List Found). Grows (told_of fs) l) (sym told) (grows_added (told_of fs) (Some (edit, false) ∷ []))

grows_makes : {R : Type 0} (edit : Edit) (fs fs' : FileSystem R) → Makes edit fs fs' → GrowsTold fs fs'
grows_makes edit fs fs' m = grows_added_one edit fs fs' m.recorded

pub grows_leaves : {R : Type 0} (fs fs' : FileSystem R) → Leaves fs fs' → GrowsTold fs fs'
grows_leaves fs fs' l = grows_kept (told_of fs) (told_of fs') l.recorded

grows_if : {R : Type 0} (ok : Bool) (edit : Edit) (fs fs' : FileSystem R) → MakesIf ok edit fs fs' → GrowsTold fs fs'
grows_if true edit fs fs' m = grows_makes edit fs fs' m
grows_if false edit fs fs' m = grows_leaves fs fs' m

grows_resize : {R : Type 0} (inode : ℕ) (fs fs' : FileSystem R) → MayResize inode fs fs' → GrowsTold fs fs'
grows_resize inode fs fs' may = ⊎_elim (grows_kept (told_of fs) (told_of fs')) (grows_added_one (resizes inode) fs fs') may

grows_truncate : {R : Type 0} (f : Descriptor) (fs fs' : FileSystem R) → MayTruncate f fs fs' → GrowsTold fs fs'
grows_truncate f fs fs' may = ⊎_elim (grows_kept (told_of fs) (told_of fs')) (λ t. grows_added_one (resizes t.0) fs fs' t.2) may

pub grows_renames : {R : Type 0} (how : rename.Rename) (from to : ℕ) (old new : List ℕ) (fs fs' : FileSystem R) → Renames how from to old new fs fs' → GrowsTold fs fs'
grows_renames how from to old new fs fs' (Unchanged found is at other left) = grows_leaves fs fs' left
grows_renames how from to old new fs fs' (Moved differ other free m) = grows_makes (moves old new m.moved) fs fs' m.made
grows_renames how from to old new fs fs' (Exchanged differ is m) = grows_makes (exchanges old new m.moved m.was) fs fs' m.made

grows_again : {R : Type 0} (fs fs' : FileSystem R) → TellsAndSettles fs fs' → GrowsTold fs fs'
grows_again fs fs' t =
    grows_twice (told_of fs) (told_of t.between) (told_of fs')
    (subst (λ (l : List Found). Grows (told_of fs) l) (sym t.told.told) (grows_added (told_of fs) (map binding_told t.told.again))) t.some.grows

grows_some : {R : Type 0} (settles : Settles) (fs fs' : FileSystem R) → IfNames settles (TellsAndSettles fs fs') (SettlesSome fs fs') → GrowsTold fs fs'
grows_some Names fs fs' t = grows_again fs fs' t
grows_some Own fs fs' some = some.grows
grows_some UpToLast fs fs' some = some.grows
grows_some UpToLastOrSize fs fs' some = some.grows
grows_some All fs fs' some = some.grows

pub grows_does : {R : Type 0} (call : NumberCall) (ok : Bool) (fs fs' : FileSystem R) → Does call ok fs fs' → GrowsTold fs fs'
grows_does (Create d name) ok fs fs' m = grows_if ok (binds d name.now (file (fresh_inode fs))) fs fs' m
grows_does (MakeDirectory d name) ok fs fs' m = grows_if ok (binds d name.now (directory_at (fresh_inode fs))) fs fs' m
grows_does (Link i d name) ok fs fs' m = grows_if ok (binds d name.now (file i)) fs fs' m
grows_does (Unlink d name) ok fs fs' m = grows_if ok (frees d name.now) fs fs' m
grows_does (RemoveDirectory d name) ok fs fs' m = grows_if ok (frees d name.now) fs fs' m
grows_does (Rename from old to new how) true fs fs' m = grows_renames how from to (entry from old.now) (entry to new.now) fs fs' m
grows_does (Rename from old to new how) false fs fs' m = grows_leaves fs fs' m
grows_does (Open i) ok fs fs' m = grows_leaves fs fs' m
grows_does (OpenTruncated i) ok fs fs' m = grows_resize i fs fs' m.1
grows_does (Close f) ok fs fs' m = grows_leaves fs fs' m
grows_does (Read f offset len) ok fs fs' m = grows_leaves fs fs' m
grows_does (Write f offset bytes) ok fs fs' m = grows_leaves fs fs' m.0
grows_does (Truncate f length) ok fs fs' m = grows_truncate f fs fs' m.1
grows_does (Sync f) ok fs fs' m = m.0.1.grows
grows_does (SyncData f) ok fs fs' m = m.0.1.grows
grows_does (SyncDirectory d) ok fs fs' m = grows_some (settles_of fs) fs fs' m.0.1
grows_does SyncAll ok fs fs' m = m.0.1.grows
grows_does Settle ok fs fs' m = m.0.1.grows

-- one more call
pub does_more : {R : Type 0} (calls : List NumberCall) (oks : List Bool) (call : NumberCall) (ok : Bool) (a b c : FileSystem R)
    → DoesAll calls oks a b → Does call ok b c → KeepsUnreached call b c → DoesAll (calls ++ call ∷ []) (oks ++ ok ∷ []) a c
does_more {R} [] [] call ok a b c before done keeps =
    (c, subst (λ (fs : FileSystem R). Does call ok fs c) before done, subst (λ (fs : FileSystem R). KeepsUnreached call fs c) before keeps, refl)
does_more [] (o ∷ oks) call ok a b c before done keeps = absurd before
does_more (first ∷ calls) [] call ok a b c before done keeps = absurd before
does_more (first ∷ calls) (o ∷ oks) call ok a b c before done keeps = (before.0, before.1, before.2, does_more calls oks call ok before.0 b c before.3 done keeps)
