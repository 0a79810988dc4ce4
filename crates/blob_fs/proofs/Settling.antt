-- Calls that settle edits and change no other thing about them.
use Rattle.std.proofs.Common.{◌≡◌, [], ◌++◌, ℕ, List, Some, ap, append-nil, length, map, refl, subst, sym, ◌∙◌}
use Rattle.std.specs.List.{All, Contains}
use Rattle.std.proofs.lemmas.List.Elements.{All-nil}
use Rattle.blob_directory.specs.declared.profile.Settles.{Settles}
use Rattle.blob_directory.specs.declared.profile.Settles.TheVariants.{All as Every, Names, Own, UpToLast, UpToLastOrSize}
use Rattle.blob_directory.specs.declared.table.Table.{Table}
use Rattle.blob_directory.specs.declared.unsettled.Synced.TheVariants as synced
use Rattle.blob_directory.specs.declared.unsettled.Unsettled.{Unsettled}
use Rattle.blob_directory.specs.Records.{Found}
use Rattle.blob_directory.specs.Syncs.{unbound}
use Rattle.blob_directory.specs.Tables.{bound}
use Rattle.blob_journal.specs.declared.journaled.Journaled.{Journaled}
use Rattle.blob_journal.specs.Keeping.{KeepsTable, KeepsTold as keeps_told, names_in, told_in}
use Rattle.blob_journal.specs.Moves.{BindsMoved, TellsAgain, binding_told}
use Rattle.blob_journal.specs.Settling.{SettledAfter, unsettled_of}
use Rattle.blob_journal.specs.Told.{OnlySettles}
use Rattle.blob_fs.specs.declared.file_system.FileSystem.{FileSystem}
use Rattle.blob_fs.specs.Files.{IfNames, KeepsJournal, KeepsNames, KeepsTold, SettlesEdits, SettlesSome, SettlesSomeOf, SyncsDirectory, SyncsMoved, TellsAndSettles, settles_of, told_of}
use Rattle.blob_fs.proofs.Growing.{grows_kept}

-- none was settled
pub settles_kept : (a b : List Found) → b ≡ a → OnlySettles a b
settles_kept a b same = record { grows = grows_kept a b same; length = ap (λ (l : List Found). length l) same }

pub settles_then : (a b c : List Found) → OnlySettles a b → c ≡ b → OnlySettles a c
settles_then a b c s same = subst (λ (l : List Found). OnlySettles a l) (sym same) s

pub settles_from : (a b c : List Found) → b ≡ a → OnlySettles b c → OnlySettles a c
settles_from a b c same s = subst (λ (l : List Found). OnlySettles l c) same s

-- By what syncs settle.

pub if_names : (A B : Type 0) (s : Settles) → s ≡ Names → A → IfNames s A B
if_names A B s is a = subst (λ (x : Settles). IfNames x A B) (sym is) a

pub if_other : (A B : Type 0) (s : Settles) → (s ≡ Names → ⊥) → B → IfNames s A B
if_other A B Names other b = absurd (other refl)
if_other A B Own other b = b
if_other A B UpToLast other b = b
if_other A B UpToLastOrSize other b = b
if_other A B Every other b = b

map_if : {A B C D : Type 0} (s : Settles) → (A → C) → (B → D) → IfNames s A B → IfNames s C D
map_if Names f g a = f a
map_if Own f g b = g b
map_if UpToLast f g b = g b
map_if UpToLastOrSize f g b = g b
map_if Every f g b = g b

-- A call before it that keeps the names and the edits.

told_from : {R : Type 0} (a b c : Journaled R) → KeepsTable a b → keeps_told a b → TellsAgain b c → TellsAgain a c
told_from a b c names told x = record {
  again = x.again;
  seen = subst (λ (t : Table). All (λ n. bound t n.0 ≡ Some n.1) x.again) names x.seen;
  told = x.told ∙ ap (λ (l : List Found). l ++ map binding_told x.again) told;
}

bound_from : {R : Type 0} (d : ℕ) (a b c : Journaled R) → KeepsTable a b → unsettled_of b ≡ unsettled_of a → BindsMoved d b c → BindsMoved d a c
bound_from d a b c names same x = record {
  more = x.more;
  is = x.is ∙ ap (λ (l : List Unsettled). map (unbound d) l ++ x.more) same;
  bound = λ e there moved n new seen. x.bound e (subst (λ (l : List Unsettled). Contains l e) (sym same) there) moved n new (ap (λ (t : Table). bound t n.0) names ∙ seen);
}

tells_some : {R : Type 0} (a b c : FileSystem R) → KeepsNames a b → KeepsTold a b → TellsAndSettles b c → TellsAndSettles a c
tells_some a b c names told x = record { between = x.between; told = told_from a.store b.store x.between.store names told x.told; some = x.some }

tells_kept : {R : Type 0} (a b : FileSystem R) → KeepsTold a b → TellsAndSettles a b
tells_kept a b told = record {
  between = a;
  told = record { again = []; seen = All-nil (λ n. names_in a.store n.0 ≡ Some n.1); told = sym (append-nil (told_in a.store)) };
  some = settles_kept (told_of a) (told_of b) told;
}

pub some_kept : {R : Type 0} (a b : FileSystem R) → KeepsTold a b → SettlesSomeOf a b
some_kept a b told = by (settles_of a)
  where
    by : (s : Settles) → IfNames s (TellsAndSettles a b) (SettlesSome a b)
    by Names = tells_kept a b told
    by Own = settles_kept (told_of a) (told_of b) told
    by UpToLast = settles_kept (told_of a) (told_of b) told
    by UpToLastOrSize = settles_kept (told_of a) (told_of b) told
    by Every = settles_kept (told_of a) (told_of b) told

pub some_from : {R : Type 0} (a b c : FileSystem R) → KeepsNames a b → KeepsTold a b → settles_of b ≡ settles_of a → SettlesSomeOf b c → SettlesSomeOf a c
some_from a b c names told same x =
    map_if (settles_of a) (tells_some a b c names told) (settles_from (told_of a) (told_of b) (told_of c) told)
    (subst (λ (s : Settles). IfNames s (TellsAndSettles b c) (SettlesSome b c)) same x)

pub directory_from : {R : Type 0} (after : SettledAfter R) (d : ℕ) (a b c : FileSystem R) → KeepsNames a b → KeepsJournal a b → settles_of b ≡ settles_of a → SyncsDirectory b d c → SyncsDirectory a d c
directory_from after d a b c names keeps same x =
    map_if (settles_of a)
    (λ m. record {
      between = m.between;
      told = told_from a.store b.store m.between.store names keeps.told m.told;
      bound = bound_from d a.store b.store m.between.store names keeps.unsettled m.bound;
      settled = m.settled;
    })
    (after (settles_of a) (synced.Directory d) a.store b.store c.store keeps)
    (subst (λ (s : Settles). IfNames s (SyncsMoved b d c) (SettlesEdits s (synced.Directory d) b c)) same x)
