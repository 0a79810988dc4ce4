-- Which errors the layer's calls return if no rate is set.
use Rattle.std.proofs.Common.{◌≡◌, ◌≢◌, ◌⊎◌, inl, inr, ◌&&◌, ◌+◌, ◌-◌, ◌≤◌, ◌==◌, ◌^◌, ℕ, List, [], ◌∷◌, Bool, true, false, not, cond, Option, Some, None, length, arith, ap, refl, subst, sym, ⊎_elim, ◌∙◌}
use Rattle.std.specs.Option.{option_or}
use Rattle.std.specs.Prelude.{MatchBool, if◌then◌else◌, is_none, is_some, nat_lt}
use Rattle.std.specs.Str.{bytes_eq}
use Rattle.std.proofs.lemmas.Option.{none-some}
use Rattle.std.proofs.lemmas.Bool.{and_parts, cases_Bool, eq-eqb, eqb-true, false≢true, ltb-true, not-true}
use Rattle.rand_core.specs.Stream.{Stream}
use Rattle.blob_header.specs.PartitionName.{is_partition_name}
use Rattle.blob_header.specs.Refusals.{BlobAlreadyOpen, BlobCorrupt, BlobInsufficientLength, BlobLayoutMismatch, BlobMissing, BlobVersionMismatch, Closed, GenerationsExhausted, Injected, Memory, OffsetOverflow, PartitionMissing, PartitionNameInvalid, ReadFailed, Refusal, WriteFailed, refused_if}
use Rattle.blob_header.specs.declared.layout.Layout.{Layout}
use Rattle.blob_model.specs.Directory.{Directory, File, Incarnation, Raw, directory_without, is_current, is_that, with_file}
use Rattle.blob_model.specs.Durable.{Durable}
use Rattle.blob_model.specs.Live.{is_idle}
use Rattle.blob_model.specs.Opening.{Begins, Begun, Continued, IsOpened, Opening, opening}
use Rattle.blob_model.specs.Places.{Place}
use Rattle.blob_draws.specs.Answers.{Allowed, allows_fate, allows_resize, allows_write, exhausted_or, injected_or, or_memory}
use Rattle.blob_draws.specs.Changes.{lacks_number}
use Rattle.blob_draws.specs.Fates.{has_uncounted_end}
use Rattle.blob_draws.specs.Faults.{draw, drawn_fate, resize_fate}
use Rattle.blob_draws.specs.declared.config.Config.{Config}
use Rattle.blob_memory.specs.Answers.{AllowsWrite, OrMemory, end_refusal, is_uncounted, missing, open_refusal, opening_refusal, read_refusal, remove_refusal, sync_refusal, write_refusal}
use Rattle.blob_memory.specs.Store.{directory}
use Rattle.blob_memory.specs.declared.storage.Storage as memory
use Rattle.blob_faulty.specs.Keeps.{OverMemory}
use Rattle.blob_faulty.specs.Wrapper.{inner_of}
use Rattle.blob_journal.specs.Limits.{AcceptsOpens, IsLimit, IsRemoval, KeepsAccepted, is_accepted, is_missing, no_faults}

-- the same directory
pub still_accepted : {R : Type 0} (before after : OverMemory R) → directory (inner_of after) ≡ directory (inner_of before) → KeepsAccepted before after
still_accepted before after same = λ all. subst (λ (d : Directory). AcceptsOpens d) (sym same) all

chosen : (b : Bool) (x y : Option File) → is_accepted x ≡ true → is_accepted y ≡ true → is_accepted (cond b x y) ≡ true
chosen true x y hx hy = hx
chosen false x y hx hy = hy

-- with one more file that is accepted, or without a file
with_accepted : (f : List ℕ → List ℕ → Option File) (p n : List ℕ) (new : Option File) → is_accepted new ≡ true → ((q m : List ℕ) → is_accepted (f q m) ≡ true)
    → (q m : List ℕ) → is_accepted (with_file f p n new q m) ≡ true
with_accepted f p n new h all q m = chosen (bytes_eq p q) (cond (bytes_eq n m) new (f q m)) (f q m) (chosen (bytes_eq n m) new (f q m) h (all q m)) (all q m)

-- an open that isn't refused has a number left
unless_last : (b : Bool) → refused_if GenerationsExhausted b ≡ None → b ≡ false
unless_last true h = absurd (none-some _ (sym h))
unless_last false h = refl

counted : (valid : Bool) (p : List ℕ) (o : Opening) (layout : Layout) (version : ℕ) (live : List ℕ) (next : ℕ) → o ≡ Begins layout version live
    → (if not valid then Some (PartitionNameInvalid p) else opening_refusal o next) ≡ None → (next == 2 ^ 64 - 1) ≡ false
counted false p o layout version live next is h = absurd (none-some _ (sym h))
counted true p o layout version live next is h = unless_last (next == 2 ^ 64 - 1) (subst (λ (x : Opening). opening_refusal x next ≡ None) is h)

pub unrefused : (b : Bool) (d : Directory) (p n : List ℕ) → injected_or b (OrMemory (open_refusal d p n 0 0)) None → open_refusal d p n 0 0 ≡ None
unrefused true d p n h = absurd (none-some _ h)
unrefused false d p n h = ⊎_elim (λ e. absurd (none-some _ e)) (λ e. sym e) h

-- an open for version 0 begins an incarnation of this version, if it begins one
pub opened_accepted : (d : Directory) (b : Durable) (d' : Directory) (b' : Durable) (p n : List ℕ) (o : Place) (bytes : List ℕ)
    → IsOpened d b d' b' p n 0 0 o bytes 0 → open_refusal d p n 0 0 ≡ None → AcceptsOpens d → AcceptsOpens d'
opened_accepted d b d' b' p n o bytes (Continued number layout found is here same unchanged) free all = subst (λ (x : Directory). AcceptsOpens x) (sym same) all
opened_accepted d b d' b' p n o bytes (Begun layout found is made unchanged) free all =
    subst (λ (x : Directory). AcceptsOpens x) (sym made) (with_accepted d.file p n (Some (Incarnation d.next layout 0)) (ap not (counted (is_partition_name p) p (opening p n (d.file p n) 0 0) layout 0 bytes d.next found free)) all)

pub removed_accepted : (d d' : Directory) (p n : List ℕ) → d' ≡ directory_without d p (Some n) → AcceptsOpens d → AcceptsOpens d'
removed_accepted d d' p n gone all = subst (λ (x : Directory). AcceptsOpens x) (sym gone) (with_accepted d.file p n None refl all)

pub no_files : (d : Directory) → ((p n : List ℕ) → d.file p n ≡ None) → AcceptsOpens d
no_files d none = λ p n. ap is_accepted (none p n)

-- The answers of the memory store. No call but an open that begins a blob needs a number: the others answer the same whatever the next number is.

limit_if : (next : ℕ) (r : Refusal) → IsLimit next (Some r) → (b : Bool) → IsLimit next (refused_if r b)
limit_if next r h true = h
limit_if next r h false = tt

-- a refusal for a reason that isn't there
none_if : (next : ℕ) (r : Refusal) (b : Bool) → b ≡ false → IsLimit next (refused_if r b)
none_if next r b never = subst (λ (x : Bool). IsLimit next (refused_if r x)) (sym never) tt

limit_or : (next : ℕ) (expected answer : Option Refusal) → IsLimit next expected → OrMemory expected answer → IsLimit next answer
limit_or next expected answer h = ⊎_elim (λ e. subst (IsLimit next) (sym e) tt) (λ e. subst (IsLimit next) (sym e) h)

-- an open that begins a blob is refused only at the last number
at_last : (next : ℕ) (b : Bool) → (next == 2 ^ 64 - 1) ≡ b → IsLimit next (refused_if GenerationsExhausted b)
at_last next true is = eqb-true next (2 ^ 64 - 1) is
at_last next false is = tt

opening_limits : (p n : List ℕ) (file : Option File) (next : ℕ) → is_accepted file ≡ true → IsLimit next (opening_refusal (opening p n file 0 0) next)
opening_limits p n None next h = at_last next (next == 2 ^ 64 - 1) refl
opening_limits p n (Some (Raw raw)) next h = absurd (false≢true h)
opening_limits p n (Some (Incarnation number layout version)) next h =
    subst (λ v. IsLimit next (opening_refusal (opening p n (Some (Incarnation number layout v)) 0 0) next)) (sym (eqb-true version 0 (and_parts (version == 0) _ h).0)) tt

open_limits : (d : Directory) (p n : List ℕ) → is_partition_name p ≡ true → AcceptsOpens d → IsLimit d.next (open_refusal d p n 0 0)
open_limits d p n valid all =
    subst (λ (b : Bool). IsLimit d.next (if not b then Some (PartitionNameInvalid p) else opening_refusal (opening p n (d.file p n) 0 0) d.next)) (sym valid) (opening_limits p n (d.file p n) d.next (all p n))

read_limits : (next : ℕ) (o : Place) (live : List ℕ) (offset len : ℕ) → offset + len ≤ length live → IsLimit next (read_refusal o live offset len)
read_limits next o live offset len within = by_count (is_uncounted (offset + o.start + len)) where
  by_count : (b : Bool) → IsLimit next (if b then Some OffsetOverflow else refused_if BlobInsufficientLength (nat_lt (length live) (offset + len)))
  by_count true = tt
  by_count false = none_if next BlobInsufficientLength (nat_lt (length live) (offset + len))
      (⊎_elim (λ y. let below = ltb-true (length live) (offset + len) y in absurd (omega (arith, within, below))) (λ n. n) (cases_Bool (nat_lt (length live) (offset + len))))

end_limits : (next : ℕ) (o : Place) (end : ℕ) → IsLimit next (end_refusal o end)
end_limits next o end = limit_if next OffsetOverflow tt (is_uncounted (end + o.start))

sync_limits : (next : ℕ) (d : Directory) (o : Place) → is_current d o ≡ true → IsLimit next (sync_refusal d o)
sync_limits next d o here = subst (λ (b : Bool). IsLimit next (if b then None else Some (missing o))) (sym here) tt

-- whether a write is refused because its incarnation isn't current
is_missed : (sync : Bool) (d : Directory) (o : Place) → (sync ≡ true → is_current d o ≡ true) → (sync && not (is_current d o)) ≡ false
is_missed true d o here = ap not (here refl)
is_missed false d o here = refl

write_limits : (next : ℕ) (d : Directory) (o : Place) (offset : ℕ) (bytes : List ℕ) (sync : Bool) → (sync ≡ true → is_current d o ≡ true) → IsLimit next (write_refusal d o offset bytes sync)
write_limits next d o offset bytes sync here = by_idle (is_idle sync bytes) where
  by_count : (b : Bool) → IsLimit next (if b then Some OffsetOverflow else refused_if (missing o) (sync && not (is_current d o)))
  by_count true = tt
  by_count false = none_if next (missing o) (sync && not (is_current d o)) (is_missed sync d o here)

  by_idle : (b : Bool) → IsLimit next (if b then None else if is_uncounted (offset + o.start + length bytes) then Some OffsetOverflow else refused_if (missing o) (sync && not (is_current d o)))
  by_idle true = tt
  by_idle false = by_count (is_uncounted (offset + o.start + length bytes))

write_answers : (next : ℕ) (d : Directory) (o : Place) (room : Bool → ℕ) (offset : ℕ) (bytes : List ℕ) (sync : Bool) (answer : Option Refusal) → (sync ≡ true → is_current d o ≡ true)
    → AllowsWrite d o room offset bytes sync answer → IsLimit next answer
write_answers next d o room offset bytes sync answer here =
    ⊎_elim (λ e. subst (IsLimit next) (sym e.0) tt) (λ e. subst (IsLimit next) (sym e) (write_limits next d o offset bytes sync here))

-- The answers of the wrapper, by its configuration.

pub open_answers : (c : Config) (stream : Stream) (d : Directory) (p n : List ℕ) (answer : Option Refusal) → c ≡ no_faults → is_partition_name p ≡ true → AcceptsOpens d
    → injected_or (draw c.open_rate stream).0 (OrMemory (open_refusal d p n 0 0)) answer → IsLimit d.next answer
open_answers c stream d p n answer quiet valid all allowed =
    limit_or d.next (open_refusal d p n 0 0) answer (open_limits d p n valid all)
    (subst (λ (x : Config). injected_or (draw x.open_rate stream).0 (OrMemory (open_refusal d p n 0 0)) answer) quiet allowed)

pub read_answers : (next : ℕ) (c : Config) (stream : Stream) (o : Place) (live : List ℕ) (offset len : ℕ) (answer : Option Refusal) → c ≡ no_faults → offset + len ≤ length live
    → injected_or (draw c.read_rate stream).0 (λ a. a ≡ read_refusal o live offset len) answer → IsLimit next answer
read_answers next c stream o live offset len answer quiet within allowed =
    let same : answer ≡ read_refusal o live offset len = subst (λ (x : Config). injected_or (draw x.read_rate stream).0 (λ a. a ≡ read_refusal o live offset len) answer) quiet allowed in
    subst (IsLimit next) (sym same) (read_limits next o live offset len within)

pub sync_answers : (next : ℕ) (c : Config) (stream : Stream) (d : Directory) (o : Place) (answer : Option Refusal) → c ≡ no_faults → is_current d o ≡ true
    → injected_or (draw c.sync_rate stream).0 (OrMemory (sync_refusal d o)) answer → IsLimit next answer
sync_answers next c stream d o answer quiet here allowed =
    limit_or next (sync_refusal d o) answer (sync_limits next d o here)
    (subst (λ (x : Config). injected_or (draw x.sync_rate stream).0 (OrMemory (sync_refusal d o)) answer) quiet allowed)

pub resize_answers : (next : ℕ) (c : Config) (stream : Stream) (o : Place) (size len : ℕ) (answer : Option Refusal) → c ≡ no_faults
    → allows_resize (λ end. OrMemory (end_refusal o end)) (resize_fate c.resize_rate size len stream).0 len answer → IsLimit next answer
resize_answers next c stream o size len answer quiet allowed =
    ⊎_elim (λ e. subst (IsLimit next) (sym e) tt) (limit_or next (end_refusal o len) answer (end_limits next o len))
    (subst (λ (x : Config). allows_resize (λ end. OrMemory (end_refusal o end)) (resize_fate x.resize_rate size len stream).0 len answer) quiet allowed)

-- a write that draws nothing asks the inner store once, unless it is idle or its end overflows
one_of : (next : ℕ) (b : Bool) (P Q : Type 0) (answer : Option Refusal) → (P → IsLimit next answer) → (Q → IsLimit next answer) → MatchBool b P Q → IsLimit next answer
one_of next true P Q answer p q = p
one_of next false P Q answer p q = q

needs_none : (next : ℕ) (bytes : List ℕ) → lacks_number false next bytes ≡ false
needs_none next [] = refl
needs_none next (b ∷ bytes) = refl

-- a write of which nothing may be kept takes no number of a write
asked_once : (limit : ℕ) (writes : ℕ → List ℕ → Bool → Allowed) (reserves : ℕ → Allowed) (direct : Bool) (next : ℕ) (stream : Stream) (offset : ℕ) (bytes : List ℕ) (sync : Bool) (answer : Option Refusal)
    → (writes offset bytes sync answer → IsLimit limit answer)
    → or_memory (allows_fate (drawn_fate no_faults sync offset (length bytes) stream).0 writes reserves direct false next sync offset bytes) answer → IsLimit limit answer
asked_once limit writes reserves direct next stream offset bytes true answer h = ⊎_elim (λ e. subst (IsLimit limit) (sym e) tt) h
asked_once limit writes reserves direct next stream offset bytes false answer h =
    ⊎_elim (λ e. subst (IsLimit limit) (sym e) tt) (λ x. h (subst (λ (b : Bool). exhausted_or b (writes offset bytes false) answer) (needs_none next bytes) x))

undrawn : (limit : ℕ) (writes : ℕ → List ℕ → Bool → Allowed) (reserves : ℕ → Allowed) (direct : Bool) (next : ℕ) (stream : Stream) (offset : ℕ) (bytes : List ℕ) (sync : Bool) (answer : Option Refusal)
    → (writes offset bytes sync answer → IsLimit limit answer) → allows_write writes reserves direct no_faults next stream offset bytes sync answer → IsLimit limit answer
unfolding allows_write
undrawn limit writes reserves direct next stream offset bytes sync answer h =
    one_of limit (is_idle sync bytes) _ _ answer (λ e. subst (IsLimit limit) (sym e) tt)
    (one_of limit (has_uncounted_end offset bytes) _ _ answer (λ e. subst (IsLimit limit) (sym e) tt) (asked_once limit writes reserves direct next stream offset bytes sync answer h))

pub write_allowed : (limit : ℕ) (c : Config) (reserves : ℕ → Allowed) (direct : Bool) (next : ℕ) (stream : Stream) (d : Directory) (o : Place) (room : Bool → ℕ) (offset : ℕ) (bytes : List ℕ) (sync : Bool) (answer : Option Refusal)
    → c ≡ no_faults → (sync ≡ true → is_current d o ≡ true) → allows_write (AllowsWrite d o room) reserves direct c next stream offset bytes sync answer → IsLimit limit answer
write_allowed limit c reserves direct next stream d o room offset bytes sync answer quiet here allowed =
    undrawn limit (AllowsWrite d o room) reserves direct next stream offset bytes sync answer (write_answers limit d o room offset bytes sync answer here)
    (subst (λ (x : Config). allows_write (AllowsWrite d o room) reserves direct x next stream offset bytes sync answer) quiet allowed)

-- a removal is refused only if there is no such blob
removal_limits : (p m : List ℕ) (valid there none : Bool) → valid ≡ true
    → IsRemoval (option_or (if not valid then Some (PartitionNameInvalid p) else refused_if (PartitionMissing p) (not there)) (refused_if (BlobMissing p m) none))
removal_limits p m false there none e = absurd (false≢true e)
removal_limits p m true false none e = tt
removal_limits p m true true true e = tt
removal_limits p m true true false e = tt

pub remove_answers : (c : Config) (stream : Stream) (d : Directory) (p n : List ℕ) (answer : Option Refusal) → c ≡ no_faults → is_partition_name p ≡ true
    → injected_or (draw c.remove_rate stream).0 (OrMemory (remove_refusal d p (Some n))) answer → IsRemoval answer
remove_answers c stream d p n answer quiet valid allowed =
    ⊎_elim (λ e. subst IsRemoval (sym e) tt) (λ e. subst IsRemoval (sym e) (removal_limits p _ (is_partition_name p) (d.has_partition p) (is_none (d.file p n)) valid))
    (subst (λ (x : Config). injected_or (draw x.remove_rate stream).0 (OrMemory (remove_refusal d p (Some n))) answer) quiet allowed)

-- such a refusal says that the partition or the name is missing
missing_by : (p m : List ℕ) (valid there none : Bool)
    → is_missing (option_or (if not valid then Some (PartitionNameInvalid p) else refused_if (PartitionMissing p) (not there)) (refused_if (BlobMissing p m) none)) ≡ true → (there ≡ false) ⊎ (none ≡ true)
missing_by p m false there none h = absurd (false≢true h)
missing_by p m true false none h = inl refl
missing_by p m true true true h = inr refl
missing_by p m true true false h = absurd (false≢true h)

none_of : {T : Type 0} (v : Option T) → is_none v ≡ true → v ≡ None
none_of None h = refl
none_of (Some x) h = absurd (false≢true h)

not_some : {T : Type 0} (v : Option T) → is_some v ≡ false → v ≡ None
not_some None h = refl
not_some (Some x) h = absurd (false≢true (sym h))

-- a partition that isn't there has no names
no_names : (s : memory.Storage) (p n : List ℕ) → (directory s).has_partition p ≡ false → (directory s).file p n ≡ None
no_names s p n h = rw (not_some _ h) refl

-- so there is no such blob
pub missing_gone : (b : Bool) (s : memory.Storage) (p n : List ℕ) (answer : Option Refusal) → injected_or b (OrMemory (remove_refusal (directory s) p (Some n))) answer
    → is_missing answer ≡ true → (directory s).file p n ≡ None
missing_gone true s p n answer allowed h = absurd (false≢true (ap is_missing (sym allowed) ∙ h))
missing_gone false s p n answer allowed h = ⊎_elim
    (λ e. absurd (false≢true (ap is_missing (sym e) ∙ h)))
    (λ e. ⊎_elim (λ there. no_names s p n there) (λ none. none_of ((directory s).file p n) none)
    (missing_by p _ (is_partition_name p) ((directory s).has_partition p) (is_none ((directory s).file p n)) (ap is_missing (sym e) ∙ h)))
    allowed

-- an error of a removal for another reason
pub memory_only : (r : Refusal) → IsRemoval (Some r) → is_missing (Some r) ≡ false → r ≡ Memory
memory_only Memory h e = refl
memory_only (BlobMissing p n) h e = absurd (false≢true (sym e))
memory_only (PartitionMissing p) h e = absurd (false≢true (sym e))
memory_only OffsetOverflow h e = absurd h
memory_only BlobInsufficientLength h e = absurd h
memory_only Closed h e = absurd h
memory_only ReadFailed h e = absurd h
memory_only WriteFailed h e = absurd h
memory_only Injected h e = absurd h
memory_only GenerationsExhausted h e = absurd h
memory_only (PartitionNameInvalid p) h e = absurd h
memory_only (BlobAlreadyOpen p n) h e = absurd h
memory_only (BlobCorrupt p n m) h e = absurd h
memory_only (BlobLayoutMismatch a b c) h e = absurd h
memory_only (BlobVersionMismatch a b c) h e = absurd h

-- a file whose number isn't the last one
pub not_last : (d : Directory) (p n : List ℕ) (number : ℕ) (layout : Layout) → AcceptsOpens d → d.file p n ≡ Some (Incarnation number layout 0) → (number == 2 ^ 64 - 1) ≡ false
not_last d p n number layout all is = not-true (number == 2 ^ 64 - 1) (ap is_accepted (sym is) ∙ all p n)

-- a current incarnation's number isn't the last one
pub current_not_last : (d : Directory) (o : Place) → AcceptsOpens d → is_current d o ≡ true → o.number ≢ 2 ^ 64 - 1
current_not_last d o all here last = at (d.file o.partition o.name) (all o.partition o.name) here where
  at : (f : Option File) → is_accepted f ≡ true → is_that f o.number o.start ≡ true → ⊥
  at None ok e = false≢true e
  at (Some (Raw raw)) ok e = false≢true ok
  at (Some (Incarnation number layout version)) ok e =
      let same : number ≡ o.number = eqb-true number o.number (and_parts (number == o.number) _ e).0 in
      false≢true (sym (not-true (number == 2 ^ 64 - 1) (and_parts (version == 0) _ ok).1) ∙ eq-eqb number (2 ^ 64 - 1) (same ∙ last))
