-- Errors that a call of a memory store never returns.
use Rattle.std.specs.Prelude.{◌≡◌, ◌≢◌, ◌⊎◌, ℕ, ◌+◌, ◌-◌, ◌^◌, ◌<◌, ◌≤◌, min, nat_le, Bool, true, false, not, ◌&&◌, ◌||◌, if◌then◌else◌, List, [], ◌∷◌, length, Option, Some, None, IsTrue}
use Rattle.std.proofs.Common.{refl, sym, ap, subst, ◌∙◌, inl, inr, arith, true≢false}
use Rattle.std.proofs.lemmas.Bool.{false≢true, le-ltb}
use Rattle.std.proofs.lemmas.Bool.Decides.{nat_tests}
use Rattle.std.proofs.lemmas.Option.{none-some}
use Rattle.blob_model.specs.Live.{is_idle}
use Rattle.blob_model.specs.Directory.{Directory, is_current}
use Rattle.blob_model.specs.Places.{Place}
use Rattle.blob_header.specs.Refusals.{Refusal, OffsetOverflow, Injected, Memory}
use Rattle.blob_memory.specs.declared.blob.Blob.{Blob}
use Rattle.blob_memory.specs.declared.storage.Storage.{Storage}
use Rattle.blob_memory.specs.Answers.{is_uncounted, missing, read_refusal, write_refusal, end_refusal, OrMemory, AllowsWrite}
use Rattle.blob_memory.specs.Contents.{vec_at}
use Rattle.blob_memory.specs.Store.{directory, place, live, live_room, room, room_in, room_for}
use Rattle.blob_pages.specs.Stored.{Stored}

-- the errors that depend on no state
abbrev pub is_uncalled : Option Refusal → Bool
is_uncalled (Some Injected) = true
is_uncalled (Some Memory) = true
is_uncalled _ = false

-- whether it is `Memory`
abbrev pub is_memory : Option Refusal → Bool
is_memory (Some Memory) = true
is_memory _ = false

write_called : (d : Directory) (o : Place) (offset : ℕ) (bytes : List ℕ) (sync : Bool) → is_uncalled (write_refusal d o offset bytes sync) ≡ false
write_called d o offset bytes sync = go (is_idle sync bytes) (is_uncounted (offset + o.start + length bytes)) (sync && not (is_current d o)) where
  go : (i u m : Bool) → is_uncalled (if i then None else if u then Some OffsetOverflow else if m then Some (missing o) else None) ≡ false
  go true u m = refl
  go false true m = refl
  go false false true = refl
  go false false false = refl

end_called : (o : Place) (end : ℕ) → is_uncalled (end_refusal o end) ≡ false
end_called o end = go (is_uncounted (end + o.start)) where
  go : (u : Bool) → is_uncalled (if u then Some OffsetOverflow else None) ≡ false
  go true = refl
  go false = refl

-- a read into a buffer doesn't allocate
pub reads_alike : (b : Blob) (s : Storage) (offset len : ℕ) (answer : Option Refusal) → answer ≡ read_refusal (place b) (live b) offset len → OrMemory (read_refusal (place b) (live b) offset len) answer
reads_alike b s offset len answer is = inr is

-- no error is injected
pub write_uninjected : (b : Blob) (s : Storage) (offset : ℕ) (bytes : List ℕ) (sync : Bool) → true ≡ true
    → AllowsWrite (directory s) (place b) (room_for b s) offset bytes sync (Some Injected) → ⊥
write_uninjected b s offset bytes sync direct (inl h) = false≢true (ap is_memory h.0)
write_uninjected b s offset bytes sync direct (inr h) = true≢false (ap is_uncalled h ∙ write_called (directory s) (place b) offset bytes sync)

pub resize_uninjected : (b : Blob) (s : Storage) (len : ℕ) → true ≡ true → OrMemory (end_refusal (place b) len) (Some Injected) → ⊥
resize_uninjected b s len direct (inl h) = false≢true (ap is_memory h)
resize_uninjected b s len direct (inr h) = true≢false (ap is_uncalled h ∙ end_called (place b) len)

stale_at : (d : Directory) (o : Place) (rooms : Bool → ℕ) (offset : ℕ) (bytes : List ℕ) → is_current d o ≡ false → bytes ≢ [] → AllowsWrite d o rooms offset bytes true None → ⊥
stale_at d o rooms offset bytes stale some (inl h) = none-some _ h.0
stale_at d o rooms offset [] stale some (inr h) = some refl
stale_at d o rooms offset (b ∷ bytes) stale some (inr h) = go (is_uncounted (offset + o.start + length (b ∷ bytes))) (is_current d o) stale h where
  go : (u c : Bool) → c ≡ false → None ≡ (if u then Some OffsetOverflow else if true && not c then Some (missing o) else None) → ⊥
  go true c e z = none-some _ z
  go false true e z = true≢false e
  go false false e z = none-some _ z

-- a SYNC write of some bytes by a stale handle never returns Ok
pub stale_refused : (b : Blob) (s : Storage) (offset : ℕ) (bytes : List ℕ) → is_current (directory s) (place b) ≡ false → bytes ≢ []
    → AllowsWrite (directory s) (place b) (room_for b s) offset bytes true None → ⊥
stale_refused b s offset bytes stale some h = stale_at (directory s) (place b) (room_for b s) offset bytes stale some h

within_at : (d : Directory) (o : Place) (rooms : Bool → ℕ) (offset : ℕ) (bytes : List ℕ) → is_current d o ≡ true → offset + length bytes ≤ rooms true → AllowsWrite d o rooms offset bytes true (Some Memory) → ⊥
within_at d o rooms offset bytes now fits (inl h) = go (is_idle true bytes) (is_current d o) (nat_le (offset + length bytes) (rooms true)) now (grind (arith, nat_tests)) h.1 where
  go : (i c l : Bool) → c ≡ true → l ≡ true → IsTrue (not (i || ((not true || c) && l))) → ⊥
  go true c l e f z = false≢true z
  go false true true e f z = false≢true z
  go false true false e f z = false≢true f
  go false false l e f z = false≢true e
within_at d o rooms offset bytes now fits (inr h) = true≢false (ap is_uncalled h ∙ write_called d o offset bytes true)

-- a SYNC write by a current handle within the capacity never returns `Memory`
pub within_room : (b : Blob) (s : Storage) (offset : ℕ) (bytes : List ℕ) → is_current (directory s) (place b) ≡ true → offset + length bytes ≤ room b s
    → AllowsWrite (directory s) (place b) (room_for b s) offset bytes true (Some Memory) → ⊥
within_room b s offset bytes now fits h = within_at (directory s) (place b) (room_for b s) offset bytes now fits h

counted_room : (limit capacity : ℕ) (v : Option Stored) → room_in (min limit capacity) v ≤ limit
counted_room limit capacity None = omega arith
counted_room limit capacity (Some v) = omega arith

done_at : (d : Directory) (o : Place) (rooms : Bool → ℕ) (offset : ℕ) (bytes : List ℕ) (refusal : Refusal) → is_current d o ≡ true → offset + length bytes ≤ rooms true → rooms true ≤ 2 ^ 64 - 1 - o.start
    → AllowsWrite d o rooms offset bytes true (Some refusal) → ⊥
done_at d o rooms offset bytes refusal now fits least (inl h) =
    within_at d o rooms offset bytes now fits (inl (refl, h.1))
done_at d o rooms offset [] refusal now fits least (inr h) = none-some _ (sym h)
done_at d o rooms offset (b ∷ bytes) refusal now fits least (inr h) = go (is_uncounted (offset + o.start + length (b ∷ bytes))) (is_current d o) counted now h where
  counted : is_uncounted (offset + o.start + length (b ∷ bytes)) ≡ false
  counted = le-ltb (2 ^ 64 - 1) (offset + o.start + length (b ∷ bytes)) (omega arith)

  go : (u c : Bool) → u ≡ false → c ≡ true → Some refusal ≡ (if u then Some OffsetOverflow else if true && not c then Some (missing o) else None) → ⊥
  go true c e f z = true≢false e
  go false false e f z = false≢true f
  go false true e f z = none-some _ (sym z)

-- a SYNC write by a current handle within the capacity returns Ok
pub done_within : (b : Blob) (s : Storage) (offset : ℕ) (bytes : List ℕ) (refusal : Refusal) → true ≡ true → is_current (directory s) (place b) ≡ true → offset + length bytes ≤ room b s
    → AllowsWrite (directory s) (place b) (room_for b s) offset bytes true (Some refusal) → ⊥
done_within b s offset bytes refusal direct now fits h = done_at (directory s) (place b) (room_for b s) offset bytes refusal now fits
    (counted_room (2 ^ 64 - 1 - b.origin.start) b.live.capacity (vec_at s.contents b.origin)) h

plain_at : (d : Directory) (o : Place) (rooms : Bool → ℕ) (offset : ℕ) (bytes : List ℕ) (refusal : Refusal) → 0 < offset + length bytes → offset + length bytes ≤ rooms false → rooms false ≤ 2 ^ 64 - 1 - o.start
    → AllowsWrite d o rooms offset bytes false (Some refusal) → ⊥
plain_at d o rooms offset bytes refusal some fits least (inl h) = go (nat_le (offset + length bytes) (rooms false)) (grind (arith, nat_tests)) h.1 where
  go : (l : Bool) → l ≡ true → IsTrue (not (false || ((not false || is_current d o) && l))) → ⊥
  go true e z = false≢true z
  go false e z = false≢true e
plain_at d o rooms offset bytes refusal some fits least (inr h) = go (is_uncounted (offset + o.start + length bytes)) counted h where
  counted : is_uncounted (offset + o.start + length bytes) ≡ false
  counted = le-ltb (2 ^ 64 - 1) (offset + o.start + length bytes) (omega arith)

  go : (u : Bool) → u ≡ false → Some refusal ≡ (if u then Some OffsetOverflow else if false && not (is_current d o) then Some (missing o) else None) → ⊥
  go true e z = true≢false e
  go false e z = none-some _ (sym z)

-- a plain write within the capacity of the live bytes returns Ok
pub plain_done_within : (b : Blob) (s : Storage) (offset : ℕ) (bytes : List ℕ) (refusal : Refusal) → true ≡ true → 0 < offset + length bytes → offset + length bytes ≤ live_room b
    → AllowsWrite (directory s) (place b) (room_for b s) offset bytes false (Some refusal) → ⊥
plain_done_within b s offset bytes refusal direct some fits h = plain_at (directory s) (place b) (room_for b s) offset bytes refusal some fits (omega arith) h

less_room : (i r : Bool) (k m n : ℕ) → m ≤ n → IsTrue (not (i || (r && nat_le k n))) → IsTrue (not (i || (r && nat_le k m)))
less_room true r k m n less h = h
less_room false false k m n less h = h
less_room false true k m n less h = grind (arith, nat_tests)

-- more capacity for both kinds of writes
pub both_rooms : (room more : Bool → ℕ) → room true ≤ more true → room false ≤ more false → (sync : Bool) → room sync ≤ more sync
both_rooms room more synced plain true = synced
both_rooms room more synced plain false = plain

-- a result that more capacity allows is allowed with less
pub answers_kept : (d e : Directory) (o : Place) (room more : Bool → ℕ) → e ≡ d → ((sync : Bool) → room sync ≤ more sync) → (offset : ℕ) (bytes : List ℕ) (sync : Bool) (answer : Option Refusal)
    → AllowsWrite e o more offset bytes sync answer → AllowsWrite d o room offset bytes sync answer
answers_kept d e o room more same less offset bytes sync answer h =
    let here : AllowsWrite d o more offset bytes sync answer = subst (λ (f : Directory). AllowsWrite f o more offset bytes sync answer) same h in
    less_at here
  where
    less_at : AllowsWrite d o more offset bytes sync answer → AllowsWrite d o room offset bytes sync answer
    less_at (inl z) = inl (z.0, less_room (is_idle sync bytes) (not sync || is_current d o) (offset + length bytes) (room sync) (more sync) (less sync) z.1)
    less_at (inr z) = inr z

refusal_in : Option Refusal → Refusal
refusal_in None = Memory
refusal_in (Some r) = r

end_refused : (o : Place) (end : ℕ) (r : Refusal) → Some r ≡ end_refusal o end → r ≡ OffsetOverflow
unfolding refusal_in
end_refused o end r = go (is_uncounted (end + o.start)) where
  go : (u : Bool) → Some r ≡ (if u then Some OffsetOverflow else None) → r ≡ OffsetOverflow
  go true e = ap refusal_in e
  go false e = absurd (none-some _ (sym e))

-- a reservation fails with `OffsetOverflow` or `Memory`
pub reserve_refused : (b : Blob) (s : Storage) (end : ℕ) (r : Refusal) → OrMemory (end_refusal (place b) end) (Some r) → (r ≡ OffsetOverflow) ⊎ (r ≡ Memory)
unfolding refusal_in
reserve_refused b s end r (inl h) = inr (ap refusal_in h)
reserve_refused b s end r (inr h) = inl (end_refused (place b) end r h)
