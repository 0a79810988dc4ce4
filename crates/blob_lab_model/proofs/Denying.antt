-- Each result that a wrapper over memory may return is the expected one of the state, or `Memory`.
use Rattle.std.proofs.Common.{◌≡◌, ℕ, max, ◌+◌, ◌≤◌, ◌<◌, suc, inl, inr, Bool, true, false, not, ◌&&◌, List, [], ◌∷◌, length, Option, Some, None, refl, sym, ap, ◌∙◌, subst, if◌then◌else◌, arith, ⊎_elim}
use Rattle.std.specs.Prelude.{MatchBool}
use Rattle.std.proofs.lemmas.Bool.{false≢true}
use Rattle.std.proofs.lemmas.Bool.Decides.{nat_tests}
use Rattle.std.specs.Option.{option_or}
use Rattle.blob_model.specs.Directory.{Directory, is_current}
use Rattle.blob_model.specs.Places.{Place}
use Rattle.blob_header.specs.Refusals.{Refusal, Memory, Injected, OffsetOverflow, GenerationsExhausted}
use Rattle.blob_model.specs.Runs.{Run, runs, AreRunsApart}
use Rattle.blob_draws.specs.Changes.{lacks_number, size_of_runs}
use Rattle.blob_draws.specs.Answers.{Allowed, injected_or, injected_for, or_memory, exhausted_or, last_end, one_then, allows_laid, allows_runs, allows_fate}
use Rattle.blob_draws.specs.Faults.{WriteFate, Idle, Uncounted, Done, Unsynced, Failed}
use Rattle.rand_core.specs.Stream.{Stream}
use Rattle.blob_memory.specs.Answers.{OrMemory, AllowsWrite, write_refusal, end_refusal, sync_refusal, is_uncounted, missing}
use Rattle.blob_lab_model.specs.Steps.{write_denial_by, or_injected}
use Rattle.blob_lab_model.specs.Denials.{refused_if, runs_denial}

-- the possible results are the expected one and `Memory`
abbrev Expects : Allowed → Option Refusal → Type 0
Expects inner expected = (answer : Option Refusal) → inner answer → OrMemory expected answer

-- the draw is checked first
pub drawn_denial : (b : Bool) (inner : Allowed) (expected : Option Refusal) → Expects inner expected → Expects (injected_or b inner) (option_or (refused_if Injected b) expected)
drawn_denial true inner expected i answer a = inr a
drawn_denial false inner expected i answer a = i answer a

-- then the number
pub numbered_denial : (b : Bool) (inner : Allowed) (expected : Option Refusal) → Expects inner expected → Expects (exhausted_or b inner) (option_or (refused_if GenerationsExhausted b) expected)
numbered_denial true inner expected i answer a = inr a
numbered_denial false inner expected i answer a = i answer a

pub memory_denial : (inner : Allowed) (expected : Option Refusal) → Expects inner expected → Expects (or_memory inner) expected
memory_denial inner expected i answer (inl m) = inl m
memory_denial inner expected i answer (inr a) = i answer a

refused_first : (r : Refusal) (expected later : Option Refusal) → Some r ≡ expected → Some r ≡ option_or expected later
refused_first r expected later e = subst (λ (x : Option Refusal). Some r ≡ option_or x later) e refl

pub not_memory : (expected : Option Refusal) → OrMemory expected None → None ≡ expected
not_memory expected (inl m) = cc
not_memory expected (inr e) = e

-- a call that fails, unless the store has an error
pub injected_denial : (inner : Allowed) (expected : Option Refusal) → Expects inner expected → Expects (injected_for inner) (or_injected expected)
injected_denial inner expected i answer (inl (e, a)) = inr (e ∙ ap or_injected (not_memory expected (i None a)))
injected_denial inner expected i None (inr (some, a)) = absurd (false≢true some)
injected_denial inner expected i (Some r) (inr (some, a)) = ⊎_elim (λ (m : Some r ≡ Some Memory). inl m) (λ (e : Some r ≡ expected). inr (refused_first r expected (Some Injected) e)) (i (Some r) a)

-- one call and then another
pub then_denial : (first second : Allowed) (before later : Option Refusal) → Expects first before → (before ≡ None → Expects second later) → Expects (one_then first second) (option_or before later)
then_denial first second before later f s None (inl (some, a)) = absurd (false≢true some)
then_denial first second before later f s (Some r) (inl (some, a)) = ⊎_elim (λ (m : Some r ≡ Some Memory). inl m) (λ (e : Some r ≡ before). inr (refused_first r before later e)) (f (Some r) a)
then_denial first second before later f s answer (inr (none, a)) =
    let free : before ≡ None = sym (not_memory before (f None none)) in
    subst (λ (x : Option Refusal). OrMemory (option_or x later) answer) (sym free) (s free answer a)

module _ (d : Directory) (o : Place) (room : Bool → ℕ) where
  abbrev writes : ℕ → List ℕ → Bool → Allowed
  writes offset bytes sync answer = AllowsWrite d o room offset bytes sync answer

  abbrev reserves : ℕ → Allowed
  reserves end answer = OrMemory (end_refusal o end) answer

  pub write_denied : (offset : ℕ) (bytes : List ℕ) (sync : Bool) → Expects (writes offset bytes sync) (write_refusal d o offset bytes sync)
  write_denied offset bytes sync answer (inl m) = inl m.0
  write_denied offset bytes sync answer (inr e) = inr e

  counted : (n : ℕ) → (if is_uncounted n then Some OffsetOverflow else None) ≡ None → is_uncounted n ≡ false
  counted n e = by_test (is_uncounted n) refl where
    by_test : (b : Bool) → is_uncounted n ≡ b → is_uncounted n ≡ false
    by_test false t = t
    by_test true t = absurd (never (subst (λ (b : Bool). (if b then Some OffsetOverflow else None) ≡ None) t e)) where
      never : Some OffsetOverflow ≡ None → ⊥
      never x = cc

  -- the first of some runs with ends that don't overflow: it isn't empty, so only a stale handle has an error
  first_denied : (offset : ℕ) (bytes : List ℕ) → 0 < length bytes → is_uncounted (offset + o.start + length bytes) ≡ false → write_refusal d o offset bytes true ≡ sync_refusal d o
  first_denied offset [] some within = absurd (omega arith)
  first_denied offset (b ∷ bytes) some within = ap (λ (t : Bool). if t then Some OffsetOverflow else if true && not (is_current d o) then Some (missing o) else None) within ∙ by_test (is_current d o) where
    by_test : (c : Bool) → (if false then Some OffsetOverflow else if true && not c then Some (missing o) else None) ≡ (if c then None else Some (missing o))
    by_test true = refl
    by_test false = refl

  -- each run ends after the one before
  ends_rise : (from before : ℕ) (rs : List Run) → before ≤ from → AreRunsApart from rs → before ≤ last_end before rs
  ends_rise from before [] below apart = omega arith
  ends_rise from before (r ∷ rs) below apart =
      let more : r.0 + length r.1 ≤ last_end (r.0 + length r.1) rs = ends_rise (suc (r.0 + length r.1)) (r.0 + length r.1) rs (omega arith) apart.2 in
      let first : from ≤ r.0 = apart.0 in
      omega arith

  greatest_last : (from before : ℕ) (rs : List Run) → before ≤ from → AreRunsApart from rs → size_of_runs before rs ≡ last_end before rs
  greatest_last from before [] below apart = refl
  greatest_last from before (r ∷ rs) below apart =
      let first : from ≤ r.0 = apart.0 in
      let later : max before (r.0 + length r.1) ≡ r.0 + length r.1 = omega arith in
      ap (λ (most : ℕ). size_of_runs most rs) later ∙ greatest_last (suc (r.0 + length r.1)) (r.0 + length r.1) rs (omega arith) apart.2

  within_last : (first last : ℕ) → first ≤ last → is_uncounted (last + o.start) ≡ false → (offset len : ℕ) → offset + len ≡ first → is_uncounted (offset + o.start + len) ≡ false
  within_last first last below counted offset len same = grind (arith, nat_tests)

  pub runs_denied : (from : ℕ) (rs : List Run) → AreRunsApart from rs → Expects (injected_for (allows_runs writes reserves true rs)) (runs_denial d o rs)
  runs_denied from [] apart answer (inl (e, a)) = inr e
  runs_denied from [] apart None (inr (some, a)) = absurd (false≢true some)
  runs_denied from [] apart (Some r) (inr (some, a)) = cc
  runs_denied from (r ∷ rs) apart answer a =
      let end = last_end 0 (r ∷ rs) in
      let more : r.0 + length r.1 ≤ last_end (r.0 + length r.1) rs = ends_rise (suc (r.0 + length r.1)) (r.0 + length r.1) rs (omega arith) apart.2 in
      let laid : end_refusal o end ≡ None → Expects (allows_laid writes true (r ∷ rs)) (sync_refusal d o) = λ free answer' a'.
      ⊎_elim (λ w.
      let e : write_refusal d o r.0 r.1 true ≡ sync_refusal d o = first_denied r.0 r.1 apart.1 (within_last (r.0 + length r.1) end more (counted (end + o.start) free) r.0 (length r.1) refl) in
      subst (λ (x : Option Refusal). OrMemory x answer') e (write_denied r.0 r.1 true answer' w))
      (λ no. absurd (false≢true (sym no.1))) a' in
      subst (λ (most : ℕ). OrMemory (or_injected (option_or (end_refusal o most) (sync_refusal d o))) answer) (sym (greatest_last from 0 (r ∷ rs) (omega arith) apart))
      (injected_denial (allows_runs writes reserves true (r ∷ rs)) (option_or (end_refusal o end) (sync_refusal d o))
      (then_denial (reserves end) (allows_laid writes true (r ∷ rs)) (end_refusal o end) (sync_refusal d o) (λ answer' m. m) laid) answer a)

  pub fate_denied : (fate : WriteFate) (retained : Bool) (next : ℕ) (sync : Bool) (offset : ℕ) (bytes : List ℕ) → ((chosen : List Bool) → AreRunsApart offset (runs offset bytes chosen))
      → Expects (allows_fate fate writes reserves true retained next sync offset bytes) (write_denial_by fate d o retained next sync offset bytes)
  fate_denied Done retained next true offset bytes apart answer a = write_denied offset bytes true answer a
  fate_denied Done retained next false offset bytes apart answer a = numbered_denial (lacks_number retained next bytes) (writes offset bytes false) (write_refusal d o offset bytes false) (write_denied offset bytes false) answer a
  fate_denied Unsynced retained next sync offset bytes apart answer a =
      numbered_denial (lacks_number retained next bytes) (injected_for (writes offset bytes false)) (or_injected (write_refusal d o offset bytes false))
      (injected_denial (writes offset bytes false) (write_refusal d o offset bytes false) (write_denied offset bytes false)) answer a
  fate_denied (Failed chosen) retained next sync offset bytes apart answer a = runs_denied offset (runs offset bytes chosen) (apart chosen) answer a
  fate_denied fate retained next sync offset bytes apart answer a = absurd a

-- a write that does nothing, or with an end that overflows, is checked first
module _ (d : Directory) (o : Place) (retained : Bool) (next : ℕ) (sync : Bool) (offset : ℕ) (bytes : List ℕ) (drawn : WriteFate × Stream) (left : Stream) where
  pub counted_denial : (nothing uncounted : Bool) (inner : Allowed) → Expects inner (write_denial_by drawn.0 d o retained next sync offset bytes)
      → Expects (λ answer. MatchBool nothing (answer ≡ None) (MatchBool uncounted (answer ≡ Some OffsetOverflow) (or_memory inner answer)))
      (write_denial_by (if nothing then (Idle, left) else if uncounted then (Uncounted, left) else drawn).0 d o retained next sync offset bytes)
  counted_denial true uncounted inner i answer a = inr a
  counted_denial false true inner i answer a = inr a
  counted_denial false false inner i answer a = memory_denial inner (write_denial_by drawn.0 d o retained next sync offset bytes) i answer a
