-- What a crash and the open after it leave.
use Rattle.std.proofs.Common.{◌≡◌, ◌⊎◌, ℕ, Bool, true, false, List, [], Option, Some, None, refl, sym, ◌∙◌, ap, ap₂, subst, inl, inr}
use Rattle.std.proofs.lemmas.Bool.{false≢true}
use Rattle.std.specs.Prelude.{is_none}
use Rattle.std.specs.Coded.{Coded-set, coded_option, coded_ℕ}
use base.Stored.{coded_list}
use Rattle.rand_core.specs.Stream.{Stream}
use Rattle.blob_header.specs.Refusals.{Refusal, Memory}
use Rattle.blob_model.specs.Draws.{Row}
use Rattle.blob_model.specs.Files.{Files}
use Rattle.blob_model.specs.Log.{Choices}
use Rattle.blob_model.specs.Rates.{Rate}
use Rattle.blob_draws.specs.Answers.{injected_or}
use Rattle.blob_draws.specs.Faults.{draw}
use Rattle.blob_memory.specs.Answers.{OrMemory}
use Rattle.blob_model.specs.Pending.{Pending}
use Rattle.blob_model.specs.Stands.{replayed_at}
use Rattle.blob_disk.specs.Outcomes.{MayLeave}

-- what the crash left is an outcome
replayed_none : (t : Choices) (v : Option (List ℕ)) → replayed_at t [] v ≡ v
replayed_none t None = refl
replayed_none t (Some x) = refl

pub left_by_crash : (x y : List ℕ) (q : List Pending) (b b' : Option (List ℕ)) (t : Choices) → b' ≡ replayed_at t q b → (y ≡ x) ⊎ (b' ≡ Some y) → MayLeave x q b y
left_by_crash x y q b b' t e (inl same) = inl same
left_by_crash x y q b b' t e (inr is) = inr (t, sym e ∙ is)

-- and so is what a crash would leave of that
pub no_more : (x y : List ℕ) (q q' : List Pending) (b b' : Option (List ℕ)) (t : Choices) → b' ≡ replayed_at t q b → q' ≡ [] → (y ≡ x) ⊎ (b' ≡ Some y) → (c : List ℕ) → MayLeave y q' b' c → MayLeave x q b c
no_more x y q q' b b' t e none was c (inl is) = subst (λ (z : List ℕ). MayLeave x q b z) (sym is) (left_by_crash x y q b b' t e was)
no_more x y q q' b b' t e none was c (inr (s, is)) = inr (t, sym e ∙ sym (replayed_none s b') ∙ ap (λ (p : List Pending). replayed_at s p b') (sym none) ∙ is)

-- two contents that may be missing are equal in one way
pub one_way : (x y : Option (List ℕ)) → IsProp (x ≡ y)
one_way x y = Coded-set (coded_option (coded_list coded_ℕ)) x y

-- an open that the memory store doesn't refuse
is_nothing : {X : Type 0} (o : Option X) → is_none o ≡ true → o ≡ None
is_nothing None e = refl
is_nothing (Some x) e = absurd (false≢true e)

pub may_reopen : (fails : Bool) (expected answer : Option Refusal) → is_none expected ≡ true → injected_or fails (OrMemory expected) answer → injected_or fails (λ a. (a ≡ Some Memory) ⊎ (a ≡ None)) answer
may_reopen true expected answer is h = h
may_reopen false expected answer is (inl e) = inl e
may_reopen false expected answer is (inr e) = inr (e ∙ is_nothing expected is)

-- an answer by a draw that is known as another's
pub may_crash : (I : Files → Type 0) (fails : Bool) (by : Files → Bool) (answer : Option Refusal) → ((f : Files) → I f → by f ≡ fails) → injected_or fails (λ a. (a ≡ Some Memory) ⊎ (a ≡ None)) answer →
    (answer ≡ Some Memory) ⊎ ((f : Files) → I f → injected_or (by f) (λ a. a ≡ None) answer)
may_crash I true by answer same h = inr (λ f i. subst (λ (b : Bool). injected_or b (λ a. a ≡ None) answer) (sym (same f i)) h)
may_crash I false by answer same (inl e) = inl e
may_crash I false by answer same (inr e) = inr (λ f i. subst (λ (b : Bool). injected_or b (λ a. a ≡ None) answer) (sym (same f i)) e)

-- the draw after a crash
pub draw_so : (rate rate' : Option Rate) (s s' : Stream) → rate' ≡ rate → s' ≡ s → (draw rate' s').0 ≡ (draw rate s).0
draw_so rate rate' s s' er es = ap₂ (λ (r : Option Rate) (z : Stream). (draw r z).0) er es

-- choices that are known as others
pub left_so : (rows rows' : List Row) (by : List Row → Choices) (q : List Pending) (b : Option (List ℕ)) (r : Option (List ℕ)) → rows ≡ rows' → replayed_at (by rows) q b ≡ r → replayed_at (by rows') q b ≡ r
left_so rows rows' by q b r e is = subst (λ (z : List Row). replayed_at (by z) q b ≡ r) e is
