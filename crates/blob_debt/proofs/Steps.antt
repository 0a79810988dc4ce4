-- What a change of an entry does to the name's standing.
use Rattle.std.proofs.Common.{◌≡◌, ℕ, List, ◌∷◌, Bool, true, false, not, ◌&&◌, is_none, Option, Some, None, if◌then◌else◌, refl, sym, ap, ◌∙◌, ⊎_elim, ◌||◌, ◌==◌, option_map, arith, nat_eq}
use Rattle.std.specs.Option.{option_or, option_eq}
use Rattle.std.proofs.lemmas.Bool.Decides.{nat_tests}
use Rattle.std.proofs.lemmas.Bool.{cases_Bool, false≢true}
use Rattle.blob_header.specs.Refusals.{Refusal, refusal_of}
use Rattle.blob_header.specs.declared.error.Error.{Error}
use Rattle.blob_debt.specs.declared.pending.entry.Entry.{Entry}
use Rattle.blob_debt.specs.History.{Event, settling, debt, failure, is_live, is_over, latest, is_this_number, with_operation, Settle, Settled, Close, Closed}
use Rattle.blob_debt.specs.Debts.{standing, standing_of, is_standing_over}

-- a name that is over stands as one that was never there
over_is_nothing : (l : Bool) (t : Option ℕ) (d : Bool) (f : Option Refusal) → not l && is_none t && not d && is_none f ≡ true
    → standing_of None ≡ record { latest = None; live = l; settling = t; debt = d; failure = f }
over_is_nothing false None false None e = refl
over_is_nothing false None false (Some f) e = absurd (false≢true e)
over_is_nothing false None true f e = absurd (false≢true e)
over_is_nothing false (Some t) d f e = absurd (false≢true e)
over_is_nothing true t d f e = absurd (false≢true e)

eqb_refl : (n : ℕ) → (n == n) ≡ true
eqb_refl n = grind (arith, nat_tests)

or_comm : (a b : Bool) → (a || b) ≡ (b || a)
or_comm true true = refl
or_comm true false = refl
or_comm false true = refl
or_comm false false = refl

-- a failure, or the one before it
later : Option Refusal → Option Refusal → Option Refusal
later None f = f
later (Some e) f = Some e

failure_or : (new old : Option Error) → option_map refusal_of (option_or new old) ≡ later (option_map refusal_of new) (option_map refusal_of old)
unfolding later
failure_or None old = refl
failure_or (Some e) old = refl

failure_settled : (dirty : Bool) (f : Option Refusal) (es : List Event) → failure (Settled dirty f ∷ es) ≡ later f (failure es)
unfolding later
failure_settled dirty None es = refl
failure_settled dirty (Some e) es = refl

-- an entry that changed by an event which may end the name
pub may_end : (e : Entry) (es : List Event)
    → standing_of (Some e) ≡ record (standing es) { latest = Some e.generation }
    → latest es ≡ (if is_over es then None else Some e.generation)
    → standing_of (if is_standing_over (standing_of (Some e)) then None else Some e) ≡ standing es
may_end e es same last =
    let o : is_standing_over (standing_of (Some e)) ≡ is_over es = ap is_standing_over same in
    ⊎_elim
    (λ y. ap (λ b. standing_of (if b then None else Some e)) (o ∙ y)
    ∙ over_is_nothing (is_live es) (settling es) (debt es) (failure es) y
    ∙ ap (λ k. record (standing es) { latest = k }) (sym (last ∙ ap (λ b. if b then None else Some e.generation) y)))
    (λ n. ap (λ b. standing_of (if b then None else Some e)) (o ∙ n) ∙ same
    ∙ ap (λ k. record (standing es) { latest = k }) (sym (last ∙ ap (λ b. if b then None else Some e.generation) n)))
    (cases_Bool (is_over es))

is_mine : (o : Option ℕ) (token : ℕ) → false ≡ not (option_eq nat_eq o (Some token)) → is_this_number o token ≡ true
is_mine None token e = absurd (false≢true e)
is_mine (Some k) token e = by_test (k == token) e where
  by_test : (b : Bool) → false ≡ not b → b ≡ true
  by_test true e = refl
  by_test false e = absurd (false≢true e)

-- the entry after its token was settled
pub settled : (e : Entry) (es : List Event) (token : ℕ) (dirty : Bool) (failed new : Option Error) → new ≡ option_or failed e.failure
    → standing_of (Some e) ≡ standing es → false ≡ not (option_eq nat_eq e.settling (Some token))
    → standing_of (if is_standing_over (standing_of (Some (record { generation = e.generation; is_live = e.is_live; settling = None; is_dirty = e.is_dirty || dirty; failure = new }))) then None else Some (record { generation = e.generation; is_live = e.is_live; settling = None; is_dirty = e.is_dirty || dirty; failure = new }))
    ≡ standing (with_operation (Settle token dirty (option_map refusal_of failed)) es)
settled e es token dirty failed new made same mine =
    let f = option_map refusal_of failed in
    let here : is_this_number (settling es) token ≡ true = ap (λ s. is_this_number s.settling token) (sym same) ∙ is_mine e.settling token mine in
    let w : with_operation (Settle token dirty f) es ≡ Settled dirty f ∷ es = ap (λ b. if b then Settled dirty f ∷ es else es) here in
    rw w (may_end _ (Settled dirty f ∷ es)
    (λ i. record {
      latest = Some e.generation;
      live = (same i).live;
      settling = None;
      debt = (or_comm e.is_dirty dirty ∙ ap (λ s. dirty || s.debt) same) i;
      failure = (ap (option_map refusal_of) made ∙ failure_or failed e.failure ∙ ap (λ s. later f s.failure) same ∙ sym (failure_settled dirty f es)) i;
    })
    (ap (λ s. if is_over (Settled dirty f ∷ es) then None else s.latest) (sym same)))

-- the entry after its open was closed
pub closed : (e : Entry) (es : List Event) (g : ℕ) → standing_of (Some e) ≡ standing es → e.generation ≡ g
    → standing_of (if is_standing_over (standing_of (Some (record e { is_live = false }))) then None else Some (record e { is_live = false })) ≡ standing (with_operation (Close g) es)
closed e es g same mine =
    let l : latest es ≡ Some g = ap (λ s. s.latest) (sym same) ∙ ap Some mine in
    let here : is_this_number (latest es) g ≡ true = ap (λ k. is_this_number k g) l ∙ eqb_refl g in
    let w : with_operation (Close g) es ≡ Closed ∷ es = ap (λ b. if b then Closed ∷ es else es) here in
    rw w (may_end (record e { is_live = false }) (Closed ∷ es)
    (λ i. record { latest = Some e.generation; live = false; settling = (same i).settling; debt = (same i).debt; failure = (same i).failure })
    (ap (λ s. if is_over (Closed ∷ es) then None else s.latest) (sym same)))
