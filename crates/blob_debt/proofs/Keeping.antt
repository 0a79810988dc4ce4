-- The standing of names against the history, as one name changes.
use Rattle.std.proofs.Common.{◌≡◌, ℕ, List, [], ◌∷◌, Bool, true, false, ◌&&◌, is_none, Option, Some, None, if◌then◌else◌, refl, sym, ap, ◌∙◌, cond, option_map, Result, Ok, Err}
use Rattle.std.specs.Str.{bytes_eq}
use Rattle.std.proofs.lemmas.Bool.{false≢true}
use Rattle.blob_header.specs.Refusals.{refusal_of, error_of}
use Rattle.blob_names.specs.declared.names.Names.{Names}
use Rattle.blob_debt.specs.declared.pending.Pending.{Pending}
use Rattle.blob_debt.specs.declared.pending.entry.Entry.{Entry}
use Rattle.blob_debt.specs.declared.pending.entry.Change.{Change}
use Rattle.blob_debt.specs.declared.pending.entry.Change.TheVariants as change
use Rattle.blob_names.specs.Names.{at, with_name, with_all_names}
use Rattle.blob_debt.specs.History.{History, Event, Operation, To, Forget, with_operation, events, is_this_number, clear_event, Released, Settled, Closed, AdmittedOpen}
use Rattle.blob_debt.specs.Debts.{standing, standing_of, operation_of, HoldsNames, Represents, IsUnchanged, after_admit}
use Rattle.blob_header.specs.declared.error.Error.{Error}
use Rattle.std.specs.Result.{IsErr}
use Rattle.std.specs.Ordering.{nat_cmp, is_eq}
use Rattle.std.specs.List.{list_any}
use Rattle.blob_names.proofs.NameMaps.{with_at_same}

at_both : (b d : Bool) (x y : Option Entry) (es fs : List Event) → standing_of x ≡ standing es → standing_of y ≡ standing fs
    → standing_of (cond b (cond d x y) y) ≡ standing (cond b (cond d es fs) fs)
at_both true true x y es fs e f = e
at_both true false x y es fs e f = f
at_both false d x y es fs e f = f

-- one name changed
keeps_at : (old new : Names Entry) (p n : List ℕ) (x : Option Entry) (es : List Event) (h : History)
    → at new ≡ with_name (at old) p n x → standing_of x ≡ standing es → HoldsNames old h
    → (q m : List ℕ) → standing_of (at new q m) ≡ standing (with_name (events h) p n es q m)
keeps_at old new p n x es h is here k q m = ap (λ f. standing_of (f q m)) is ∙ at_both (bytes_eq p q) (bytes_eq n m) x (at old q m) es (events h q m) here (k.standing q m)

pub keeps_done : (old new : Names Entry) (p n : List ℕ) (x : Option Entry) (operation : Operation) (h : History)
    → at new ≡ with_name (at old) p n x → standing_of x ≡ standing (with_operation operation (events h p n)) → HoldsNames old h → HoldsNames new (To p n operation ∷ h)
keeps_done old new p n x operation h is here k = record { standing = keeps_at old new p n x (with_operation operation (events h p n)) h is here k }

pub keeps_forgotten : (old new : Names Entry) (p n : List ℕ) (h : History)
    → at new ≡ with_name (at old) p n None → HoldsNames old h → HoldsNames new (Forget p (Some n) ∷ h)
keeps_forgotten old new p n h is k = record { standing = keeps_at old new p n None [] h is refl k }

all_gone : (b : Bool) (y : Option Entry) (fs : List Event) → standing_of y ≡ standing fs → standing_of (cond b None y) ≡ standing (cond b [] fs)
all_gone true y fs e = refl
all_gone false y fs e = e

pub keeps_all_forgotten : (old new : Names Entry) (p : List ℕ) (h : History)
    → at new ≡ with_all_names (at old) None p → HoldsNames old h → HoldsNames new (Forget p None ∷ h)
keeps_all_forgotten old new p h is k = record { standing = λ q m. ap (λ f. standing_of (f q m)) is ∙ all_gone (bytes_eq p q) (at old q m) (events h q m) (k.standing q m) }

-- a change of a name without an entry is ignored
pub no_name : (c : Change) (es : List Event) → standing_of None ≡ standing es → with_operation (operation_of c) es ≡ es
no_name (change.Release g token) es e = ap (λ s. if is_this_number s.latest g && is_none s.settling then Released token ∷ es else es) (sym e)
no_name (change.Settle token dirty failed) es e = ap (λ s. if is_this_number s.settling token then Settled dirty (option_map refusal_of failed) ∷ es else es) (sym e)
no_name (change.Clear g outcome) es e = ap (λ s. if is_this_number s.latest g then clear_event (error_of outcome) ∷ es else es) (sym e)
no_name (change.Close g) es e = ap (λ s. if is_this_number s.latest g then Closed ∷ es else es) (sym e)

pub keeps_nothing : (old new : Names Entry) (p n : List ℕ) (c : Change) (h : History)
    → at new ≡ at old → at old p n ≡ None → HoldsNames old h → HoldsNames new (To p n (operation_of c) ∷ h)
keeps_nothing old new p n c h is none k =
    let e : standing_of None ≡ standing (events h p n) = ap standing_of (sym none) ∙ k.standing p n in
    keeps_done old new p n None (operation_of c) h (is ∙ sym (with_at_same (at old) p n) ∙ ap (with_name (at old) p n) none) (e ∙ ap standing (sym (no_name c (events h p n) e))) k

-- an unchanged registry represents the same histories
pub unchanged_stands : (r s : Pending) (h : History) → IsUnchanged r s → Represents r h → Represents s h
unchanged_stands r s h u k = record {
  names = record { standing = λ p n. ap (λ f. standing_of (f p n)) u.names ∙ k.names.standing p n };
  outstanding = λ t. ap (list_any (λ q. is_eq (nat_cmp t q))) u.outstanding ∙ k.outstanding t;
  generations = u.generations ∙ k.generations;
  tokens = u.tokens ∙ k.tokens;
  numbered = k.numbered;
}

-- a refused open adds nothing to the history
pub after_refused : (h : History) (existing : Bool) (r : Result (AdmittedOpen × Option ℕ × Bool) Error) → IsErr r → after_admit h existing r ≡ h
after_refused h existing (Ok x) e = absurd (false≢true e)
after_refused h existing (Err x) e = refl
