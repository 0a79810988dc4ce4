-- What calls of the registry do, by what is kept under their number.
use Rattle.std.proofs.Common.{rules, true, false, ◌≡◌, ◌<◌, ◌≤◌, ℕ, List, Option, Some, None, IfSome, IfNone, length, get_or, refl, sym, ap, ◌∙◌, subst}
use Rattle.std.specs.Prelude.{slice_set}
use Rattle.std.proofs.lemmas.Option.{slice_get_past, slice_get_read}
use Rattle.blob_debt.specs.Debts.{by_open}
use Rattle.blob_debt.specs.History.{AdmittedOpen, Operation, To, Close}
use Rattle.blob_sessions.specs.declared.debts.Debts.{Debts}
use Rattle.blob_sessions.specs.Debts.{ClosesOpen, RecordsCall, SettlesToken, found_reply, kept_at}

pub none_past : {T : Type 0} (slots : List (Option T)) (number : ℕ) → length slots ≤ number → kept_at slots number ≡ None
none_past slots number past = let e = slice_get_past slots number past in rw (e, kept_at) refl

pub kept_of_slot : {T : Type 0} (slots : List (Option T)) (number : ℕ) (slot : Option T) → number < length slots → slot ≡ get_or slots number slot → kept_at slots number ≡ slot
kept_of_slot slots number slot lt is = let e = slice_get_read slots (length slots) number slot refl lt is in rw (e, kept_at) refl

-- what holds of what is kept, if nothing is or something is
some_of_none : {T : Type 0} (o : Option T) (P : T → Type 0) → o ≡ None → IfSome o P
some_of_none None P e = search rules
some_of_none (Some x) P e = absurd (cc)

some_of_some : {T : Type 0} (o : Option T) (x : T) (P : T → Type 0) → o ≡ Some x → P x → IfSome o P
some_of_some o x P e h = subst (λ k. IfSome k P) (sym e) h

none_of_some : {T : Type 0} (o : Option T) (x : T) (P : Type 0) → o ≡ Some x → IfNone o P
none_of_some None x P e = absurd (cc)
none_of_some (Some y) x P e = search rules

none_of_none : {T : Type 0} (o : Option T) (P : Type 0) → P → IfNone o P
none_of_none None P h = h
none_of_none (Some y) P h = search rules

pub closes_none : (d d' : Debts) (number : ℕ) → kept_at d.opens.items number ≡ None → d' ≡ record d { opens = d'.opens } → d'.opens.items ≡ slice_set d.opens.items number None
    → ClosesOpen d d' number (found_reply false)
closes_none d d' number none kept items = record {
  steps = some_of_none _ _ none;
  none = none_of_none _ _ (ap (λ k. k.pending) kept);
  opens = items;
  kept = kept ∙ ap (λ p. record d { pending = p; opens = d'.opens }) (sym (ap (λ k. k.pending) kept));
  replies = rw none refl;
}

pub closes_open : (d d' : Debts) (number : ℕ) (o : AdmittedOpen) → kept_at d.opens.items number ≡ Some o → d' ≡ record d { pending = d'.pending; opens = d'.opens } → d'.opens.items ≡ slice_set d.opens.items number None
    → RecordsCall d d' (by_open o (Close o.number)) → ClosesOpen d d' number (found_reply true)
closes_open d d' number o some kept items recorded = record {
  steps = some_of_some _ o _ some recorded;
  none = none_of_some _ o _ some;
  opens = items;
  kept = kept;
  replies = rw some refl;
}

pub settles_none : (d d' : Debts) (partition name : List ℕ) (number : ℕ) (operation : ℕ → Operation) → kept_at d.tokens.items number ≡ None → d' ≡ record d { tokens = d'.tokens } → d'.tokens.items ≡ slice_set d.tokens.items number None
    → SettlesToken d d' partition name number operation (found_reply false)
settles_none d d' partition name number operation none kept items = record {
  steps = some_of_none _ _ none;
  none = none_of_none _ _ (ap (λ k. k.pending) kept);
  tokens = items;
  kept = kept ∙ ap (λ p. record d { pending = p; tokens = d'.tokens }) (sym (ap (λ k. k.pending) kept));
  replies = rw none refl;
}

pub settles_token : (d d' : Debts) (partition name : List ℕ) (number token : ℕ) (operation : ℕ → Operation) → kept_at d.tokens.items number ≡ Some token → d' ≡ record d { pending = d'.pending; tokens = d'.tokens } → d'.tokens.items ≡ slice_set d.tokens.items number None
    → RecordsCall d d' (To partition name (operation token)) → SettlesToken d d' partition name number operation (found_reply true)
settles_token d d' partition name number token operation some kept items recorded = record {
  steps = some_of_some _ token _ some recorded;
  none = none_of_some _ token _ some;
  tokens = items;
  kept = kept;
  replies = rw some refl;
}
