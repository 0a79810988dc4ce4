-- A name that was forgotten knows only later numbers.
use Rattle.std.proofs.Common.{◌≡◌, ℕ, ◌<◌, ◌≤◌, List, [], ◌∷◌, ◌++◌, Bool, true, false, ◌&&◌, is_none, Option, Some, None, if◌then◌else◌, refl, sym, ap, subst, ◌∙◌, cond, arith, ◌==◌}
use Rattle.std.specs.Str.{bytes_eq}
use Rattle.std.specs.Cmp.Lexicographic.{bytes_decides}
use Rattle.std.proofs.lemmas.Bool.{and_parts, cond-true, false≢true}
use Rattle.std.proofs.lemmas.Bool.Decides.{nat_tests}
use Rattle.blob_header.specs.Refusals.{Refusal}
use Rattle.blob_names.specs.Names.{with_name}
use Rattle.blob_debt.specs.History.{History, Call, Event, Operation, To, Forget, Skip, Admit, Release, Settle, Clear, Fail, Close, Admitted, Released, Settled, Failed, Closed, is_over, clear_event, with_operation, events, latest, settling, is_this_number, generations, tokens_given}
use Rattle.blob_debt.specs.Debts.{IsNumbered}
use Rattle.blob_debt.specs.Recreated.{forgets, IsForgottenAfter}
use Rattle.blob_names.proofs.NameMaps.{with_at_same}

-- no number below these counts for a name
pub record IsNewer (g t : ℕ) (es : List Event) : Type 0 where
  pub generation : (k : ℕ) → k < g → is_this_number (latest es) k ≡ false
  pub token : (k : ℕ) → k < t → is_this_number (settling es) k ≡ false

below : (g k m : ℕ) → g ≤ m → k < g → (m == k) ≡ false
below g k m h l = grind (arith, nat_tests)

module _ (g t : ℕ) where
  either : (b : Bool) (x y : List Event) → IsNewer g t x → IsNewer g t y → IsNewer g t (if b then x else y)
  either true x y p q = p
  either false x y p q = q

  none_or : (b : Bool) (o : Option ℕ) (k : ℕ) → is_this_number o k ≡ false → is_this_number (if b then None else o) k ≡ false
  none_or true o k e = refl
  none_or false o k e = e

  outcome_newer : (outcome : Option Refusal) (es : List Event) → IsNewer g t es → IsNewer g t (clear_event outcome ∷ es)
  outcome_newer None es n = record { generation = n.generation; token = n.token }
  outcome_newer (Some e) es n = record { generation = n.generation; token = n.token }

  nothing_newer : IsNewer g t []
  nothing_newer = record { generation = λ k l. refl; token = λ k l. refl }

  admitted_newer : (m : ℕ) (es : List Event) → g ≤ m → IsNewer g t es → IsNewer g t (Admitted m ∷ es)
  admitted_newer m es h n = record { generation = λ k l. below g k m h l; token = n.token }

  -- an operation that uses numbers given now keeps a name's events newer
  operation_newer : (operation : Operation) (p n : List ℕ) (h : History) (es : List Event) → IsNumbered (To p n operation ∷ h) → g ≤ generations h → t ≤ tokens_given h → IsNewer g t es → IsNewer g t (with_operation operation es)
  operation_newer (Admit existing m) p n h es num gs ts new =
      admitted_newer m (if existing then es else []) (subst (λ k. g ≤ k) (sym num.0) gs) (either existing es [] new nothing_newer)
  operation_newer (Release m token) p n h es num gs ts new =
      either (is_this_number (latest es) m && is_none (settling es)) (Released token ∷ es) es
      (record { generation = new.generation; token = λ k l. below t k token (subst (λ j. t ≤ j) (sym num.0) ts) l }) new
  operation_newer (Settle token dirty failed) p n h es num gs ts new =
      either (is_this_number (settling es) token) (Settled dirty failed ∷ es) es
      (record { generation = λ k l. none_or (is_over (Settled dirty failed ∷ es)) (latest es) k (new.generation k l); token = λ k l. refl }) new
  operation_newer (Clear m outcome) p n h es num gs ts new =
      either (is_this_number (latest es) m) (clear_event outcome ∷ es) es (outcome_newer outcome es new) new
  operation_newer (Fail m e) p n h es num gs ts new =
      either (is_this_number (latest es) m) (Failed e ∷ es) es (record { generation = new.generation; token = new.token }) new
  operation_newer (Close m) p n h es num gs ts new =
      either (is_this_number (latest es) m) (Closed ∷ es) es
      (record { generation = λ k l. none_or (is_over (Closed ∷ es)) (latest es) k (new.generation k l); token = new.token }) new

  choice : (b d : Bool) (x y : List Event) → ((b ≡ true) → (d ≡ true) → IsNewer g t x) → IsNewer g t y → IsNewer g t (cond b (cond d x y) y)
  choice true true x y p q = p refl refl
  choice true false x y p q = q
  choice false d x y p q = q

  choice_all : (b : Bool) (y : List Event) → IsNewer g t y → IsNewer g t (cond b [] y)
  choice_all true y q = nothing_newer
  choice_all false y q = q

  -- one more call
  call_newer : (c : Call) (h : History) (p n : List ℕ) → IsNumbered (c ∷ h) → g ≤ generations h → t ≤ tokens_given h → IsNewer g t (events h p n) → IsNewer g t (events (c ∷ h) p n)
  call_newer (To q m operation) h p n num gs ts new =
      choice (bytes_eq q p) (bytes_eq m n) (with_operation operation (events h q m)) (events h p n)
      (λ y z. operation_newer operation q m h (events h q m) num gs ts
      (subst (λ l. IsNewer g t (events h l m)) (sym ((bytes_decides q p).0 y)) (subst (λ l. IsNewer g t (events h p l)) (sym ((bytes_decides m n).0 z)) new)))
      new
  call_newer (Forget q (Some m)) h p n num gs ts new = choice (bytes_eq q p) (bytes_eq m n) [] (events h p n) (λ y z. nothing_newer) new
  call_newer (Forget q None) h p n num gs ts new = choice_all (bytes_eq q p) (events h p n) new
  call_newer (Skip gens toks) h p n num gs ts new = new

-- the call that forgets
forgotten_newer : (c : Call) (h : History) (p n : List ℕ) → IsNumbered (c ∷ h) → forgets c p n ≡ true → IsNewer (generations h) (tokens_given h) (events (c ∷ h) p n)
forgotten_newer (To q m (Admit false k)) h p n num f =
    let s = and_parts (bytes_eq q p) (bytes_eq m n) f in
    let here : events (To q m (Admit false k) ∷ h) p n ≡ Admitted k ∷ [] = cond-true (bytes_eq q p) (cond (bytes_eq m n) (Admitted k ∷ []) (events h p n)) (events h p n) s.0 ∙ cond-true (bytes_eq m n) (Admitted k ∷ []) (events h p n) s.1 in
    subst (IsNewer (generations h) (tokens_given h)) (sym here) (admitted_newer (generations h) (tokens_given h) k [] (subst (λ j. generations h ≤ j) (sym num.0) (omega arith)) (nothing_newer (generations h) (tokens_given h)))
forgotten_newer (To q m (Admit true k)) h p n num f = absurd (false≢true f)
forgotten_newer (To q m (Release k t)) h p n num f = absurd (false≢true f)
forgotten_newer (To q m (Settle t d e)) h p n num f = absurd (false≢true f)
forgotten_newer (To q m (Clear k o)) h p n num f = absurd (false≢true f)
forgotten_newer (To q m (Fail k e)) h p n num f = absurd (false≢true f)
forgotten_newer (To q m (Close k)) h p n num f = absurd (false≢true f)
forgotten_newer (Forget q (Some m)) h p n num f =
    let s = and_parts (bytes_eq q p) (bytes_eq m n) f in
    let here : events (Forget q (Some m) ∷ h) p n ≡ [] = cond-true (bytes_eq q p) (cond (bytes_eq m n) [] (events h p n)) (events h p n) s.0 ∙ cond-true (bytes_eq m n) [] (events h p n) s.1 in
    subst (IsNewer (generations h) (tokens_given h)) (sym here) (nothing_newer (generations h) (tokens_given h))
forgotten_newer (Forget q None) h p n num f =
    let here : events (Forget q None ∷ h) p n ≡ [] = cond-true (bytes_eq q p) [] (events h p n) f in
    subst (IsNewer (generations h) (tokens_given h)) (sym here) (nothing_newer (generations h) (tokens_given h))
forgotten_newer (Skip gs ts) h p n num f = absurd (false≢true f)

-- counts never fall
counts_grow : (c : Call) (h : History) → (generations h ≤ generations (c ∷ h)) × (tokens_given h ≤ tokens_given (c ∷ h))
counts_grow (To p n (Admit e g)) h = (omega arith, omega arith)
counts_grow (To p n (Release g t)) h = (omega arith, omega arith)
counts_grow (To p n (Settle t d f)) h = (omega arith, omega arith)
counts_grow (To p n (Clear g o)) h = (omega arith, omega arith)
counts_grow (To p n (Fail g e)) h = (omega arith, omega arith)
counts_grow (To p n (Close g)) h = (omega arith, omega arith)
counts_grow (Forget p n) h = (omega arith, omega arith)
counts_grow (Skip gs ts) h = (omega arith, omega arith)

all_grow : (later h : History) → (generations h ≤ generations (later ++ h)) × (tokens_given h ≤ tokens_given (later ++ h))
all_grow [] h = (omega arith, omega arith)
all_grow (c ∷ later) h =
    let r = all_grow later h in
    let s = counts_grow c (later ++ h) in
    (le_trans _ _ _ r.0 s.0, le_trans _ _ _ r.1 s.1) where
      le_trans : (a b c : ℕ) → a ≤ b → b ≤ c → a ≤ c
      le_trans a b c x y = omega arith

numbered_rest : (c : Call) (h : History) → IsNumbered (c ∷ h) → IsNumbered h
numbered_rest (To p n (Admit e g)) h n' = n'.1
numbered_rest (To p n (Release g t)) h n' = n'.1
numbered_rest (To p n (Settle t d f)) h n' = n'
numbered_rest (To p n (Clear g o)) h n' = n'
numbered_rest (To p n (Fail g e)) h n' = n'
numbered_rest (To p n (Close g)) h n' = n'
numbered_rest (Forget p n) h n' = n'
numbered_rest (Skip gs ts) h n' = n'

newer_since : (later : History) (c : Call) (earlier : History) (p n : List ℕ) → IsNumbered (later ++ c ∷ earlier) → forgets c p n ≡ true
    → IsNewer (generations earlier) (tokens_given earlier) (events (later ++ c ∷ earlier) p n)
newer_since [] c earlier p n num f = forgotten_newer c earlier p n num f
newer_since (d ∷ later) c earlier p n num f =
    let rest = numbered_rest d (later ++ c ∷ earlier) num in
    let once = counts_grow c earlier in
    let grown = all_grow later (c ∷ earlier) in
    let gs : generations earlier ≤ generations (later ++ c ∷ earlier) = omega (arith, once.0, grown.0) in
    let ts : tokens_given earlier ≤ tokens_given (later ++ c ∷ earlier) = omega (arith, once.1, grown.1) in
    call_newer (generations earlier) (tokens_given earlier) d (later ++ c ∷ earlier) p n num gs ts (newer_since later c earlier p n rest f)

pub newer : (h earlier : History) (p n : List ℕ) → IsForgottenAfter h earlier p n → IsNewer (generations earlier) (tokens_given earlier) (events h p n)
newer h earlier p n f =
    subst (λ k. IsNewer (generations earlier) (tokens_given earlier) (events k p n)) (sym f.parts)
    (newer_since f.later f.call earlier p n (subst IsNumbered f.parts f.numbered) f.forgotten)

-- an operation that doesn't count leaves all names
pub no_count : (h : History) (p n : List ℕ) (operation : Operation) → with_operation operation (events h p n) ≡ events h p n → events (To p n operation ∷ h) ≡ events h
no_count h p n operation e = ap (with_name (events h) p n) e ∙ with_at_same (events h) p n
