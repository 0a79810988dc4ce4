-- Where a read up to a byte ends in the reader's buffer.
use Rattle.std.proofs.Common.{◌≡◌, ◌≢◌, ◌<◌, ◌≤◌, ◌+◌, ℕ, ◌-◌, List, ◌++◌, All, true, false, Option, Some, None, IfSome, ◌⊎◌, inl, inr, is_some, le_refl, length, take, get_or, sym, ap, subst, ◌∙◌, eq-eqb, eqb-true, get_or-take, length-take, arith}
use Rattle.std.proofs.lemmas.List.{get_or_default, take-take}
use Rattle.std.specs.Io.BufRead.{take_through}
use Rattle.std.specs.Io.{StopsAt, IsEmptyOrEndsWith}
use Rattle.std.proofs.Transfers.{StopsAt-of_All}
use Rattle.memchr.specs.Find.{IsFirstByte, is_byte}

-- the first position of a byte is k
abbrev FirstAt : ℕ → List ℕ → ℕ → Type 0
FirstAt byte xs k = (k < length xs) × (get_or xs k 0 ≡ byte) × ((j : ℕ) → j < k → get_or xs j 0 ≢ byte)

pub appended : (old : Option (List ℕ)) (before after taken : List ℕ) (byte : ℕ) → after ≡ before ++ taken → IfSome old (λ xs. taken ≡ take_through byte xs) → IfSome old (λ xs. after ≡ before ++ take_through byte xs)
appended None before after taken byte is h = tt
appended (Some xs) before after taken byte is h = is ∙ ap (λ l. before ++ l) h

-- only the last of the taken bytes is the byte
stops_at : (byte k : ℕ) (shown : List ℕ) → FirstAt byte shown k → StopsAt (take (k + 1) shown) byte
stops_at byte k shown h =
    let last : length (take (k + 1) shown) - 1 ≡ k = omega (arith, length-take (k + 1) shown, h.0) in
    let front : take k (take (k + 1) shown) ≡ take k shown = take-take k (k + 1) shown (omega arith) in
    subst (λ n. All (λ x. x ≢ byte) (take n (take (k + 1) shown))) (sym last) (subst (All (λ x. x ≢ byte)) (sym front) before)
  where
    before : All (λ x. x ≢ byte) (take k shown)
    before j d l e =
        let low : j < k = omega (arith, l, length-take k shown) in
        h.2 j low (get_or_default shown j 0 d (omega (arith, low, h.0)) ∙ sym (get_or-take k shown j d low) ∙ e)

-- a search of a buffer found this, and a read takes its first `end` bytes
pub record EndsAt (byte : ℕ) (shown : List ℕ) (found : Option ℕ) (end : ℕ) : Type 0 where
  pub bound : end ≤ length shown
  pub none : end ≡ 0 → length shown ≡ 0
  pub stops : StopsAt (take end shown) byte
  pub done : (is_some found ≡ true) ⊎ (end ≡ 0) → IsEmptyOrEndsWith (take end shown) byte
  pub more : is_some found ≡ false → All (λ x. x ≢ byte) (take end shown)

behind : (byte : ℕ) (shown : List ℕ) (k : ℕ) → IsFirstByte (is_byte byte) shown (Some k) → EndsAt byte shown (Some k) (k + 1)
behind byte shown k found =
    let first : FirstAt byte shown k = (found.0.high, eqb-true _ _ found.1, λ j l e. found.0.before j (omega arith) l (eq-eqb _ _ e)) in
    record {
      bound = omega (arith, first.0);
      none = λ e. absurd (omega arith);
      stops = stops_at byte k shown first;
      done = λ _ some.
          let last : length (take (k + 1) shown) - 1 ≡ k = omega (arith, length-take (k + 1) shown, first.0) in
          ap (λ n. get_or (take (k + 1) shown) n 0) last ∙ get_or-take (k + 1) shown k 0 (omega arith) ∙ first.1;
      more = λ e. cc;
    }

at_end : (byte : ℕ) (shown : List ℕ) → IsFirstByte (is_byte byte) shown None → EndsAt byte shown None (length shown)
at_end byte shown none =
    let all : All (λ x. x ≢ byte) (take (length shown) shown) = λ k d l e.
    let low : k < length shown = omega (arith, l, length-take (length shown) shown) in
    none k (omega arith) low (eq-eqb _ _ (get_or_default shown k 0 d low ∙ sym (get_or-take (length shown) shown k d low) ∙ e)) in
    record {
      bound = le_refl _;
      none = λ e. e;
      stops = StopsAt-of_All _ byte all;
      done = λ either some. elim either [
        | inl h ↦ cc
        | inr e ↦ absurd (omega (arith, some, e, length-take (length shown) shown))
      ];
      more = λ _. all;
    }

-- the bytes through the one that was found, or all of them
pub ends_at : (byte : ℕ) (shown : List ℕ) (searched found : Option ℕ) (end : ℕ) → IsFirstByte (is_byte byte) shown searched → found ≡ searched
    → ((k : ℕ) × (found ≡ Some k) × (end ≡ k + 1)) ⊎ ((found ≡ None) × (end ≡ length shown)) → EndsAt byte shown found end
ends_at byte shown searched found end first same (inl (k, is, e)) =
    subst (EndsAt byte shown found) (sym e) (subst (λ (o : Option ℕ). EndsAt byte shown o (k + 1)) (sym is)
    (behind byte shown k (subst (λ (o : Option ℕ). IsFirstByte (is_byte byte) shown o) (sym same ∙ is) first)))
ends_at byte shown searched found end first same (inr (is, e)) =
    subst (EndsAt byte shown found) (sym e) (subst (λ (o : Option ℕ). EndsAt byte shown o (length shown)) (sym is)
    (at_end byte shown (subst (λ (o : Option ℕ). IsFirstByte (is_byte byte) shown o) (sym same ∙ is) first)))
