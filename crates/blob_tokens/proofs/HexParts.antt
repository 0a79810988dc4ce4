-- A text of hex digits, decoded a part at a time.
use Rattle.std.proofs.Common.{◌≡◌, ℕ, ◌+◌, ◌%◌, ◌<◌, ◌≤◌, ⊎_elim, List, [], ◌∷◌, ◌++◌, length, take, drop, Result, Ok, Err, refl, sym, ap, subst, ◌∙◌, arith}
use Rattle.std.specs.Prelude.{IsErr, MatchResult, Bool, true, false}
use Rattle.std.proofs.lemmas.Bool.{cases_lt, true≢false}
use Rattle.std.proofs.lemmas.List.{append_assoc, take-append-drop, length-take-le, append-nil, length-drop}
use Rattle.hex.specs.Hex.{pair_value, decode_pairs}
use Rattle.hex.specs.declared.error.FromHexError.{FromHexError}
use Rattle.hex.proofs.Pairs.{prepend, cons_byte, decode_pairs-ok_pair}
use Rattle.blob_tokens.proofs.HexDigits.{high_of, low_of, pair_reads, pair_refuses}
use Rattle.blob_tokens.proofs.HexLanes.{err_first, err_cons}

prepend_nil : (r : Result (List ℕ) FromHexError) → prepend [] r ≡ r
prepend_nil (Ok x) = refl
prepend_nil (Err e) = refl

prepend_cons : (w : ℕ) (vs : List ℕ) (r : Result (List ℕ) FromHexError) → cons_byte w (prepend vs r) ≡ prepend (w ∷ vs) r
prepend_cons w vs (Ok x) = refl
prepend_cons w vs (Err e) = refl

prepend_both : (us vs : List ℕ) (r : Result (List ℕ) FromHexError) → prepend us (prepend vs r) ≡ prepend (us ++ vs) r
prepend_both us vs (Ok x) = ap Ok (sym (append_assoc us vs x))
prepend_both us vs (Err e) = refl

pub err_prepend : (us : List ℕ) (r : Result (List ℕ) FromHexError) → IsErr r → IsErr (prepend us r)
err_prepend us (Ok x) bad = cc
err_prepend us (Err e) bad = bad

-- what `cons_byte` made
rest_of : (w : ℕ) (v : List ℕ) (r : Result (List ℕ) FromHexError) → cons_byte w r ≡ Ok v → (vs : List ℕ) × (r ≡ Ok vs) × (w ∷ vs ≡ v)
rest_of w v (Ok vs) e = (vs, refl, cc)
rest_of w v (Err x) e = cc

no_value : (r : Result (List ℕ) FromHexError) (v : List ℕ) → IsErr r → r ≡ Ok v → ⊥
no_value (Ok x) v bad e = cc
no_value (Err x) v bad e = cc

-- a prefix that decodes
pub append_ok : (j i : ℕ) (xs ys v : List ℕ) → decode_pairs i xs ≡ Ok v → decode_pairs j (xs ++ ys) ≡ prepend v (decode_pairs (j + length xs) ys)
unfolding decode_pairs
append_ok j i [] ys v e =
    let none : [] ≡ v = cc in
    let same : j ≡ j + 0 = omega arith in
    ap (λ n. decode_pairs n ys) same ∙ sym (prepend_nil _) ∙ ap (λ w. prepend w (decode_pairs (j + 0) ys)) none
append_ok j i (a ∷ []) ys v e = cc
append_ok j i (a ∷ b ∷ rest) ys v e = ⊎_elim
    (λ (bad : 255 < high_of a + low_of b). absurd (no_value (decode_pairs i (a ∷ b ∷ rest)) v (err_first i a b rest (pair_value a b i) refl (pair_refuses a b i bad)) e))
    (λ (good : high_of a + low_of b ≤ 255).
    let w = high_of a + low_of b in
    let parts = rest_of w v (decode_pairs (i + 2) rest) (sym (decode_pairs-ok_pair i a b w rest (pair_reads a b i good)) ∙ e) in
    let place : j + 2 + length rest ≡ j + length (a ∷ b ∷ rest) = omega arith in
    decode_pairs-ok_pair j a b w (rest ++ ys) (pair_reads a b j good)
    ∙ ap (cons_byte w) (append_ok (j + 2) (i + 2) rest ys parts.0 parts.1)
    ∙ prepend_cons w parts.0 (decode_pairs (j + 2 + length rest) ys)
    ∙ ap (λ n. prepend (w ∷ parts.0) (decode_pairs n ys)) place
    ∙ ap (λ u. prepend u (decode_pairs (j + length (a ∷ b ∷ rest)) ys)) parts.2)
    (cases_lt 255 (high_of a + low_of b))

-- a prefix that doesn't
pub append_err : (j i : ℕ) (xs ys : List ℕ) → length xs % 2 ≡ 0 → IsErr (decode_pairs i xs) → IsErr (decode_pairs j (xs ++ ys))
unfolding decode_pairs
append_err j i [] ys even bad = cc
append_err j i (a ∷ []) ys even bad = absurd (omega (arith, even))
append_err j i (a ∷ b ∷ rest) ys even bad = ⊎_elim
    (λ (no : 255 < high_of a + low_of b). err_first j a b (rest ++ ys) (pair_value a b j) refl (pair_refuses a b j no))
    (λ (good : high_of a + low_of b ≤ 255).
    let w = high_of a + low_of b in
    let later = later_bad w (decode_pairs (i + 2) rest) (subst IsErr (decode_pairs-ok_pair i a b w rest (pair_reads a b i good)) bad) in
    subst IsErr (sym (decode_pairs-ok_pair j a b w (rest ++ ys) (pair_reads a b j good)))
    (err_cons w (decode_pairs (j + 2) (rest ++ ys)) (append_err (j + 2) (i + 2) rest ys (omega (arith, even)) later)))
    (cases_lt 255 (high_of a + low_of b))
  where
    later_bad : (w : ℕ) (r : Result (List ℕ) FromHexError) → IsErr (cons_byte w r) → IsErr r
    later_bad w (Ok x) bad = cc
    later_bad w (Err x) bad = bad

-- the parts so far are decoded
pub record Parts (text rest bytes : List ℕ) : Type 0 where
  pub even : length rest % 2 ≡ 0
  pub decoded : (j : ℕ) × (decode_pairs 0 text ≡ prepend bytes (decode_pairs j rest))

pub parts_start : (text : List ℕ) → length text % 2 ≡ 0 → Parts text text []
parts_start text even = record { even = even; decoded = (0, sym (prepend_nil (decode_pairs 0 text))) }

pub parts_step : (text rest bytes part : List ℕ) (n : ℕ) → n % 2 ≡ 0 → n ≤ length rest → decode_pairs 0 (take n rest) ≡ Ok part
    → Parts text rest bytes → Parts text (drop n rest) (bytes ++ part)
parts_step text rest bytes part n whole fits same inv = record {
  even = omega (arith, inv.even, whole, fits, length-drop n rest);
  decoded = (
    inv.decoded.0 + length (take n rest),
    inv.decoded.1 ∙ ap (λ t. prepend bytes (decode_pairs inv.decoded.0 t)) (sym (take-append-drop n rest))
        ∙ ap (prepend bytes) (append_ok inv.decoded.0 0 (take n rest) (drop n rest) part same) ∙ prepend_both bytes part _,
  );
}

pub parts_bad : (text rest bytes : List ℕ) (n : ℕ) → n % 2 ≡ 0 → n ≤ length rest → IsErr (decode_pairs 0 (take n rest))
    → Parts text rest bytes → IsErr (decode_pairs 0 text)
parts_bad text rest bytes n whole fits bad inv = subst IsErr
    (sym (inv.decoded.1 ∙ ap (λ t. prepend bytes (decode_pairs inv.decoded.0 t)) (sym (take-append-drop n rest))))
    (err_prepend bytes _ (append_err inv.decoded.0 0 (take n rest) (drop n rest) (omega (arith, whole, length-take-le n rest fits)) bad))

pub parts_done : (text rest bytes : List ℕ) → length rest ≡ 0 → Parts text rest bytes → decode_pairs 0 text ≡ Ok bytes
unfolding decode_pairs
parts_done text [] bytes none inv = inv.decoded.1 ∙ ap Ok (append-nil bytes)
parts_done text (c ∷ cs) bytes none inv = absurd (omega (arith, none))

-- what decoding into a slice returned
pub was_ok : (r : Result (List ℕ) FromHexError) (bytes : List ℕ) (result : Bool) → MatchResult r (λ read. (result ≡ true) × (bytes ≡ read)) (λ _. result ≡ false)
    → result ≡ true → r ≡ Ok bytes
was_ok (Ok read) bytes result h is = ap Ok (sym h.1)
was_ok (Err e) bytes result h is = absurd (true≢false (sym is ∙ h))

pub was_err : (r : Result (List ℕ) FromHexError) (bytes : List ℕ) (result : Bool) → MatchResult r (λ read. (result ≡ true) × (bytes ≡ read)) (λ _. result ≡ false)
    → result ≡ false → IsErr r
was_err (Ok read) bytes result h is = absurd (true≢false (sym h.0 ∙ is))
was_err (Err e) bytes result h is = refl
