-- The cut of a file at its first lost byte.
use Rattle.std.proofs.Common.{◌≡◌, ◌<◌, ◌≤◌, ◌==◌, ℕ, zero, suc, Bool, true, false, List, [], ◌∷◌, drop, get_or, length, min, Result, Ok, Err, refl, ap, ap₂, ◌∙◌, arith}
use Rattle.std.specs.Prelude.{OnOk}
use Rattle.std.proofs.lemmas.Bool.{cond-false, cond-true, eq-eqb}
use Rattle.std.proofs.lemmas.List.{take_all}
use Rattle.blob_journal.specs.Fixed.{has_byte}
use Rattle.blob_journal.proofs.Fixed.{has_parts, seen_from}
use Rattle.blob_fs.specs.Bytes.{common_length, cut_bytes, kept_length}

-- one more byte is the same
pub common_more : (found seen : List ℕ) (at : ℕ) → at < length found → at < length seen → get_or found at 0 ≡ get_or seen at 0
    → common_length (drop at found) (drop at seen) ≡ suc (common_length (drop (suc at) found) (drop (suc at) seen))
common_more [] seen at low short same = absurd (omega arith)
common_more (x ∷ found) [] at low short same = absurd (omega arith)
common_more (x ∷ found) (y ∷ seen) zero low short same = cond-true (x == y) _ _ (eq-eqb x y same)
common_more (x ∷ found) (y ∷ seen) (suc at) low short same = common_more found seen at (omega arith) (omega arith) same

-- the next byte differs
pub common_differs : (found seen : List ℕ) (at : ℕ) → at < length found → at < length seen → (get_or found at 0 == get_or seen at 0) ≡ false
    → common_length (drop at found) (drop at seen) ≡ 0
common_differs [] seen at low short apart = absurd (omega arith)
common_differs (x ∷ found) [] at low short apart = absurd (omega arith)
common_differs (x ∷ found) (y ∷ seen) zero low short apart = cond-false (x == y) _ _ apart
common_differs (x ∷ found) (y ∷ seen) (suc at) low short apart = common_differs found seen at (omega arith) (omega arith) apart

-- or there is none
pub common_past_found : (found seen : List ℕ) (at : ℕ) → length found ≤ at → common_length (drop at found) (drop at seen) ≡ 0
common_past_found [] seen zero past = refl
common_past_found [] seen (suc at) past = refl
common_past_found (x ∷ found) seen zero past = absurd (omega arith)
common_past_found (x ∷ found) [] (suc at) past = none (drop at found)
  where
    none : (l : List ℕ) → common_length l [] ≡ 0
    none [] = refl
    none (z ∷ l) = refl
common_past_found (x ∷ found) (y ∷ seen) (suc at) past = common_past_found found seen at (omega arith)

pub common_past_seen : (found seen : List ℕ) (at : ℕ) → length seen ≤ at → common_length (drop at found) (drop at seen) ≡ 0
common_past_seen found [] at past = none at (drop at found)
  where
    none : (at : ℕ) (l : List ℕ) → common_length l (drop at []) ≡ 0
    none zero [] = refl
    none zero (z ∷ l) = refl
    none (suc at) [] = refl
    none (suc at) (z ∷ l) = refl
common_past_seen found (y ∷ seen) zero past = absurd (omega arith)
common_past_seen [] (y ∷ seen) (suc at) past = refl
common_past_seen (x ∷ found) (y ∷ seen) (suc at) past = common_past_seen found seen at (omega arith)

-- nothing is cut of what was found up to the synced size
pub uncut : (synced : ℕ) (seen found : List ℕ) → length found ≤ kept_length synced seen found → cut_bytes true synced seen found ≡ found
uncut synced seen found long = take_all (kept_length synced seen found) found long

-- a cut leaves each byte below the synced size
pub cut_has : (cuts : Bool) (synced at byte : ℕ) (seen found : List ℕ) → at < synced → has_byte at byte found ≡ true → has_byte at byte (cut_bytes cuts synced seen found) ≡ true
cut_has false synced at byte seen found low h = h
cut_has true synced at byte seen found low h = seen_from at byte (kept_length synced seen found) found (omega (arith, low)) (has_parts at byte found h)

-- the length that the code finds
pub kept_is : (synced : ℕ) (f l found seen : List ℕ) (n : ℕ) → n ≡ kept_length (min synced (length f)) l f → f ≡ found → l ≡ seen → synced ≤ length found → n ≡ kept_length synced seen found
kept_is synced f l found seen n is one two low =
    let m : min synced (length f) ≡ synced = omega (arith, ap length one, low) in
    is ∙ ap (λ k. kept_length k l f) m ∙ ap₂ (λ a b. kept_length synced a b) two one

-- a fact about a call that returned Ok, from another one
pub on_map : {T E P Q : Type 0} (r : Result T E) → OnOk r P → (P → Q) → OnOk r Q
on_map (Ok x) p f = f p
on_map (Err e) p f = tt
