-- Bytes fed to a checksum, piece by piece.
use Rattle.std.proofs.Common.{◌≡◌, ℕ, List, [], ◌∷◌, ◌++◌, replicate, refl, sym, ap, ◌∙◌, append_assoc, append-nil}
use Rattle.std.specs.Int.{to_be_bytes, w32}
use Rattle.blob_header.specs.declared.layout.Layout.TheVariants.{V0, V1}
use Rattle.blob_memory.specs.Audit.{Listed, piece_of, pieces_of}
use Rattle.blob_header.specs.Checksum.{crc32c}
use Rattle.blob_header.specs.Header.{prelude, region}

pub fed_none : (before : List ℕ) (p : List ℕ) (v : ℕ) → p ≡ prelude V0 v → before ++ p ≡ before ++ region V0 v
unfolding region
fed_none before p v e = ap (λ l. before ++ l) e

region_one : (v : ℕ) → region V1 v ≡ (prelude V1 v ++ to_be_bytes w32 (crc32c (prelude V1 v))) ++ replicate 4084 0
unfolding region
region_one v = refl

-- the region of layout V1, which has a checksum
pub fed_one : (before p c z : List ℕ) (v : ℕ) → p ≡ prelude V1 v → c ≡ to_be_bytes w32 (crc32c p) → z ≡ replicate 4084 0 → ((before ++ p) ++ c) ++ z ≡ before ++ region V1 v
fed_one before p c z v ep ec ez =
    append_assoc (before ++ p) c z ∙ append_assoc before p (c ++ z) ∙ ap (λ l. before ++ l)
    (sym (append_assoc p c z) ∙ (λ i. (ep i ++ (ec ∙ ap (λ l. to_be_bytes w32 (crc32c l)) ep) i) ++ ez i) ∙ sym (region_one v))

pub pieces_append : (xs ys : List Listed) → pieces_of (xs ++ ys) ≡ pieces_of xs ++ pieces_of ys
pieces_append [] ys = refl
pieces_append (x ∷ xs) ys = ap (λ l. piece_of x ++ l) (pieces_append xs ys) ∙ sym (append_assoc (piece_of x) (pieces_of xs) (pieces_of ys))

-- after one more part of a listing
pub fed_more : (before : List ℕ) (xs ys all : List Listed) (fed : List ℕ) → all ≡ xs ++ ys → fed ≡ pieces_of ys → (before ++ pieces_of xs) ++ fed ≡ before ++ pieces_of all
fed_more before xs ys all fed e f = append_assoc before (pieces_of xs) fed ∙ ap (λ l. before ++ l) (ap (λ r. pieces_of xs ++ r) f ∙ sym (pieces_append xs ys) ∙ ap pieces_of (sym e))

pub piece_alone : (b : Listed) → piece_of b ≡ pieces_of (b ∷ [])
piece_alone b = sym (append-nil (piece_of b))
