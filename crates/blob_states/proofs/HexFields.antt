-- Bytes as a field, empty or not.
use Rattle.std.proofs.Common.{◌≡◌, ℕ, List, [], ◌∷◌, length, refl}
use Rattle.std.specs.Prelude.{codes}
use Rattle.hex.specs.Hex.{encode_with, encode_lower}
use Rattle.blob_script.specs.Replies.{hex_field}

pub none : (bytes : List ℕ) → length bytes ≡ 0 → hex_field bytes ≡ codes "-"
unfolding encode_with
none [] e = refl
none (byte ∷ bytes) e = cc

pub some : (bytes : List ℕ) → (length bytes ≡ 0 → ⊥) → hex_field bytes ≡ encode_lower bytes
unfolding encode_with
some [] e = absurd (e refl)
some (byte ∷ bytes) e = refl
