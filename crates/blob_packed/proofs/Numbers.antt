-- Numbers in eight bytes are told.
use Rattle.std.proofs.Common.{◌≡◌, ℕ, ◌<◌, ◌^◌, List, ◌++◌, length, drop, refl}
use Rattle.std.proofs.lemmas.Nat.{from_be_bytes-to_be_bytes_8}
use Rattle.blob_packed.specs.Numbers.{number_bytes, number_told}

pub length-number_bytes : (n : ℕ) → length (number_bytes n) ≡ 8
unfolding number_bytes
length-number_bytes n = refl

pub number_told-bytes : (n : ℕ) (more : List ℕ) → n < 2 ^ 64 → number_told (number_bytes n ++ more) ≡ n
unfolding number_told number_bytes
number_told-bytes n more h = from_be_bytes-to_be_bytes_8 n h

pub drop-number : (n : ℕ) (more : List ℕ) → drop 8 (number_bytes n ++ more) ≡ more
unfolding number_bytes
drop-number n more = refl
