-- The records that bytes have, one step at a time.
use Rattle.std.proofs.Common.{◌≡◌, ℕ, zero, suc, ◌+◌, ◌-◌, ◌<◌, ◌≤◌, ◌^◌, List, [], ◌∷◌, ◌++◌, length, take, drop, map, replicate, Bool, true, false, Some, None, refl, sym, ap, ap₂, ◌∙◌, arith, append_assoc, length-append, length-drop, nat_eq, nat_le, ◌&&◌, if◌then◌else◌}
use Rattle.std.proofs.Math.Seq.{drop-append_seam, take-append_seam}
use Rattle.std.proofs.lemmas.List.{drop-drop}
use Rattle.std.proofs.lemmas.Bool.{and_from}
use Rattle.std.proofs.lemmas.Bool.Decides.{nat_tests}
use Rattle.blob_packed.specs.Numbers.{number_bytes, number_told}
use Rattle.blob_packed.specs.Records.{FitFrom, Found, Record, begins_record, first_length, first_number, first_record, found_from, has_mark, packed_from, record_bytes, scanned}
use Rattle.blob_packed.specs.Losses.{PackedAreFound}
use Rattle.blob_packed.proofs.Numbers.{length-number_bytes, number_told-bytes, drop-number}

-- Where a number, a length and the bytes of a record lie.

pub behind_mark : (bytes rest : List ℕ) (mark : ℕ) → bytes ≡ mark ∷ rest → rest ≡ drop 1 bytes
behind_mark bytes rest mark is = ap (drop 1) (sym is)

pub behind_number : (bytes rest more : List ℕ) (mark : ℕ) → bytes ≡ mark ∷ rest → more ≡ drop 8 rest → more ≡ drop 9 bytes
behind_number bytes rest more mark is a = a ∙ ap (drop 8) (behind_mark bytes rest mark is) ∙ drop-drop 8 1 bytes

pub behind_length : (bytes more last : List ℕ) → more ≡ drop 9 bytes → last ≡ drop 8 more → last ≡ drop 17 bytes
behind_length bytes more last is a = a ∙ ap (drop 8) is ∙ drop-drop 8 9 bytes

pub behind_record : (bytes last : List ℕ) (n : ℕ) → last ≡ drop 17 bytes → drop n last ≡ drop (17 + n) bytes
behind_record bytes last n is = ap (drop n) is ∙ drop-drop n 17 bytes

-- Steps of a scan.

none_scanned : (fuel next : ℕ) → scanned fuel next [] ≡ []
none_scanned zero next = refl
none_scanned (suc fuel) next = none_scanned fuel next

-- as many steps as there are bytes are enough
pub enough : (f g next : ℕ) (bytes : List ℕ) → length bytes ≤ f → length bytes ≤ g → scanned f next bytes ≡ scanned g next bytes
enough f g next [] h k = none_scanned f next ∙ sym (none_scanned g next)
enough zero g next (b ∷ bytes) h k = absurd (omega arith)
enough (suc f) zero next (b ∷ bytes) h k = absurd (omega arith)
enough (suc f) (suc g) next (b ∷ bytes) h k =
    let all : List ℕ = b ∷ bytes in
    let rest : List ℕ = drop (17 + first_length all) all in
    let short : length rest ≤ length bytes = omega (arith, length-drop (17 + first_length all) all) in
    ap₂ (λ (x y : List Found). if begins_record next all then replicate (first_number all - next) None ++ (Some (first_record all) ∷ x) else y)
    (enough f g (suc (first_number all)) rest (omega arith) (omega arith))
    (enough f g next bytes (omega arith) (omega arith))

-- a byte that begins no record is passed over
pub passed : (next b : ℕ) (bytes : List ℕ) → begins_record next (b ∷ bytes) ≡ false → found_from next (b ∷ bytes) ≡ found_from next bytes
unfolding found_from
passed next b bytes h =
    let all : List ℕ = b ∷ bytes in
    ap (λ (t : Bool). if t
    then replicate (first_number all - next) None ++ (Some (first_record all) ∷ scanned (length bytes) (suc (first_number all)) (drop (17 + first_length all) all))
    else scanned (length bytes) next bytes) h

pub nothing_found : (next : ℕ) → found_from next [] ≡ []
unfolding found_from
nothing_found next = refl

-- the record that bytes begin with is found
pub first_found : (next : ℕ) (bytes : List ℕ) → begins_record next bytes ≡ true
    → found_from next bytes ≡ replicate (first_number bytes - next) None ++ (Some (first_record bytes) ∷ found_from (suc (first_number bytes)) (drop (17 + first_length bytes) bytes))
unfolding found_from
first_found next [] h = cc
first_found next (b ∷ bytes) h =
    let all : List ℕ = b ∷ bytes in
    let rest : List ℕ = drop (17 + first_length all) all in
    let short : length rest ≤ length bytes = omega (arith, length-drop (17 + first_length all) all) in
    ap (λ (t : Bool). if t
    then replicate (first_number all - next) None ++ (Some (first_record all) ∷ scanned (length bytes) (suc (first_number all)) rest)
    else scanned (length bytes) next bytes) h
    ∙ ap (λ (l : List Found). replicate (first_number all - next) None ++ (Some (first_record all) ∷ l))
    (enough (length bytes) (length rest) (suc (first_number all)) rest short (omega arith))

-- How next_record goes on.

pub found_at : (next number : ℕ) (bytes rest more : List ℕ) (r : Record) → begins_record next rest ≡ true
    → number ≡ first_number rest → r ≡ first_record rest → more ≡ drop (17 + first_length rest) rest → found_from next rest ≡ found_from next bytes
    → found_from next bytes ≡ replicate (number - next) None ++ (Some r ∷ found_from (number + 1) more)
found_at next number bytes rest more r begins is and behind same =
    let one : suc (first_number rest) ≡ number + 1 = omega arith in
    sym same ∙ first_found next rest begins
    ∙ ap (λ (n : ℕ). replicate (n - next) None ++ (Some (first_record rest) ∷ found_from (suc (first_number rest)) (drop (17 + first_length rest) rest))) (sym is)
    ∙ ap₂ (λ (a : Record) (l : List Found). replicate (number - next) None ++ (Some a ∷ l)) (sym and)
    (ap₂ (λ (n : ℕ) (l : List ℕ). found_from n l) one (sym behind))

pub passed_at : (next b : ℕ) (bytes rest behind : List ℕ) → begins_record next rest ≡ false → rest ≡ b ∷ behind → found_from next rest ≡ found_from next bytes
    → found_from next behind ≡ found_from next bytes
passed_at next b bytes rest behind none is same =
    sym (passed next b behind (ap (λ (l : List ℕ). begins_record next l) (sym is) ∙ none)) ∙ ap (λ (l : List ℕ). found_from next l) (sym is) ∙ same

pub nothing_at : (next : ℕ) (bytes rest : List ℕ) → length rest ≡ 0 → found_from next rest ≡ found_from next bytes → found_from next bytes ≡ []
nothing_at next bytes [] is same = sym same ∙ nothing_found next
nothing_at next bytes (b ∷ rest) is same = absurd (omega arith)

-- Packed records are found.

-- what follows the mark of a record
unfoldable pub behind_its_mark : ℕ → Record → List ℕ → List ℕ
behind_its_mark n r more = number_bytes n ++ (number_bytes (length r.0) ++ (r.0 ++ more))

-- 2 if it is settled
unfoldable pub mark_of : Record → ℕ
mark_of r = if r.1 then 2 else 1

pub record_bytes-append : (n : ℕ) (r : Record) (more : List ℕ) → record_bytes n r ++ more ≡ mark_of r ∷ behind_its_mark n r more
unfolding record_bytes mark_of behind_its_mark
record_bytes-append n r more =
    ap (λ (l : List ℕ). (if r.1 then 2 else 1) ∷ l)
    (append_assoc (number_bytes n) (number_bytes (length r.0) ++ r.0) more
    ∙ ap (λ (l : List ℕ). number_bytes n ++ l) (append_assoc (number_bytes (length r.0)) r.0 more))

pub length-record_bytes : (n : ℕ) (r : Record) → length (record_bytes n r) ≡ 17 + length r.0
unfolding record_bytes
length-record_bytes n r = simp (length-append, length-number_bytes) (omega arith)

its_number : (n : ℕ) (r : Record) (more : List ℕ) → n < 2 ^ 64 → number_told (behind_its_mark n r more) ≡ n
unfolding behind_its_mark
its_number n r more h = number_told-bytes n (number_bytes (length r.0) ++ (r.0 ++ more)) h

behind_its_number : (n : ℕ) (r : Record) (more : List ℕ) → drop 8 (behind_its_mark n r more) ≡ number_bytes (length r.0) ++ (r.0 ++ more)
unfolding behind_its_mark
behind_its_number n r more = drop-number n (number_bytes (length r.0) ++ (r.0 ++ more))

its_length : (n : ℕ) (r : Record) (more : List ℕ) → length r.0 < 2 ^ 64 → number_told (drop 8 (behind_its_mark n r more)) ≡ length r.0
its_length n r more h = ap (λ (l : List ℕ). number_told l) (behind_its_number n r more) ∙ number_told-bytes (length r.0) (r.0 ++ more) h

its_bytes : (n : ℕ) (r : Record) (more : List ℕ) → drop 16 (behind_its_mark n r more) ≡ r.0 ++ more
its_bytes n r more = sym (drop-drop 8 8 (behind_its_mark n r more)) ∙ ap (λ (l : List ℕ). drop 8 l) (behind_its_number n r more) ∙ drop-number (length r.0) (r.0 ++ more)

is_marked : (r : Record) → has_mark (mark_of r) ≡ true
unfolding mark_of
is_marked (bytes, true) = refl
is_marked (bytes, false) = refl

is_told : (r : Record) → nat_eq (mark_of r) 2 ≡ r.1
unfolding mark_of
is_told (bytes, true) = refl
is_told (bytes, false) = refl

long_enough : (n : ℕ) (r : Record) (more : List ℕ) → 16 + length r.0 ≤ length (behind_its_mark n r more)
unfolding behind_its_mark
long_enough n r more = simp (length-append, length-number_bytes) (omega arith)

tests : (mark next n m size : ℕ) → has_mark mark ≡ true → next ≤ n → 16 + m ≤ size → (has_mark mark && (nat_le next n && nat_le (16 + m) size)) ≡ true
tests mark next n m size a b d =
    let low : nat_le next n ≡ true = grind (arith, nat_tests) in
    let long : nat_le (16 + m) size ≡ true = grind (arith, nat_tests) in
    and_from (has_mark mark) (nat_le next n && nat_le (16 + m) size) a (and_from (nat_le next n) (nat_le (16 + m) size) low long)

-- what bytes are that begin with a record
pub record Begins (next n : ℕ) (r : Record) (more bytes : List ℕ) : Type 0 where
  pub begins : begins_record next bytes ≡ true
  pub number : first_number bytes ≡ n
  pub size : first_length bytes ≡ length r.0
  pub is : first_record bytes ≡ r
  pub rest : drop (17 + first_length bytes) bytes ≡ more

begins_with : (next n : ℕ) (r : Record) (more : List ℕ) → next ≤ n → n < 2 ^ 64 → length r.0 < 2 ^ 64 → Begins next n r more (mark_of r ∷ behind_its_mark n r more)
begins_with next n r more low fit short =
    let behind : List ℕ = behind_its_mark n r more in
    let number : number_told behind ≡ n = its_number n r more fit in
    let size : number_told (drop 8 behind) ≡ length r.0 = its_length n r more short in
    let bytes : drop 16 behind ≡ r.0 ++ more = its_bytes n r more in
    record {
      begins = ap₂ (λ (a b : ℕ). has_mark (mark_of r) && (nat_le next a && nat_le (16 + b) (length behind))) number size
          ∙ tests (mark_of r) next n (length r.0) (length behind) (is_marked r) low (long_enough n r more);
      number = number;
      size = size;
      is = ap₂ (λ (l : List ℕ) (b : Bool). (l, b))
          (ap₂ (λ (k : ℕ) (l : List ℕ). take k l) size bytes ∙ take-append_seam r.0 more) (is_told r);
      rest = sym (behind_record (mark_of r ∷ behind) (drop 16 behind) (number_told (drop 8 behind)) refl)
          ∙ ap₂ (λ (k : ℕ) (l : List ℕ). drop k l) size bytes ∙ drop-append_seam r.0 more;
    }

-- the record that is there is found
pub one_found : (next n : ℕ) (r : Record) (more : List ℕ) → next ≤ n → n < 2 ^ 64 → length r.0 < 2 ^ 64
    → found_from next (record_bytes n r ++ more) ≡ replicate (n - next) None ++ (Some r ∷ found_from (suc n) more)
one_found next n r more low fit short =
    let all : List ℕ = mark_of r ∷ behind_its_mark n r more in
    let b = begins_with next n r more low fit short in
    ap (λ (l : List ℕ). found_from next l) (record_bytes-append n r more) ∙ first_found next all b.begins
    ∙ ap₂ (λ (k : ℕ) (l : List ℕ). replicate (k - next) None ++ (Some (first_record all) ∷ found_from (suc k) l)) b.number b.rest
    ∙ ap (λ (a : Record). replicate (n - next) None ++ (Some a ∷ found_from (suc n) more)) b.is

packed_found : (n : ℕ) (records : List Record) → FitFrom n records → found_from n (packed_from n records) ≡ map (λ r. Some r) records
packed_found n [] fit = nothing_found n
packed_found n (r ∷ records) fit =
    let none : n - n ≡ 0 = omega arith in
    one_found n n r (packed_from (suc n) records) (omega arith) fit.0 fit.1
    ∙ ap₂ (λ (k : ℕ) (l : List Found). replicate k None ++ (Some r ∷ l)) none (packed_found (suc n) records fit.2)

pub packed_are_found : PackedAreFound
packed_are_found records fit = packed_found 0 records fit
