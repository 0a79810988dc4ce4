-- What a write of one slot leaves in each.
use Rattle.std.proofs.Common.{◌≡◌, ◌⊎◌, inl, inr, ⊎_elim, ℕ, ◌+◌, ◌-◌, ◌*◌, ◌/◌, ◌%◌, ◌<◌, ◌≤◌, Bool, List, length, get_or, drop, min, take, sym, ◌∙◌, ap, arith, ext_get_or, add-zero}
use Rattle.std.proofs.Math.Nat.{div-add-mod, div-div-eq-div-mul}
use Rattle.std.proofs.lemmas.Bool.{cases_Bool, cases_eq, cases_lt}
use Rattle.std.proofs.lemmas.List.{get_or-drop, get_or-take, get_or_past}
use Rattle.std.proofs.lemmas.Nat.{div-mul-add, mul-le}
use Rattle.blob_model.specs.Bytes.{overlay_by}
use Rattle.blob_model.proofs.Bytes.{at_chosen, at_other, at_resized, length-resized}
use Rattle.blob_records.specs.Records.{record_in}

-- a record, by its bytes

pub length_record : (len : ℕ) (x : List ℕ) (i : ℕ) → length (record_in len x i) ≡ len
length_record len x i = length-resized (drop (i * len) x) len

pub record_byte : (len : ℕ) (x : List ℕ) (i j : ℕ) → j < len → get_or (record_in len x i) j 0 ≡ get_or x (i * len + j) 0
record_byte len x i j low = at_resized (drop (i * len) x) len j low ∙ get_or-drop (i * len) x j 0

pub is_record : (len : ℕ) (x : List ℕ) (i : ℕ) (b : List ℕ) → length b ≡ len → ((j : ℕ) → j < len → get_or x (i * len + j) 0 ≡ get_or b j 0) → record_in len x i ≡ b
is_record len x i b is each = ext_get_or 0 (record_in len x i) b (length_record len x i ∙ sym is)
    (λ j low. let l : j < len = omega (arith, low, length_record len x i) in record_byte len x i j l ∙ each j l)

pub same_record : (len : ℕ) (x y : List ℕ) (i : ℕ) → ((j : ℕ) → j < len → get_or x (i * len + j) 0 ≡ get_or y (i * len + j) 0) → record_in len x i ≡ record_in len y i
same_record len x y i each = is_record len x i (record_in len y i) (length_record len y i) (λ j low. each j low ∙ sym (record_byte len y i j low))

-- a slot that isn't this one has none of its bytes
apart : (len i index j : ℕ) → j < len → (i ≡ index → ⊥) → index * len ≤ i * len + j → i * len + j < index * len + len → ⊥
apart len i index j low other after before = ⊎_elim
    (λ lt. let m : (i + 1) * len ≤ index * len = mul-le (i + 1) len index len (omega arith) (omega arith) in
    let d : (i + 1) * len ≡ i * len + len = omega arith in omega (arith, m, d, after, low))
    (λ ge. ⊎_elim
    (λ is. other is)
    (λ ne. let m : (index + 1) * len ≤ i * len = mul-le (index + 1) len i len (omega arith) (omega arith) in
    let d : (index + 1) * len ≡ index * len + len = omega arith in omega (arith, m, d, before))
    (cases_eq i index))
    (cases_lt i index)

pub other_slot : (len : ℕ) (x : List ℕ) (index : ℕ) (b : List ℕ) (c : ℕ → Bool) (i : ℕ) → length b ≡ len → (i ≡ index → ⊥) → record_in len (overlay_by x (index * len) b c) i ≡ record_in len x i
other_slot len x index b c i is other = same_record len _ x i (λ j low. at_other x (index * len) b c (i * len + j)
    (λ after before. absurd (apart len i index j low other after (omega (arith, before, is)))))

-- with the same choice for each of its bytes a slot is written whole or not at all
pub whole_slot : (len : ℕ) (x : List ℕ) (index : ℕ) (b : List ℕ) (c : ℕ → Bool) → length b ≡ len → ((j : ℕ) → j < len → c j ≡ c 0) →
    (record_in len (overlay_by x (index * len) b c) index ≡ record_in len x index) ⊎ (record_in len (overlay_by x (index * len) b c) index ≡ b)
whole_slot len x index b c is same = ⊎_elim
    (λ t. inr (is_record len _ index b is (λ j low.
    let at : index * len + j - index * len ≡ j = omega arith in
    at_chosen x (index * len) b c (index * len + j) (omega arith) (omega (arith, is, low)) (ap c at ∙ same j low ∙ t) ∙ ap (λ (k : ℕ). get_or b k 0) at)))
    (λ f. inl (same_record len _ x index (λ j low.
    let at : index * len + j - index * len ≡ j = omega arith in
    at_other x (index * len) b c (index * len + j) (λ _ _. ap c at ∙ same j low ∙ f))))
    (cases_Bool (c 0))

-- each byte of a slot lies in one sector
pub one_sector : (len size index j : ℕ) → size % len ≡ 0 → j < len → (index * len + j) / size ≡ index / (size / len)
one_sector len size index j whole low =
    let is : len * (size / len) ≡ size = sym (add-zero _) ∙ ap (λ (r : ℕ). len * (size / len) + r) (sym whole) ∙ div-add-mod size len in
    ap (λ (s : ℕ). (index * len + j) / s) (sym is) ∙ sym (div-div-eq-div-mul (index * len + j) len (size / len)) ∙ ap (λ (q : ℕ). q / (size / len)) (div-mul-add index len j low)

-- what a read of the bytes up to the end gives, with zeros after them
pub read_short : (len : ℕ) (x : List ℕ) (i n : ℕ) (bytes items : List ℕ) → n ≡ min (length x - i * len) len → bytes ≡ take n (drop (i * len) x) → length items ≡ len →
    ((j : ℕ) → j < n → get_or items j 0 ≡ get_or bytes j 0) → ((j : ℕ) → n ≤ j → j < len → get_or items j 0 ≡ 0) → items ≡ record_in len x i
read_short len x i n bytes items there read long front rest = sym (is_record len x i items long (λ j low. ⊎_elim
    (λ lt. sym (front j lt ∙ ap (λ (l : List ℕ). get_or l j 0) read ∙ get_or-take n (drop (i * len) x) j 0 lt ∙ get_or-drop (i * len) x j 0))
    (λ ge. get_or_past x (i * len + j) 0 (omega (arith, there, ge, low)) ∙ sym (rest j ge low))
    (cases_lt j n)))

-- bytes that are read from the end on, or from a later place, are none
pub taken : (x : List ℕ) (n offset from len : ℕ) → from ≡ min offset (length x) → n ≡ min (length x - from) len → take n (drop from x) ≡ take n (drop offset x)
taken x n offset from len begins reads = ⊎_elim
    (λ lt. let same : from ≡ offset = omega (arith, begins, lt) in ap (λ (o : ℕ). take n (drop o x)) same)
    (λ ge. let none : n ≡ 0 = omega (arith, begins, reads, ge) in ap (λ (k : ℕ). take k (drop from x)) none ∙ sym (ap (λ (k : ℕ). take k (drop offset x)) none))
    (cases_lt offset (length x))
