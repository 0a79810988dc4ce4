-- The records of a journal, and the edits in them.
use Rattle.std.proofs.Common.{◌≡◌, ⊎_elim, ℕ, suc, ◌+◌, ◌<◌, ◌≤◌, ◌^◌, Bool, true, false, List, [], ◌∷◌, ◌++◌, Some, None, length, map, refl, sym, ◌∙◌, ap, ap₂, arith, length-append}
use Rattle.std.specs.Prelude.{nat_eq, if◌then◌else◌}
use Rattle.std.proofs.lemmas.Bool.{cases_Bool}
use Rattle.std.proofs.lemmas.Bool.Decides.{nat_tests}
use Rattle.blob_packed.specs.Losses.{PackedAreFound}
use Rattle.blob_packed.specs.Numbers.{number_bytes}
use Rattle.blob_packed.specs.Records.{FitFrom, Record, packed_from, packed, record_bytes}
use Rattle.blob_directory.specs.Names.{Edit}
use Rattle.blob_directory.specs.Records.{Found, edit_found, edit_told, found_in, has_edit}
use Rattle.blob_journal.specs.Told.{settle_one, settled_in}

-- The edits of some records.

abbrev pub told_of : List Record → List Found
told_of [] = []
told_of (r ∷ rs) = edit_found (Some r) ∷ told_of rs

each_found : (rs : List Record) → map edit_found (map (λ r. Some r) rs) ≡ told_of rs
each_found [] = refl
each_found (r ∷ rs) = ap (λ (l : List Found). edit_found (Some r) ∷ l) (each_found rs)

pub told_is : PackedAreFound → (rs : List Record) (bytes : List ℕ) → FitFrom 0 rs → bytes ≡ packed rs → found_in bytes ≡ told_of rs
told_is law rs bytes fit is = ap found_in is ∙ ap (map edit_found) (law rs fit) ∙ each_found rs

pub told_more : (xs : List Record) (r : Record) → told_of (xs ++ r ∷ []) ≡ told_of xs ++ edit_found (Some r) ∷ []
told_more [] r = refl
told_more (x ∷ xs) r = ap (λ (l : List Found). edit_found (Some x) ∷ l) (told_more xs r)

pub told_long : (rs : List Record) → length (told_of rs) ≡ length rs
told_long [] = refl
told_long (r ∷ rs) = ap suc (told_long rs)

-- The length of records.

size_of : (n : ℕ) (bytes : List ℕ) (s t : Bool) → length (record_bytes n (bytes, s)) ≡ length (record_bytes n (bytes, t))
unfolding record_bytes
size_of n bytes s t = refl

-- no record is empty
pub some_record : (n : ℕ) (r : Record) → record_bytes n r ≡ [] → ⊥
unfolding record_bytes
some_record n r e = cc

-- its bytes are no longer than it
pub as_short : (n : ℕ) (bytes : List ℕ) (s : Bool) → length bytes ≤ length (record_bytes n (bytes, s))
unfolding record_bytes
as_short n bytes s =
    let rest : List ℕ = number_bytes (length bytes) ++ bytes in
    let one = length-append (number_bytes n) rest in
    let other = length-append (number_bytes (length bytes)) bytes in
    omega (arith, one, other)

pub longer : (n : ℕ) (rs : List Record) (r : Record) → length (packed_from n (rs ++ r ∷ [])) ≡ length (packed_from n rs) + length (record_bytes (n + length rs) r)
longer n [] r =
    let all = length-append (record_bytes n r) [] in
    let at : length (record_bytes (n + 0) r) ≡ length (record_bytes n r) = ap (λ (m : ℕ). length (record_bytes m r)) (omega arith) in
    omega (arith, all, at)
longer n (x ∷ rs) r =
    let all = length-append (record_bytes n x) (packed_from (suc n) (rs ++ r ∷ [])) in
    let less = length-append (record_bytes n x) (packed_from (suc n) rs) in
    let rest = longer (suc n) rs r in
    let at : length (record_bytes (suc n + length rs) r) ≡ length (record_bytes (n + suc (length rs)) r) = ap (λ (m : ℕ). length (record_bytes m r)) (omega arith) in
    omega (arith, all, less, rest, at)

pub as_long : (n : ℕ) (before after : List Record) (x : List ℕ) (s t : Bool) → length (packed_from n (before ++ (x, s) ∷ after)) ≡ length (packed_from n (before ++ (x, t) ∷ after))
as_long n [] after x s t =
    let rest : List ℕ = packed_from (suc n) after in
    length-append (record_bytes n (x, s)) rest ∙ ap (λ (m : ℕ). m + length rest) (size_of n x s t) ∙ sym (length-append (record_bytes n (x, t)) rest)
as_long n (r ∷ before) after x s t =
    let one : List ℕ = packed_from (suc n) (before ++ (x, s) ∷ after) in
    let other : List ℕ = packed_from (suc n) (before ++ (x, t) ∷ after) in
    length-append (record_bytes n r) one ∙ ap (λ (m : ℕ). length (record_bytes n r) + m) (as_long (suc n) before after x s t) ∙ sym (length-append (record_bytes n r) other)

-- Numbers and lengths of 64 bits.

pub fit_more : (n : ℕ) (rs : List Record) (r : Record) → FitFrom n rs → n + length rs < 2 ^ 64 → length r.0 < 2 ^ 64 → FitFrom n (rs ++ r ∷ [])
fit_more n [] r fit low short = (omega (arith, low), short, tt)
fit_more n (x ∷ rs) r fit low short = (fit.0, fit.1, fit_more (suc n) rs r fit.2 (omega (arith, low)) short)

-- A record that is settled leaves the others.

pub record Moved (n : ℕ) (rs before : List Record) (x : List ℕ) : Type 0 where
  pub first : List Record
  pub rest : List Record
  pub settled : Bool
  pub is : rs ≡ first ++ (x, settled) ∷ rest
  pub count : length first ≡ length before
  pub size : length (packed_from n first) ≡ length (packed_from n before)

both_same : (r r' : Record) (l l' : List Record) → r ≡ r' → l ≡ l' → r ∷ l ≡ r' ∷ l'
both_same r r' l l' one more = ap₂ (λ (q : Record) (m : List Record). q ∷ m) one more

pub moved : (n : ℕ) (b a b' a' : List Record) (x x' : List ℕ) (s s' : Bool) → b ++ (x, s) ∷ a ≡ b' ++ (x', s') ∷ a' → Moved n (b ++ (x, true) ∷ a) b' x'
moved n [] a [] a' x x' s s' is =
    let both : (x, s) ≡ (x', s') = cc in
    let same : x ≡ x' = ap (λ (r : Record). r.0) both in
    record { first = []; rest = a; settled = true; is = ap (λ (l : List ℕ). (l, true) ∷ a) same; count = refl; size = refl }
moved n [] a (r ∷ b') a' x x' s s' is =
    let one : (x, s) ≡ r = cc in
    let more : a ≡ b' ++ (x', s') ∷ a' = cc in
    let rest : List ℕ = packed_from (suc n) b' in
    record {
      first = (x, true) ∷ b';
      rest = a';
      settled = s';
      is = ap (λ (l : List Record). (x, true) ∷ l) more;
      count = refl;
      size = length-append (record_bytes n (x, true)) rest
          ∙ ap (λ (m : ℕ). m + length rest) (size_of n x true s ∙ ap (λ (q : Record). length (record_bytes n q)) one)
          ∙ sym (length-append (record_bytes n r) rest);
    }
moved n (r ∷ b) a [] a' x x' s s' is =
    let one : r ≡ (x', s') = cc in
    record { first = []; rest = b ++ (x, true) ∷ a; settled = s'; is = ap (λ (q : Record). q ∷ (b ++ (x, true) ∷ a)) one; count = refl; size = refl }
moved n (r ∷ b) a (r' ∷ b') a' x x' s s' is =
    let one : r ≡ r' = cc in
    let more : b ++ (x, s) ∷ a ≡ b' ++ (x', s') ∷ a' = cc in
    let m = moved (suc n) b a b' a' x x' s s' more in
    record {
      first = r' ∷ m.first;
      rest = m.rest;
      settled = m.settled;
      is = both_same r r' (b ++ (x, true) ∷ a) (m.first ++ (x', m.settled) ∷ m.rest) one m.is;
      count = ap suc m.count;
      size = length-append (record_bytes n r') (packed_from (suc n) m.first)
          ∙ ap (λ (k : ℕ). length (record_bytes n r') + k) m.size
          ∙ sym (length-append (record_bytes n r') (packed_from (suc n) b'));
    }

-- The edits of records of which one is settled.

by_change : (b s : Bool) (edit : Edit) → (if b then Some (edit, true) else None) ≡ settle_one true (if b then Some (edit, s) else None)
by_change true true edit = refl
by_change true false edit = refl
by_change false s edit = refl

flagged : (bytes : List ℕ) (s : Bool) → edit_found (Some (bytes, true)) ≡ settle_one true (edit_found (Some (bytes, s)))
flagged bytes s = by_change (has_edit bytes) s (edit_told bytes)

settle_none : (f : Found) → settle_one false f ≡ f
settle_none None = refl
settle_none (Some (edit, true)) = refl
settle_none (Some (edit, false)) = refl

none_from : (which : ℕ → Bool) (n : ℕ) (told : List Found) → ((i : ℕ) → n ≤ i → which i ≡ false) → settled_in which n told ≡ told
none_from which n [] none = refl
none_from which n (f ∷ told) none =
    ap₂ (λ (x : Found) (l : List Found). x ∷ l) (ap (λ (t : Bool). settle_one t f) (none n (omega arith)) ∙ settle_none f) (none_from which (suc n) told (λ i low. none i (omega (arith, low))))

pub apart : (k i : ℕ) → (k ≡ i → ⊥) → nat_eq k i ≡ false
apart k i other = ⊎_elim (λ (y : nat_eq k i ≡ true). let same : k ≡ i = grind (arith, nat_tests, y) in absurd (other same)) (λ (n : nat_eq k i ≡ false). n) (cases_Bool (nat_eq k i))

settled_from : (k n : ℕ) (before after : List Record) (x : List ℕ) (s : Bool) → k ≡ n + length before
    → told_of (before ++ (x, true) ∷ after) ≡ settled_in (λ i. nat_eq k i) n (told_of (before ++ (x, s) ∷ after))
settled_from k n [] after x s at =
    let here : nat_eq k n ≡ true = grind (arith, nat_tests, at) in
    ap₂ (λ (f : Found) (l : List Found). f ∷ l)
    (flagged x s ∙ ap (λ (t : Bool). settle_one t (edit_found (Some (x, s)))) (sym here))
    (sym (none_from (λ i. nat_eq k i) (suc n) (told_of after) (λ i low. apart k i (λ e. omega (arith, e, low, at)))))
settled_from k n (r ∷ before) after x s at =
    let other : nat_eq k n ≡ false = apart k n (λ e. omega (arith, e, at)) in
    ap₂ (λ (f : Found) (l : List Found). f ∷ l)
    (sym (ap (λ (t : Bool). settle_one t (edit_found (Some r))) other ∙ settle_none (edit_found (Some r))))
    (settled_from k (suc n) before after x s (omega (arith, at)))

pub told_again : (before after : List Record) (x : List ℕ) (s : Bool) (k : ℕ) → k ≡ length before
    → told_of (before ++ (x, true) ∷ after) ≡ settled_in (λ i. nat_eq k i) 0 (told_of (before ++ (x, s) ∷ after))
told_again before after x s k at = settled_from k 0 before after x s (omega (arith, at))
