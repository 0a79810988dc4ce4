-- The numbers of a map's incarnations.
use Rattle.std.proofs.Common.{◌≡◌, ⊎_elim, ℕ, List, [], ◌∷◌, Bool, true, false, Option, None, Some, Contains, refl, sym, ◌∙◌, ap, subst, arith}
use Rattle.std.proofs.lemmas.Bool.{cases_Bool, cond-true, cond-false}
use Rattle.std.proofs.lemmas.List.Elements.{Contains-append_right}
use Rattle.std.proofs.lemmas.Bool.{false≢true, and_parts}
use Rattle.std.proofs.lemmas.Bool.Decides.{nat_tests}
use Rattle.std.specs.Cmp.Lexicographic.{bytes_decides}
use Rattle.std.specs.Map.{lookup, values_of}
use Rattle.std.specs.Prelude.{◌&&◌, ◌==◌, nat_lt}
use Rattle.std.specs.Str.{bytes_eq}
use Rattle.blob_base.specs.Names.{HasNumbers}
use Rattle.blob_header.specs.Header.{data_start}
use Rattle.blob_model.specs.Directory.{is_that, is_current}
use Rattle.blob_memory.specs.declared.contents.Contents.{Contents}
use Rattle.blob_memory.specs.declared.item.Held as held
use Rattle.blob_memory.specs.Contents.{directory_of, file_of, file_when}
use Rattle.blob_memory.specs.Partitions.{item_at}
use Rattle.blob_memory.specs.declared.item.Item.{Item}
use Rattle.blob_memory.specs.declared.item.Item.TheVariants.{Raw, Held}
use Rattle.blob_memory.specs.Numbers.{item_number, numbers_held, HasItemNumbers}

-- that of an item
number_here : (item : Item) (items : List Item) (k : ℕ) → item_number (Some item) ≡ Some k → Contains (numbers_held (item ∷ items)) k
number_here (Raw bytes) items k e = cc
number_here (Held h) items k e = (0, omega arith, cc)

number_later : (item : Item) (items : List Item) (k : ℕ) → Contains (numbers_held items) k → Contains (numbers_held (item ∷ items)) k
number_later (Raw bytes) items k there = there
number_later (Held h) items k there = Contains-append_right (h.number ∷ []) (numbers_held items) k there

pub number_found : {K : Type 0} (test : K → Bool) (es : List (K × Item)) (k : ℕ) → item_number (lookup test es) ≡ Some k → Contains (numbers_held (values_of es)) k
number_found test [] k e = cc
number_found test (x ∷ es) k e = ⊎_elim
    (λ yes. number_here x.1 (values_of es) k (ap item_number (sym (cond-true (test x.0) (Some x.1) (lookup test es) yes)) ∙ e))
    (λ no. number_later x.1 (values_of es) k (number_found test es k (ap item_number (sym (cond-false (test x.0) (Some x.1) (lookup test es) no)) ∙ e)))
    (cases_Bool (test x.0))

-- the number of a current incarnation
that_number : (first : ℕ) (x : Option Item) (k start : ℕ) → is_that (file_of first x) k start ≡ true → item_number x ≡ Some k
that_number first None k start e = absurd (false≢true e)
that_number first (Some (Raw bytes)) k start e = absurd (false≢true e)
that_number first (Some (Held h)) k start e = by_end (nat_lt h.number first) e where
  same : (h.number == k) ≡ true → h.number ≡ k
  same y = grind (arith, nat_tests)

  by_end : (b : Bool) → is_that (Some (file_when b h)) k start ≡ true → item_number (Some (Held h)) ≡ Some k
  by_end true f = absurd (false≢true f)
  by_end false f = ap (λ (n : ℕ). Some n) (same (and_parts (h.number == k) (data_start h.layout == start) f).0)

pub has_numbers : (s : Contents) (p numbers : List ℕ) → HasItemNumbers s.partitions p numbers → HasNumbers (directory_of s) p numbers
has_numbers s p numbers has o removed =
    let parts = and_parts (bytes_eq p o.partition) (is_current (directory_of s) o) removed in
    has o.name o.number (subst (λ (q : List ℕ). item_number (item_at s.partitions q o.name) ≡ Some o.number) (sym ((bytes_decides p o.partition).0 parts.0)) (that_number s.first (item_at s.partitions o.partition o.name) o.number o.start parts.1))
