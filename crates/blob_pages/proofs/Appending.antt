-- Pages appended to a list, and the part of a run that they have.
use Rattle.std.proofs.Common.{[], ◌∷◌, ◌≡◌, inl, inr, ⊎_elim, ℕ, ◌+◌, ◌-◌, ◌*◌, ◌%◌, ◌<◌, ◌≤◌, true, List, ◌++◌, length, get_or, take, drop, map, sym, ◌∙◌, ap, arith, length-append, length-take, length-drop}
use Rattle.std.proofs.Common.{Result, Ok, Err, OnOk}
use Rattle.std.proofs.lemmas.Bool.{cases_lt}
use Rattle.std.proofs.lemmas.List.{get_or-take, get_or-drop}
use Rattle.blob_pages.specs.declared.page.Page.{Page}
use Rattle.blob_pages.specs.Paged.{page_size, page_bytes, is_owned, byte_at, Adds, Extends, HavePart, Keeps, Lays}
use Rattle.blob_pages.proofs.Paged.{all_owned_more, at_page, extends_kept, extends_more, extends_same, table_length, table_new}

-- nothing is appended
pub adds_none : {T E : Type 0} (result : Result T E) (a b : List Page) → Keeps a b → (run : List ℕ) → OnOk result (length b ≡ length a + 1) → OnOk result (get_or (map page_bytes b) (length a) [] ≡ run) → Adds result a b run
adds_none result a b k run one is = record {
  extends = extends_kept a a b (extends_same a) k;
  one = one;
  bytes = is;
  owned = record { each = λ i l m. absurd (omega (arith, l, m, table_length a b k.bytes)) };
}

-- a page that only this value has is appended
pub adds_page : {T E : Type 0} (result : Result T E) (a b : List Page) (q : Page) → Keeps a b → length (page_bytes q) ≡ page_size → is_owned q ≡ true → Adds result a (b ++ q ∷ []) (page_bytes q)
adds_page result a b q k size own = record {
  extends = extends_more a b q (extends_kept a a b (extends_same a) k) size;
  one = on_ok result (omega (arith, len, table_length a b k.bytes));
  bytes = on_ok result (ap (λ (n : ℕ). get_or (map page_bytes (b ++ q ∷ [])) n []) (sym (table_length a b k.bytes)) ∙ table_new b q);
  owned = record { each = λ i l m. (all_owned_more b (length b) q (record { each = λ j u v. absurd (omega (arith, u, v)) }) own).each i (omega (arith, l, table_length a b k.bytes)) m };
}
  where
    len : length (b ++ q ∷ []) ≡ length b + 1
    len = length-append b (q ∷ [])

    on_ok : {T E : Type 0} (r : Result T E) {P : Type 0} → P → OnOk r P
    on_ok (Ok x) p = p
    on_ok (Err e) p = tt

-- a page made of the bytes of a run at o is appended, after those from `have` on
pub part_more : (a b : List Page) (i have o : ℕ) (run x : List ℕ) → Extends a b → length a ≡ i → o ≤ page_size * i → x ≡ take page_size (drop (i * page_size - o) run) → get_or (map page_bytes b) (length a) [] ≡ x →
    ((p : ℕ) → page_size * have ≤ p → p < page_size * i → byte_at a p ≡ get_or run (p - o) 0) → (p : ℕ) → page_size * have ≤ p → p < page_size * (i + 1) → byte_at b p ≡ get_or run (p - o) 0
part_more a b i have o run x more here low is new before p l m = ⊎_elim
    (λ old. more.bytes p (omega (arith, old, here)) ∙ before p l old)
    (λ on.
    let at : ℕ = i * page_size - o in
    at_page b (length a) p (omega (arith, on, m, here)) ∙ ap (λ (y : List ℕ). get_or y (p % page_size) 0) (new ∙ is)
    ∙ get_or-take page_size (drop at run) (p % page_size) 0 (omega arith) ∙ get_or-drop at run (p % page_size) 0 ∙ ap (λ (k : ℕ). get_or run k 0) (omega (arith, on, m, low)))
    (cases_lt p (page_size * i))

-- the part stays when further pages are appended
pub part_through : (a b : List Page) (o : ℕ) (run : List ℕ) (start end : ℕ) → Extends a b → HavePart a o run start end → HavePart b o run start end
part_through a b o run start end more part = record {
  order = part.order;
  within = part.within;
  there = omega (arith, part.there, more.more);
  bytes = λ p l m. more.bytes p (omega (arith, m, part.there)) ∙ part.bytes p l m;
}

-- a run is written before and after a part that the pages have
pub laid_around : (a b d : List Page) (o : ℕ) (run : List ℕ) (start end : ℕ) → HavePart a o run start end → Lays a b o (take start run) → Lays b d (o + end) (drop end run) → Lays a d o run
laid_around a b d o run start end part first last = record {
  same = last.same ∙ first.same;
  within = λ p l m. ⊎_elim
      (λ early. ⊎_elim
      (λ before. last.outside p (inl early) ∙ first.within p l (omega (arith, before, front)) ∙ get_or-take start run (p - o) 0 (omega (arith, l, before)))
      (λ on. last.outside p (inl early) ∙ first.outside p (inr (omega (arith, on, front))) ∙ part.bytes p on early)
      (cases_lt p (o + start)))
      (λ late. last.within p late (omega (arith, m, late, part.within, length-drop end run)) ∙ get_or-drop end run (p - (o + end)) 0 ∙ ap (λ (k : ℕ). get_or run k 0) (omega (arith, late)))
      (cases_lt p (o + end));
  outside = λ p out. ⊎_elim
      (λ low. last.outside p (inl (omega (arith, low))) ∙ first.outside p (inl low))
      (λ high. last.outside p (inr (omega (arith, high, part.within, length-drop end run))) ∙ first.outside p (inr (omega (arith, high, part.order, part.within, front))))
      out;
  full = last.full;
  owned = record { each = λ i e. last.owned.each i (first.owned.each i e) };
}
  where
    front : length (take start run) ≡ start
    front = omega (arith, length-take start run, part.order, part.within)
