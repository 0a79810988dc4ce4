-- Changes of a list of pages.
use Rattle.std.proofs.Common.{[], ◌∷◌, ◌≡◌, ◌≢◌, ◌⊎◌, inl, inr, ⊎_elim, ℕ, ◌+◌, ◌-◌, ◌*◌, ◌/◌, ◌%◌, ◌<◌, ◌≤◌, max, true, false, true≢false, List, ◌++◌, length, get_or, take, drop, set, map, replicate, refl, sym, ◌∙◌, ap, arith, append_assoc, length-append, length-take, length-drop, length-set, get_or-set_same, get_or-set_other}
use Rattle.std.proofs.lemmas.Bool.{cases_lt, cases_eq}
use Rattle.std.proofs.lemmas.List.{drop-drop, length-map, map-set, map-append, length-replicate, get_or-replicate, get_or_append_left, get_or-append_right, get_or-take, get_or-drop, get_or-map, get_or_past, set-get_or}
use Rattle.std.proofs.Math.Seq.{take-add}
use Rattle.blob_pages.specs.declared.page.Page.{Page}
use Rattle.std.proofs.lemmas.List.FromFn.{length-map-range_with_len, get_or-map-range_with_len}
use Rattle.blob_model.specs.Bytes.{overlay, resize, reach}
use Rattle.blob_model.proofs.Bytes.{same_bytes, length-resized, at_resized, past_resized, length-overlay_by, reach_below, reach_all, at_chosen, at_other}
use Rattle.blob_pages.specs.Paged.{page_size, bytes_in, page_bytes, is_owned, byte_at, owned_at, AreFull, AreOwned, Keeps, KeepsOwned, Extends, Lays, Puts, splice}

module _ (x : List ℕ) (n : ℕ) (y : List ℕ) (h : n + length y ≤ length x) where
  pub length-spliced : length (splice x n y) ≡ length x
  length-spliced = omega (arith, h, length-append (take n x) (y ++ drop (n + length y) x), length-append y (drop (n + length y) x), length-take n x, length-drop (n + length y) x)

  pub spliced_before : (p : ℕ) → p < n → get_or (splice x n y) p 0 ≡ get_or x p 0
  spliced_before p l = get_or_append_left (take n x) _ 0 p (omega (arith, h, l, length-take n x)) ∙ get_or-take n x p 0 l

  pub spliced_within : (p : ℕ) → n ≤ p → p < n + length y → get_or (splice x n y) p 0 ≡ get_or y (p - n) 0
  spliced_within p l m = get_or-append_right (take n x) _ n p 0 (omega (arith, h, length-take n x)) l ∙ get_or_append_left y _ 0 (p - n) (omega (arith, l, m))

  pub spliced_behind : (p : ℕ) → n + length y ≤ p → get_or (splice x n y) p 0 ≡ get_or x p 0
  spliced_behind p m = get_or-append_right (take n x) _ n p 0 (omega (arith, h, length-take n x)) (omega (arith, m))
      ∙ get_or-append_right y _ (length y) (p - n) 0 refl (omega (arith, m))
      ∙ get_or-drop (n + length y) x _ 0 ∙ ap (λ q. get_or x q 0) (omega (arith, m))

-- the bytes of one page of the list
pub table_at : (ps : List Page) (i : ℕ) (page : Page) → i < length ps → page ≡ get_or ps i page → get_or (map page_bytes ps) i [] ≡ page_bytes page
table_at ps i page h is = get_or-map page_bytes ps i page [] h ∙ ap page_bytes (sym is)

pub owner_at : (ps : List Page) (i : ℕ) (page : Page) → i < length ps → page ≡ get_or ps i page → owned_at ps i ≡ is_owned page
owner_at ps i page h is = get_or-map is_owned ps i page false h ∙ ap is_owned (sym is)

-- one page replaced
module _ (ps : List Page) (i : ℕ) (q : Page) (h : i < length ps) where
  pub table_same : get_or (map page_bytes (set ps i q)) i [] ≡ page_bytes q
  table_same = ap (λ t. get_or t i []) (map-set page_bytes ps i q) ∙ get_or-set_same (map page_bytes ps) i (page_bytes q) [] (omega (arith, h, length-map ps page_bytes))

  pub table_other : (j : ℕ) → j ≢ i → get_or (map page_bytes (set ps i q)) j [] ≡ get_or (map page_bytes ps) j []
  table_other j ne = ap (λ t. get_or t j []) (map-set page_bytes ps i q) ∙ get_or-set_other (map page_bytes ps) i j (page_bytes q) [] ne

  pub byte_same : (p : ℕ) → p / page_size ≡ i → byte_at (set ps i q) p ≡ get_or (page_bytes q) (p % page_size) 0
  unfolding byte_at
  byte_same p e = ap (λ j. get_or (get_or (map page_bytes (set ps i q)) j []) (p % page_size) 0) e ∙ ap (λ l. get_or l (p % page_size) 0) table_same

  pub byte_other : (p : ℕ) → p / page_size ≢ i → byte_at (set ps i q) p ≡ byte_at ps p
  unfolding byte_at
  byte_other p ne = ap (λ l. get_or l (p % page_size) 0) (table_other (p / page_size) ne)

  pub keeps_owned : is_owned q ≡ true → KeepsOwned ps (set ps i q)
  keeps_owned e = record {
    each = λ j o. ap (λ t. get_or t j false) (map-set is_owned ps i q) ∙ ⊎_elim
        (λ is. ap (λ k. get_or (set (map is_owned ps) i (is_owned q)) k false) is ∙ get_or-set_same (map is_owned ps) i (is_owned q) false (omega (arith, h, length-map ps is_owned)) ∙ e)
        (λ ne. get_or-set_other (map is_owned ps) i j (is_owned q) false ne ∙ o)
        (cases_eq j i);
  }

  pub owner_other : (j : ℕ) → j ≢ i → owned_at (set ps i q) j ≡ owned_at ps j
  owner_other j ne = ap (λ t. get_or t j false) (map-set is_owned ps i q) ∙ get_or-set_other (map is_owned ps) i j (is_owned q) false ne

  pub now_owned : is_owned q ≡ true → owned_at (set ps i q) i ≡ true
  now_owned e = ap (λ t. get_or t i false) (map-set is_owned ps i q) ∙ get_or-set_same (map is_owned ps) i (is_owned q) false (omega (arith, h, length-map ps is_owned)) ∙ e

pub byte_in : (ps : List Page) (p : ℕ) (page : Page) → p / page_size < length ps → page ≡ get_or ps (p / page_size) page → byte_at ps p ≡ get_or (page_bytes page) (p % page_size) 0
unfolding byte_at
byte_in ps p page h is = ap (λ l. get_or l (p % page_size) 0) (table_at ps (p / page_size) page h is)

pub at_page : (ps : List Page) (i p : ℕ) → p / page_size ≡ i → byte_at ps p ≡ get_or (get_or (map page_bytes ps) i []) (p % page_size) 0
unfolding byte_at
at_page ps i p same = ap (λ j. get_or (get_or (map page_bytes ps) j []) (p % page_size) 0) same

-- a run written within one page
pub page_laid : (ps qs : List Page) (at : ℕ) (x : List ℕ) → AreFull ps → at / page_size < length ps → at % page_size + length x ≤ page_size → Puts ps qs (at / page_size) (at % page_size) x → Lays ps qs at x
page_laid ps qs at x full h fits u = rw u.set (record {
  same = length-set ps i q;
  within = λ p l m. byte_same ps i q h p (omega (arith, l, m, fits)) ∙ ap (λ l. get_or l (p % page_size) 0) u.bytes ∙ spliced_within old (at % page_size) x room (p % page_size) (omega (arith, l, m, fits)) (omega (arith, l, m, fits)) ∙ ap (λ k. get_or x k 0) (omega (arith, l, m, fits));
  outside = λ p out. ⊎_elim
      (λ same. byte_same ps i q h p same ∙ ap (λ l. get_or l (p % page_size) 0) u.bytes
      ∙ ⊎_elim (λ l. spliced_before old (at % page_size) x room (p % page_size) (omega (arith, l, same))) (λ m. spliced_behind old (at % page_size) x room (p % page_size) (omega (arith, m, same))) out
      ∙ sym (at_page ps i p same))
      (λ ne. byte_other ps i q h p ne)
      (cases_eq (p / page_size) i);
  full = record {
    each = λ j l. ⊎_elim
        (λ same. ap (λ k. length (get_or (map page_bytes (set ps i q)) k [])) same ∙ ap length (table_same ps i q h) ∙ ap length u.bytes ∙ length-spliced old (at % page_size) x room ∙ full.each i h)
        (λ ne. ap length (table_other ps i q h j ne) ∙ full.each j (omega (arith, l, length-set ps i q)))
        (cases_eq j i);
  };
  owned = keeps_owned ps i q h u.owned;
})
  where
    i : ℕ
    i = at / page_size

    q : Page
    q = u.page

    old : List ℕ
    old = get_or (map page_bytes ps) i []

    room : at % page_size + length x ≤ length old
    room = omega (arith, full.each i h, fits)

pub lays_none : (ps : List Page) (o : ℕ) → AreFull ps → Lays ps ps o []
lays_none ps o full = record { same = refl; within = λ p l m. absurd (omega (arith, l, m)); outside = λ p _. refl; full = full; owned = record { each = λ i e. e } }

-- a run written after another
pub lays_more : (a b c : List Page) (o : ℕ) (x y : List ℕ) → Lays a b o x → Lays b c (o + length x) y → Lays a c o (x ++ y)
lays_more a b c o x y f g = record {
  same = g.same ∙ f.same;
  within = λ p l m. ⊎_elim
      (λ low. g.outside p (inl low) ∙ f.within p l low ∙ sym (get_or_append_left x y 0 (p - o) (omega (arith, l, low))))
      (λ high. g.within p high (omega (arith, m, length-append x y)) ∙ ap (λ k. get_or y k 0) (omega (arith, high)) ∙ sym (get_or-append_right x y (length x) (p - o) 0 refl (omega (arith, high))))
      (cases_lt p (o + length x));
  outside = λ p out. ⊎_elim
      (λ low. g.outside p (inl (omega (arith, low))) ∙ f.outside p (inl low))
      (λ high. g.outside p (inr (omega (arith, high, length-append x y))) ∙ f.outside p (inr (omega (arith, high, length-append x y))))
      out;
  full = g.full;
  owned = record { each = λ i e. g.owned.each i (f.owned.each i e) };
}

-- a shared page replaced by a copy
pub keeps_more : (a b : List Page) (i : ℕ) (page q : Page) → Keeps a b → i < length b → page ≡ get_or b i page → page_bytes q ≡ page_bytes page → (is_owned page ≡ true → is_owned q ≡ true) → Keeps a (set b i q)
keeps_more a b i page q k h is eq own = record {
  bytes = map-set page_bytes b i q ∙ ap (set (map page_bytes b) i) (eq ∙ sym (table_at b i page h is)) ∙ set-get_or (map page_bytes b) i [] ∙ k.bytes;
  owned = record {
    each = λ j e. let before = k.owned.each j e in ⊎_elim
        (λ same. ap (owned_at (set b i q)) same ∙ now_owned b i q h (own (sym (owner_at b i page h is) ∙ ap (owned_at b) (sym same) ∙ before)))
        (λ ne. owner_other b i q h j ne ∙ before)
        (cases_eq j i);
  };
}

pub owned_more : (b : List Page) (from i : ℕ) (q : Page) → AreOwned b from i → i < length b → is_owned q ≡ true → AreOwned (set b i q) from (i + 1)
owned_more b from i q o h e = record {
  each = λ j l m. ⊎_elim
      (λ same. ap (owned_at (set b i q)) same ∙ now_owned b i q h e)
      (λ ne. owner_other b i q h j ne ∙ o.each j l (omega (arith, m, ne)))
      (cases_eq j i);
}

-- a page appended
module _ (b : List Page) (q : Page) where
  table_kept : (i : ℕ) → i < length b → get_or (map page_bytes (b ++ q ∷ [])) i [] ≡ get_or (map page_bytes b) i []
  table_kept i h = ap (λ t. get_or t i []) (map-append page_bytes b (q ∷ [])) ∙ get_or_append_left (map page_bytes b) _ [] i (omega (arith, h, length-map b page_bytes))

  pub table_new : get_or (map page_bytes (b ++ q ∷ [])) (length b) [] ≡ page_bytes q
  table_new = ap (λ t. get_or t (length b) []) (map-append page_bytes b (q ∷ [])) ∙ get_or-append_right (map page_bytes b) (page_bytes q ∷ []) (length b) (length b) [] (length-map b page_bytes) (omega arith) ∙ ap (λ k. get_or (page_bytes q ∷ []) k []) zero_left
    where
      zero_left : length b - length b ≡ 0
      zero_left = omega arith

  owner_kept : (i : ℕ) → i < length b → owned_at (b ++ q ∷ []) i ≡ owned_at b i
  owner_kept i h = ap (λ t. get_or t i false) (map-append is_owned b (q ∷ [])) ∙ get_or_append_left (map is_owned b) _ false i (omega (arith, h, length-map b is_owned))

  owner_new : owned_at (b ++ q ∷ []) (length b) ≡ is_owned q
  owner_new = ap (λ t. get_or t (length b) false) (map-append is_owned b (q ∷ [])) ∙ get_or-append_right (map is_owned b) (is_owned q ∷ []) (length b) (length b) false (length-map b is_owned) (omega arith) ∙ ap (λ k. get_or (is_owned q ∷ []) k false) zero_left
    where
      zero_left : length b - length b ≡ 0
      zero_left = omega arith

  byte_kept : (p : ℕ) → p / page_size < length b → byte_at (b ++ q ∷ []) p ≡ byte_at b p
  unfolding byte_at
  byte_kept p h = ap (λ l. get_or l (p % page_size) 0) (table_kept (p / page_size) h)

-- a page that only this value has exists
pub owner_there : (b : List Page) (i : ℕ) → owned_at b i ≡ true → i < length b
owner_there b i e = ⊎_elim (λ h. h) (λ h. absurd (true≢false (sym e ∙ get_or_past (map is_owned b) i false (omega (arith, h, length-map b is_owned))))) (cases_lt i (length b))

pub extends_more : (a b : List Page) (q : Page) → Extends a b → length (page_bytes q) ≡ page_size → Extends a (b ++ q ∷ [])
extends_more a b q x size = record {
  more = omega (arith, x.more, len);
  bytes = λ p h. byte_kept b q p (omega (arith, h, x.more)) ∙ x.bytes p h;
  full = λ f. record {
    each = λ i h. ⊎_elim (λ l. ap length (table_kept b q i l) ∙ (x.full f).each i l)
        (λ ge. let is : i ≡ length b = omega (arith, h, ge, len) in ap (λ k. length (get_or (map page_bytes (b ++ q ∷ [])) k [])) is ∙ ap length (table_new b q) ∙ size) (cases_lt i (length b));
  };
  owned = record { each = λ i e. let before = x.owned.each i e in owner_kept b q i (owner_there b i before) ∙ before };
}
  where
    len : length (b ++ q ∷ []) ≡ length b + 1
    len = length-append b (q ∷ [])

pub all_owned_more : (b : List Page) (from : ℕ) (q : Page) → AreOwned b from (length b) → is_owned q ≡ true → AreOwned (b ++ q ∷ []) from (length (b ++ q ∷ []))
all_owned_more b from q o e = record {
  each = λ i l m. ⊎_elim (λ h. owner_kept b q i h ∙ o.each i l h)
      (λ ge. let is : i ≡ length b = omega (arith, m, ge, length-append b (q ∷ [])) in ap (owned_at (b ++ q ∷ [])) is ∙ owner_new b q ∙ e) (cases_lt i (length b));
}

-- bytes by offset
pub length-bytes_in : (ps : List Page) (n : ℕ) → length (bytes_in ps n) ≡ n
unfolding bytes_in
length-bytes_in ps n = length-map-range_with_len _ _ _

pub at_bytes_in : (ps : List Page) (n p : ℕ) → p < n → get_or (bytes_in ps n) p 0 ≡ byte_at ps p
unfolding bytes_in
at_bytes_in ps n p h = get_or-map-range_with_len (byte_at ps) 0 n p p 0 h (omega arith)

pub past_bytes_in : (ps : List Page) (n p : ℕ) → n ≤ p → get_or (bytes_in ps n) p 0 ≡ 0
past_bytes_in ps n p h = get_or_past _ p 0 (omega (arith, h, length-bytes_in ps n))

-- two lists with the same bytes up to a length
pub same_bytes_in : (ps qs : List Page) (n : ℕ) → ((p : ℕ) → p < n → byte_at qs p ≡ byte_at ps p) → bytes_in qs n ≡ bytes_in ps n
same_bytes_in ps qs n e = same_bytes _ _ (length-bytes_in qs n ∙ sym (length-bytes_in ps n)) (λ p. ⊎_elim
    (λ l. at_bytes_in qs n p l ∙ e p l ∙ sym (at_bytes_in ps n p l))
    (λ m. past_bytes_in qs n p m ∙ sym (past_bytes_in ps n p m))
    (cases_lt p n))

pub same_table : (ps qs : List Page) → map page_bytes qs ≡ map page_bytes ps → (p : ℕ) → byte_at qs p ≡ byte_at ps p
unfolding byte_at
same_table ps qs e p = ap (λ t. get_or (get_or t (p / page_size) []) (p % page_size) 0) e

pub table_length : (ps qs : List Page) → map page_bytes qs ≡ map page_bytes ps → length qs ≡ length ps
table_length ps qs e = sym (length-map qs page_bytes) ∙ ap length e ∙ length-map ps page_bytes

pub table_full : (ps qs : List Page) → map page_bytes qs ≡ map page_bytes ps → AreFull ps → AreFull qs
table_full ps qs e f = record { each = λ i h. ap (λ t. length (get_or t i [])) e ∙ f.each i (omega (arith, h, table_length ps qs e)) }

pub owned_through : (a b c : List Page) → KeepsOwned a b → KeepsOwned b c → KeepsOwned a c
owned_through a b c f g = record { each = λ i e. g.each i (f.each i e) }

-- pages appended, then shared ones replaced by copies
pub extends_kept : (a b c : List Page) → Extends a b → Keeps b c → Extends a c
extends_kept a b c x k = record {
  more = omega (arith, x.more, table_length b c k.bytes);
  bytes = λ p h. same_table b c k.bytes p ∙ x.bytes p h;
  full = λ f. table_full b c k.bytes (x.full f);
  owned = owned_through a b c x.owned k.owned;
}

pub extends_same : (a : List Page) → Extends a a
extends_same a = record { more = omega arith; bytes = λ p h. refl; full = λ f. f; owned = record { each = λ i e. e } }

pub extends_through : (a b c : List Page) → Extends a b → Extends b c → Extends a c
extends_through a b c x y = record {
  more = omega (arith, x.more, y.more);
  bytes = λ p h. y.bytes p (omega (arith, h, x.more)) ∙ x.bytes p h;
  full = λ f. y.full (x.full f);
  owned = owned_through a b c x.owned y.owned;
}

pub keeps_same : (a : List Page) → Keeps a a
keeps_same a = record { bytes = refl; owned = record { each = λ i e. e } }

pub keeps_through : (a b c : List Page) → Keeps a b → Keeps b c → Keeps a c
keeps_through a b c x y = record { bytes = y.bytes ∙ x.bytes; owned = owned_through a b c x.owned y.owned }

-- the same pages, some of them copied
pub keeps_from : (a b : List Page) → map page_bytes b ≡ map page_bytes a → map is_owned b ≡ map is_owned a → Keeps a b
keeps_from a b e o = record { bytes = e; owned = record { each = λ i h. ap (λ t. get_or t i false) o ∙ h } }

-- a range of pages that only this value has, and one more
pub owned_next : (b c : List Page) (from i : ℕ) → AreOwned b from i → KeepsOwned b c → owned_at c i ≡ true → AreOwned c from (i + 1)
owned_next b c from i o k e = record { each = λ j l m. ⊎_elim (λ same. ap (owned_at c) same ∙ e) (λ ne. k.each j (o.each j l (omega (arith, m, ne)))) (cases_eq j i) }

pub owned_after : (b c : List Page) (from : ℕ) → AreOwned b from (length b) → KeepsOwned b c → AreOwned c (length b) (length c) → AreOwned c from (length c)
owned_after b c from o k n = record { each = λ j l m. ⊎_elim (λ low. k.each j (o.each j l low)) (λ high. n.each j high m) (cases_lt j (length b)) }

-- the bytes are unchanged when pages are appended
pub extended_bytes : (a b : List Page) (n : ℕ) → n ≤ page_size * length a → Extends a b → bytes_in b n ≡ bytes_in a n
extended_bytes a b n h x = same_bytes_in a b n (λ p l. x.bytes p (omega (arith, l, h)))

-- zeros written after the bytes
pub blanked : (a b : List Page) (n m : ℕ) → n ≤ m → Lays a b n (replicate (m - n) 0) → bytes_in b m ≡ resize (bytes_in a n) m
blanked a b n m le l = same_bytes _ _ (omega (arith, length-bytes_in b m, length-resized (bytes_in a n) m)) (λ p. ⊎_elim
    (λ h. at_bytes_in b m p h ∙ ⊎_elim
    (λ low. l.outside p (inl low) ∙ sym (at_bytes_in a n p low))
    (λ high. l.within p high (omega (arith, h, high, length-replicate {A = ℕ} (m - n) 0)) ∙ get_or-replicate (m - n) (p - n) 0 0 (omega (arith, h, high)) ∙ sym (past_bytes_in a n p high))
    (cases_lt p n) ∙ sym (at_resized (bytes_in a n) m p h))
    (λ h. past_bytes_in b m p h ∙ sym (past_resized (bytes_in a n) m p h))
    (cases_lt p m))

-- a truncation
pub cut_bytes : (a : List Page) (n m : ℕ) → m ≤ n → bytes_in a m ≡ resize (bytes_in a n) m
cut_bytes a n m le = same_bytes _ _ (omega (arith, length-bytes_in a m, length-resized (bytes_in a n) m)) (λ p. ⊎_elim
    (λ h. at_bytes_in a m p h ∙ sym (at_bytes_in a n p (omega (arith, h, le))) ∙ sym (at_resized (bytes_in a n) m p h))
    (λ h. past_bytes_in a m p h ∙ sym (past_resized (bytes_in a n) m p h))
    (cases_lt p m))

-- a run written within the length
pub laid_over : (a b : List Page) (n o : ℕ) (x : List ℕ) → o + length x ≤ n → Lays a b o x → bytes_in b n ≡ overlay (bytes_in a n) o x
laid_over a b n o x fits l = same_bytes _ _ (omega (arith, fits, length-bytes_in b n, length-bytes_in a n, length-overlay_by (bytes_in a n) o x (λ _. true), reach_below o (length x) (λ _. true) n (λ i h _. omega (arith, h, fits)))) (λ p. ⊎_elim
    (λ h. at_bytes_in b n p h ∙ ⊎_elim
    (λ low. other p h (inl low))
    (λ ge. ⊎_elim (λ lt. l.within p ge lt ∙ sym (at_chosen (bytes_in a n) o x (λ _. true) p ge lt refl)) (λ past. other p h (inr past)) (cases_lt p (o + length x)))
    (cases_lt p o))
    (λ h. past_bytes_in b n p h ∙ sym (past_bytes_in a n p h) ∙ sym (at_other (bytes_in a n) o x (λ _. true) p (λ _ u. absurd (omega (arith, h, u, fits)))))
    (cases_lt p n))
  where
    other : (p : ℕ) → p < n → (p < o) ⊎ (o + length x ≤ p) → byte_at b p ≡ get_or (overlay (bytes_in a n) o x) p 0
    other p h out = l.outside p out ∙ sym (at_bytes_in a n p h) ∙ sym (at_other (bytes_in a n) o x (λ _. true) p (λ ge u. ⊎_elim (λ low. absurd (omega (arith, low, ge))) (λ past. absurd (omega (arith, past, u))) out))

-- a run written from within the length on
pub laid_at : (a b : List Page) (n m o : ℕ) (x : List ℕ) → o ≤ n → m ≡ max n (o + length x) → 0 < length x → Lays a b o x → bytes_in b m ≡ overlay (bytes_in a n) o x
laid_at a b n m o x le is some l = same_bytes _ _ (omega (arith, is, length-bytes_in b m, length-bytes_in a n, length-overlay_by (bytes_in a n) o x (λ _. true), reach_all o (length x) some)) (λ p. ⊎_elim
    (λ low. at_bytes_in b m p (omega (arith, low, le, is)) ∙ l.outside p (inl low) ∙ sym (at_bytes_in a n p (omega (arith, low, le))) ∙ sym (at_other (bytes_in a n) o x (λ _. true) p (λ ge _. absurd (omega (arith, low, ge)))))
    (λ ge. ⊎_elim
    (λ lt. at_bytes_in b m p (omega (arith, lt, is)) ∙ l.within p ge lt ∙ sym (at_chosen (bytes_in a n) o x (λ _. true) p ge lt refl))
    (λ past. let other = at_other (bytes_in a n) o x (λ _. true) p (λ _ u. absurd (omega (arith, past, u))) in ⊎_elim
    (λ h. at_bytes_in b m p (omega (arith, h, is)) ∙ l.outside p (inr past) ∙ sym (at_bytes_in a n p h) ∙ sym other)
    (λ h. past_bytes_in b m p (omega (arith, h, past, is)) ∙ sym (past_bytes_in a n p h) ∙ sym other)
    (cases_lt p n))
    (cases_lt p (o + length x)))
    (cases_lt p o))

-- after one more page is shared
pub shared_more : {X Y : Type 0} (f : X → Y) (t u : List X) (i : ℕ) (x q : X) → map f u ≡ map f t → i < length u → x ≡ get_or u i x → f q ≡ f x → map f (set u i q) ≡ map f t
shared_more f t u i x q k h is eq = map-set f u i q ∙ ap (set (map f u) i) (eq ∙ ap f is ∙ sym (get_or-map f u i x (f q) h)) ∙ set-get_or (map f u) i (f q) ∙ k

pub owned_same : (a : List Page) → KeepsOwned a a
owned_same a = record { each = λ i e. e }

-- zeros that the overlay covers, or would add itself, don't change its result
pub overlay_grown : (x : List ℕ) (o : ℕ) (b : List ℕ) (n : ℕ) → length x ≤ n → n ≤ max (length x) (reach o (length b) (λ _. true)) → overlay (resize x n) o b ≡ overlay x o b
overlay_grown x o b n least most = same_bytes _ _
    (omega (arith, least, most, length-overlay_by (resize x n) o b (λ _. true), length-overlay_by x o b (λ _. true), length-resized x n))
    (λ p. ⊎_elim
    (λ low. other p (λ ge _. absurd (omega (arith, low, ge))))
    (λ ge. ⊎_elim (λ lt. at_chosen (resize x n) o b (λ _. true) p ge lt refl ∙ sym (at_chosen x o b (λ _. true) p ge lt refl)) (λ past. other p (λ _ u. absurd (omega (arith, past, u)))) (cases_lt p (o + length b)))
    (cases_lt p o))
  where
    other : (p : ℕ) → (o ≤ p → p < o + length b → true ≡ false) → get_or (overlay (resize x n) o b) p 0 ≡ get_or (overlay x o b) p 0
    other p out = at_other (resize x n) o b (λ _. true) p out
        ∙ ⊎_elim (λ h. at_resized x n p h) (λ h. past_resized x n p h ∙ sym (get_or_past x p 0 (omega (arith, h, least)))) (cases_lt p n)
        ∙ sym (at_other x o b (λ _. true) p out)

-- the bytes of the first k pages
pub taken_bytes : (ps qs : List Page) (k n : ℕ) → n ≤ page_size * k → map page_bytes qs ≡ take k (map page_bytes ps) → bytes_in qs n ≡ bytes_in ps n
unfolding byte_at
taken_bytes ps qs k n h e = same_bytes_in ps qs n at
  where
    at : (p : ℕ) → p < n → byte_at qs p ≡ byte_at ps p
    at p l = ap (λ t. get_or (get_or t (p / page_size) []) (p % page_size) 0) e ∙ ap (λ b. get_or b (p % page_size) 0) (get_or-take k (map page_bytes ps) (p / page_size) [] (omega (arith, l, h)))

-- a write of an empty run
pub overlay_none : (x : List ℕ) (o : ℕ) (b : List ℕ) → length b ≡ 0 → overlay x o b ≡ x
overlay_none x o b e = same_bytes _ _ (omega (arith, length-overlay_by x o b (λ _. true), ap (λ n. reach o n (λ _. true)) e)) (λ p. at_other x o b (λ _. true) p (λ l u. absurd (omega (arith, l, u, e))))

-- after all parts are read
pub read_all : (ps : List Page) (n o : ℕ) (x : List ℕ) → o + length x ≤ n → ((p : ℕ) → o ≤ p → p < o + length x → get_or x (p - o) 0 ≡ byte_at ps p) → x ≡ take (length x) (drop o (bytes_in ps n))
read_all ps n o x fits each = same_bytes _ _ (omega (arith, fits, length-take (length x) (drop o (bytes_in ps n)), length-drop o (bytes_in ps n), length-bytes_in ps n)) (λ k. ⊎_elim
    (λ h. ap (λ j. get_or x j 0) (back k) ∙ each (o + k) (omega arith) (omega (arith, h)) ∙ sym (at_bytes_in ps n (o + k) (omega (arith, h, fits))) ∙ sym (get_or-drop o (bytes_in ps n) k 0) ∙ sym (get_or-take (length x) (drop o (bytes_in ps n)) k 0 h))
    (λ h. get_or_past x k 0 h ∙ sym (get_or_past (take (length x) (drop o (bytes_in ps n))) k 0 (omega (arith, h, length-take (length x) (drop o (bytes_in ps n))))))
    (cases_lt k (length x)))
  where
    back : (k : ℕ) → k ≡ o + k - o
    back k = omega arith

-- a write to an empty list
pub overlay_all : (x : List ℕ) (b : List ℕ) → length x ≡ 0 → overlay x 0 b ≡ b
overlay_all x b e = same_bytes _ _ len (λ p. ⊎_elim
    (λ h. at_chosen x 0 b (λ _. true) p (omega arith) (omega (arith, h)) refl ∙ ap (λ k. get_or b k 0) (omega arith))
    (λ h. get_or_past _ p 0 (omega (arith, h, len)) ∙ sym (get_or_past b p 0 h))
    (cases_lt p (length b)))
  where
    len : length (overlay x 0 b) ≡ length b
    len = ⊎_elim
        (λ some. omega (arith, e, length-overlay_by x 0 b (λ _. true), reach_all 0 (length b) some))
        (λ none. ap length (overlay_none x 0 b (omega (arith, none))) ∙ omega (arith, e, none))
        (cases_lt 0 (length b))

-- a part of one page as a part of all bytes
pub part_is : (ps : List Page) (at n : ℕ) (y : List ℕ) → at / page_size < length ps → at % page_size + length y ≤ page_size → at + length y ≤ n
    → ((k : ℕ) → k < length y → get_or y k 0 ≡ get_or (get_or (map page_bytes ps) (at / page_size) []) (at % page_size + k) 0)
    → y ≡ take (length y) (drop at (bytes_in ps n))
part_is ps at n y there fits within part = read_all ps n at y within (λ p l h.
    part (p - at) (omega (arith, l, h))
    ∙ ap (λ k. get_or (get_or (map page_bytes ps) (at / page_size) []) k 0) (omega (arith, l, h, fits))
    ∙ sym (at_page ps (at / page_size) p (omega (arith, l, h, fits))))

-- after one more part is appended
pub append_more : (x y w v b : List ℕ) (at d k : ℕ) → y ≡ x ++ take d (drop at b) → v ≡ take k (drop (at + d) b) → w ≡ y ++ v → w ≡ x ++ take (d + k) (drop at b)
append_more x y w v b at d k ey ev ew = ew ∙ ap (λ l. l ++ v) ey ∙ append_assoc x (take d (drop at b)) v
    ∙ ap (λ l. x ++ (take d (drop at b) ++ l)) (ev ∙ ap (take k) (sym (drop-drop d at b)))
    ∙ ap (λ l. x ++ l) (sym (take-add d k (drop at b)))
