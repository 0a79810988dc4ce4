-- Changes of the groups of a table.
use Rattle.std.proofs.Common.{Result, Ok, Err, [], ◌∷◌, ◌≡◌, ⊎_elim, ℕ, zero, suc, ◌+◌, ◌-◌, ◌*◌, ◌/◌, ◌%◌, ◌<◌, ◌≤◌, true, false, All, List, ◌++◌, length, get_or, take, drop, set, map, refl, sym, subst, ◌∙◌, ap, arith, append_assoc, length-append, length-take, length-set, get_or-set_same, get_or-set_other}
use Rattle.std.specs.List.{flat_map}
use Rattle.std.proofs.lemmas.Bool.{cases_lt, cases_eq}
use Rattle.std.proofs.lemmas.List.{nil_from_length, length-map, map-append, take-append-drop, take-append-le, take_more, take-map, take_all, append-nil, get_or_append_left, get_or-append_right, get_or-map, get_or-take, get_or_past, set-append_left, set-append_right}
use Rattle.std.proofs.lemmas.List.Concat.{flat_map-append}
use Rattle.std.proofs.lemmas.List.Elements.{All-append, All-push, All-set}
use Rattle.blob_pages.specs.declared.page.Page.{Page}
use Rattle.blob_pages.specs.declared.group.Group.{Group}
use Rattle.blob_pages.specs.Paged.{page_size, page_bytes, is_owned, owned_at, splice, Keeps, Puts, Pushes, Adds}
use Rattle.blob_pages.specs.Groups.{group_size, group_pages, group_bytes, all_pages, NoneOwned, IsSound, IsPacked, IsFirst}
use Rattle.blob_pages.proofs.Paged.{table_length, table_at, owner_there, keeps_same, keeps_through, keeps_more, shared_more}
use Rattle.blob_pages.proofs.Appending.{adds_none, adds_page}

-- the pages before and after those of group k
pub record Around (gs : List Group) (k : ℕ) (g : Group) : Type 0 where
  pub before : List Page
  pub behind : List Page
  pub size : length before ≡ group_size * k
  pub all : all_pages gs ≡ before ++ (group_pages (get_or gs k g) ++ behind)
  pub put : (h : Group) → all_pages (set gs k h) ≡ before ++ (group_pages h ++ behind)
  pub last : length gs ≤ k + 1 → length behind ≡ 0

around : (gs : List Group) (k : ℕ) (g : Group) → k < length gs → ((j : ℕ) → j < k → length (group_pages (get_or gs j g)) ≡ group_size) → Around gs k g
around [] k g h full = absurd (omega arith)
around (x ∷ gs) zero g h full = record {
  before = [];
  behind = all_pages gs;
  size = omega arith;
  all = refl;
  put = λ h. refl;
  last = λ e. ap (λ l. length (all_pages l)) (nil_from_length gs (omega (arith, e)));
}
around (x ∷ gs) (suc k) g h full =
    let r = around gs k g (omega (arith, h)) (λ j l. full (suc j) (omega (arith, l))) in
    let here : length (group_pages x) ≡ group_size = full 0 (omega arith) in
    record {
      before = group_pages x ++ r.before;
      behind = r.behind;
      size = omega (arith, here, r.size, length-append (group_pages x) r.before);
      all = ap (λ l. group_pages x ++ l) r.all ∙ sym (append_assoc (group_pages x) r.before _);
      put = λ h. ap (λ l. group_pages x ++ l) (r.put h) ∙ sym (append_assoc (group_pages x) r.before _);
      last = λ e. r.last (omega (arith, e));
    }

pub around_of : (gs : List Group) → IsPacked gs → (k : ℕ) (g : Group) → k < length gs → Around gs k g
around_of gs p k g h = around gs k g h (λ j l. p.full j g (omega (arith, l, h)))

pub length_most : (gs : List Group) → All (λ g. length (group_pages g) ≤ group_size) gs → length (all_pages gs) ≤ group_size * length gs
length_most [] m = omega arith
length_most (x ∷ gs) m =
    let here : length (group_pages x) ≤ group_size = m 0 x (omega arith) in
    let rest = length_most gs (λ k d h. m (suc k) d (omega (arith, h))) in
    omega (arith, here, rest, length-append (group_pages x) (all_pages gs))

-- the pages up to the end of group k
pub length_to : (gs : List Group) (k : ℕ) (g : Group) (a : Around gs k g) → length (all_pages gs) ≡ group_size * k + length (group_pages (get_or gs k g)) + length a.behind
length_to gs k g a = omega (arith, a.size, ap length a.all, length-append a.before (group_pages (get_or gs k g) ++ a.behind), length-append (group_pages (get_or gs k g)) a.behind)

module _ {Y : Type 0} (f : Page → Y) (d : Y) (x r : List Page) (i : ℕ) where
  left_of : i < length x → get_or (map f (x ++ r)) i d ≡ get_or (map f x) i d
  left_of h = ap (λ l. get_or l i d) (map-append f x r) ∙ get_or_append_left (map f x) (map f r) d i (omega (arith, h, length-map x f))

  right_of : (n : ℕ) → length x ≡ n → n ≤ i → get_or (map f (x ++ r)) i d ≡ get_or (map f r) (i - n) d
  right_of n e h = ap (λ l. get_or l i d) (map-append f x r) ∙ get_or-append_right (map f x) (map f r) n i d (length-map x f ∙ e) h

-- the place of page i
module _ (gs : List Group) (p : IsPacked gs) (i : ℕ) (h : i < length (all_pages gs)) where
  pub group_there : i / group_size < length gs
  group_there = omega (arith, h, length_most gs p.most)

  pub page_there : (g : Group) → i % group_size < length (group_pages (get_or gs (i / group_size) g))
  page_there g = let a = around_of gs p (i / group_size) g group_there in ⊎_elim
      (λ more. omega (arith, p.full (i / group_size) g more))
      (λ last. omega (arith, h, length_to gs (i / group_size) g a, a.last last))
      (cases_lt (i / group_size + 1) (length gs))

  pub at_group : {Y : Type 0} (f : Page → Y) (d : Y) (g : Group) → get_or (map f (all_pages gs)) i d ≡ get_or (map f (group_pages (get_or gs (i / group_size) g))) (i % group_size) d
  at_group f d g = let a = around_of gs p (i / group_size) g group_there in
      ap (λ l. get_or (map f l) i d) a.all
      ∙ right_of f d a.before _ i (group_size * (i / group_size)) a.size (omega arith)
      ∙ left_of f d (group_pages (get_or gs (i / group_size) g)) a.behind _ (omega (arith, page_there g))
      ∙ ap (λ m. get_or (map f (group_pages (get_or gs (i / group_size) g))) m d) (omega arith)

pub keeps_middle : (x y z w : List Page) → Keeps y z → Keeps (x ++ (y ++ w)) (x ++ (z ++ w))
keeps_middle x y z w k = record {
  bytes = map-append page_bytes x (z ++ w) ∙ ap (λ l. map page_bytes x ++ l) (map-append page_bytes z w ∙ ap (λ l. l ++ map page_bytes w) k.bytes ∙ sym (map-append page_bytes y w)) ∙ sym (map-append page_bytes x (y ++ w));
  owned = record {
    each = λ i e. ⊎_elim
        (λ low. left_of is_owned false x (z ++ w) i low ∙ sym (left_of is_owned false x (y ++ w) i low) ∙ e)
        (λ high. let before = sym (right_of is_owned false x (y ++ w) i (length x) refl high) ∙ e in
        right_of is_owned false x (z ++ w) i (length x) refl high ∙ ⊎_elim
        (λ lt. left_of is_owned false z w (i - length x) (omega (arith, lt, same)) ∙ k.owned.each (i - length x) (sym (left_of is_owned false y w (i - length x) lt) ∙ before))
        (λ ge. right_of is_owned false z w (i - length x) (length y) same ge ∙ sym (right_of is_owned false y w (i - length x) (length y) refl ge) ∙ before)
        (cases_lt (i - length x) (length y)))
        (cases_lt i (length x));
  };
}
  where
    same : length z ≡ length y
    same = table_length y z k.bytes

-- a group with the same pages in its place
pub keeps_in : (gs : List Group) → IsPacked gs → (k : ℕ) (g h : Group) → k < length gs → g ≡ get_or gs k g → Keeps (group_pages g) (group_pages h) → Keeps (all_pages gs) (all_pages (set gs k h))
keeps_in gs p k g h there is same = let a = around_of gs p k g there in
    rw (a.all, a.put h) (keeps_middle a.before (group_pages (get_or gs k g)) (group_pages h) a.behind (subst (λ x. Keeps (group_pages x) (group_pages h)) is same))

pub packed_put : (gs : List Group) → IsPacked gs → (k : ℕ) (h : Group) → k < length gs → length (group_pages h) ≤ group_size → (k + 1 < length gs → length (group_pages h) ≡ group_size) → IsSound h → IsPacked (set gs k h)
packed_put gs p k h there small full sound = record {
  full = λ j d l. ⊎_elim
      (λ same. ap (λ x. length (group_pages x)) (ap (λ m. get_or (set gs k h) m d) same ∙ get_or-set_same gs k h d there) ∙ full (omega (arith, l, same, length-set gs k h)))
      (λ ne. ap (λ x. length (group_pages x)) (get_or-set_other gs k j h d ne) ∙ p.full j d (omega (arith, l, length-set gs k h)))
      (cases_eq j k);
  most = All-set (λ g. length (group_pages g) ≤ group_size) gs k h small p.most;
  sound = All-set IsSound gs k h sound p.sound;
}

-- a group of as many pages in the place of another
pub packed_same : (gs : List Group) → IsPacked gs → (k : ℕ) (g h : Group) → k < length gs → g ≡ get_or gs k g → length (group_pages h) ≡ length (group_pages g) → (IsSound g → IsSound h) → IsPacked (set gs k h)
packed_same gs p k g h there is same sound =
    let len : length (group_pages h) ≡ length (group_pages (get_or gs k g)) = same ∙ ap (λ x. length (group_pages x)) is in
    packed_put gs p k h there (omega (arith, len, p.most k g there)) (λ more. len ∙ p.full k g more) (sound (subst IsSound (sym is) (p.sound k g there)))

pub puts_same : (x y : List Page) (i at : ℕ) (run : List ℕ) → Puts x y i at run → length y ≡ length x
puts_same x y i at run u = ap length u.set ∙ length-set x i u.page

set_middle : (x y w : List Page) (n i j : ℕ) (q : Page) → length x ≡ n → i ≡ n + j → j < length y → set (x ++ (y ++ w)) i q ≡ x ++ (set y j q ++ w)
set_middle x y w n i j q size e h = let at : i - n ≡ j = omega (arith, e) in
    set-append_right x (y ++ w) n i q size (omega (arith, e)) ∙ ap (λ m. x ++ set (y ++ w) m q) at ∙ ap (λ l. x ++ l) (set-append_left y w j q h)

-- a run written to a page of a group
pub puts_in : (gs : List Group) (p : IsPacked gs) (i : ℕ) (g h : Group) (at : ℕ) (run : List ℕ) → i < length (all_pages gs) → g ≡ get_or gs (i / group_size) g
    → Puts (group_pages g) (group_pages h) (i % group_size) at run → Puts (all_pages gs) (all_pages (set gs (i / group_size) h)) i at run
puts_in gs p i g h at run there is u =
    let a = around_of gs p (i / group_size) g (group_there gs p i there) in
    record {
      page = u.page;
      set = a.put h ∙ ap (λ l. a.before ++ (l ++ a.behind)) (u.set ∙ ap (λ x. set (group_pages x) (i % group_size) u.page) is)
          ∙ sym (set_middle a.before (group_pages (get_or gs (i / group_size) g)) a.behind (group_size * (i / group_size)) i (i % group_size) u.page a.size (omega arith) (page_there gs p i there g))
          ∙ ap (λ l. set l i u.page) (sym a.all);
      bytes = u.bytes ∙ ap (λ x. splice (get_or (map page_bytes (group_pages x)) (i % group_size) []) at run) is ∙ ap (λ l. splice l at run) (sym (at_group gs p i there page_bytes [] g));
      owned = u.owned;
    }

-- a page of a group that only this value has now
pub owned_in : (gs : List Group) (p : IsPacked gs) (i : ℕ) (g h : Group) → i < length (all_pages gs) → g ≡ get_or gs (i / group_size) g → Keeps (group_pages g) (group_pages h) → (IsSound g → IsSound h)
    → owned_at (group_pages h) (i % group_size) ≡ true → owned_at (all_pages (set gs (i / group_size) h)) i ≡ true
owned_in gs p i g h there is same sound e =
    let at = group_there gs p i there in
    let more = keeps_in gs p (i / group_size) g h at is same in
    at_group (set gs (i / group_size) h) (packed_same gs p (i / group_size) g h at is (table_length (group_pages g) (group_pages h) same.bytes) sound) i (omega (arith, there, table_length (all_pages gs) (all_pages (set gs (i / group_size) h)) more.bytes)) is_owned false h
    ∙ ap (λ x. owned_at (group_pages x) (i % group_size)) (get_or-set_same gs (i / group_size) h h at) ∙ e

-- one more group
pub packed_push : (gs : List Group) → IsPacked gs → length (all_pages gs) ≡ group_size * length gs → (h : Group) → length (group_pages h) ≤ group_size → IsSound h → IsPacked (gs ++ h ∷ [])
packed_push gs p total h small sound = record {
  full = λ k d l. let there : k < length gs = omega (arith, l, length-append gs (h ∷ [])) in
      ap (λ x. length (group_pages x)) (get_or_append_left gs (h ∷ []) d k there)
      ∙ ⊎_elim (λ more. p.full k d more) (λ last. let a = around_of gs p k d there in omega (arith, there, last, total, length_to gs k d a, a.last last)) (cases_lt (k + 1) (length gs));
  most = All-push (λ g. length (group_pages g) ≤ group_size) gs h p.most small;
  sound = All-push IsSound gs h p.sound sound;
}

pub pages_push : (gs : List Group) (h : Group) → all_pages (gs ++ h ∷ []) ≡ all_pages gs ++ group_pages h
pages_push gs h = flat_map-append group_pages gs (h ∷ []) ∙ ap (λ l. all_pages gs ++ l) (append-nil (group_pages h))

-- the last group after a push
module _ (gs : List Group) (p : IsPacked gs) (k : ℕ) (g h : Group) (page : Page) (there : k < length gs) (last : length gs ≤ k + 1) (is : g ≡ get_or gs k g) where
  pub packed_more : {T E : Type 0} (result : Result T E) → Pushes result (group_pages g) (group_pages h) page → length (all_pages gs) < group_size * length gs → (IsSound g → IsSound h) → IsPacked (set gs k h)
  packed_more result u room sound =
      let a = around_of gs p k g there in
      let len : length (group_pages g) ≡ length (group_pages (get_or gs k g)) = ap (λ x. length (group_pages x)) is in
      packed_put gs p k h there (omega (arith, there, last, room, len, length_to gs k g a, a.last last, pushed result u)) (λ more. absurd (omega (arith, more, last))) (sound (subst IsSound (sym is) (p.sound k g there)))
    where
      pushed : {T E : Type 0} (result : Result T E) → Pushes result (group_pages g) (group_pages h) page → length (group_pages h) ≤ length (group_pages g) + 1
      pushed (Ok x) u = omega (arith, ap length u.ok.2, length-append u.ok.0 (page ∷ []), table_length (group_pages g) u.ok.0 u.ok.1.bytes)
      pushed (Err e) u = omega (arith, table_length (group_pages g) (group_pages h) u.err.bytes)

  pub adds_push : {T E : Type 0} (result : Result T E) → Pushes result (group_pages g) (group_pages h) page → length (page_bytes page) ≡ page_size → is_owned page ≡ true → Adds result (all_pages gs) (all_pages (set gs k h)) (page_bytes page)
  adds_push (Err e) u size own = adds_none (Err e) (all_pages gs) (all_pages (set gs k h)) (keeps_in gs p k g h there is u.err) (page_bytes page) tt tt
  adds_push (Ok x) u size own =
      let a = around_of gs p k g there in
      let none : a.behind ≡ [] = nil_from_length a.behind (a.last last) in
      let old : all_pages gs ≡ a.before ++ group_pages g = a.all ∙ ap (λ r. a.before ++ (group_pages (get_or gs k g) ++ r)) none ∙ ap (λ l. a.before ++ l) (append-nil (group_pages (get_or gs k g)) ∙ ap group_pages (sym is)) in
      let new : all_pages (set gs k h) ≡ (a.before ++ u.ok.0) ++ page ∷ [] =
      a.put h ∙ ap (λ r. a.before ++ (group_pages h ++ r)) none ∙ ap (λ l. a.before ++ l) (append-nil (group_pages h) ∙ u.ok.2) ∙ sym (append_assoc a.before u.ok.0 (page ∷ [])) in
      let kept : Keeps (a.before ++ (group_pages g ++ [])) (a.before ++ (u.ok.0 ++ [])) = keeps_middle a.before (group_pages g) u.ok.0 [] u.ok.1 in
      let kept' : Keeps (a.before ++ group_pages g) (a.before ++ u.ok.0) = subst (λ l. Keeps (a.before ++ l) (a.before ++ u.ok.0)) (append-nil (group_pages g)) (subst (λ l. Keeps (a.before ++ (group_pages g ++ [])) (a.before ++ l)) (append-nil u.ok.0) kept) in
      rw (old, new) (adds_page (Ok x) (a.before ++ group_pages g) (a.before ++ u.ok.0) page kept' size own)

-- one more element copied
pub copied_by : {X Y : Type 0} (f : X → Y) (t v : List X) (i : ℕ) (x q : X) → map f v ≡ take i (map f t) → i < length t → x ≡ get_or t i x → f q ≡ f x → map f (v ++ q ∷ []) ≡ take (i + 1) (map f t)
copied_by f t v i x q e h is eq = map-append f v (q ∷ []) ∙ ap (λ l. l ++ f q ∷ []) e
    ∙ sym (take_more (map f t) i (f q) (omega (arith, h, length-map t f)) ∙ ap (λ b. take i (map f t) ++ b ∷ []) (sym found))
  where
    found : f q ≡ get_or (map f t) i (f q)
    found = eq ∙ ap f is ∙ sym (get_or-map f t i x (f q) h)

-- the bytes of all pages by group
pub bytes_of_all : (gs : List Group) → map page_bytes (all_pages gs) ≡ flat_map group_bytes gs
bytes_of_all [] = refl
bytes_of_all (x ∷ gs) = map-append page_bytes (group_pages x) (all_pages gs) ∙ ap (λ l. group_bytes x ++ l) (bytes_of_all gs)

by_table : (gs : List Group) → flat_map group_bytes gs ≡ flat_map (λ b. b) (map group_bytes gs)
by_table [] = refl
by_table (x ∷ gs) = ap (λ l. group_bytes x ++ l) (by_table gs)

pub same_groups : (gs hs : List Group) → map group_bytes hs ≡ map group_bytes gs → map page_bytes (all_pages hs) ≡ map page_bytes (all_pages gs)
same_groups gs hs e = bytes_of_all hs ∙ by_table hs ∙ ap (flat_map (λ b. b)) e ∙ sym (by_table gs) ∙ sym (bytes_of_all gs)

group_length : (gs hs : List Group) (n j : ℕ) (d : Group) → map group_bytes hs ≡ take n (map group_bytes gs) → n ≤ length gs → j < length hs → length (group_pages (get_or hs j d)) ≡ length (group_pages (get_or gs j d))
group_length gs hs n j d e h l = sym (length-map (group_pages (get_or hs j d)) page_bytes)
    ∙ ap length (sym (get_or-map group_bytes hs j d [] l) ∙ ap (λ t. get_or t j []) (e ∙ take-map group_bytes n gs) ∙ get_or-map group_bytes (take n gs) j d [] (omega (arith, l, len, length-take n gs)))
    ∙ length-map (group_pages (get_or (take n gs) j d)) page_bytes
    ∙ ap (λ g. length (group_pages g)) (taken (omega (arith, l, len)))
  where
    len : length hs ≡ n
    len = omega (arith, h, sym (length-map hs group_bytes), ap length e, length-take n (map group_bytes gs), length-map gs group_bytes)

    taken : j < n → get_or (take n gs) j d ≡ get_or gs j d
    taken u = get_or-take n gs j d u

length_full : (xs : List Group) → ((j : ℕ) (d : Group) → j < length xs → length (group_pages (get_or xs j d)) ≡ group_size) → length (all_pages xs) ≡ group_size * length xs
length_full [] f = omega arith
length_full (x ∷ xs) f =
    let here : length (group_pages x) ≡ group_size = f 0 x (omega arith) in
    let rest = length_full xs (λ k d l. f (suc k) d (omega (arith, l))) in
    omega (arith, here, rest, length-append (group_pages x) (all_pages xs))

-- the first n groups copied
module _ (gs hs : List Group) (n count : ℕ) (p : IsPacked gs) (e : map group_bytes hs ≡ take n (map group_bytes gs)) (h : n ≤ length gs) where
  len : length hs ≡ n
  len = omega (arith, h, sym (length-map hs group_bytes), ap length e, length-take n (map group_bytes gs), length-map gs group_bytes)

  pub packed_copy : All IsSound hs → IsPacked hs
  packed_copy sound = record {
    full = λ j d l. group_length gs hs n j d e h (omega (arith, l)) ∙ p.full j d (omega (arith, l, len, h));
    most = λ j d l. omega (arith, group_length gs hs n j d e h l, p.most j d (omega (arith, l, len, h)));
    sound = sound;
  }

  pub first_copy : count ≤ group_size * n → count ≤ length (all_pages gs) → IsFirst (all_pages hs) (all_pages gs) count
  first_copy enough there = record {
    bytes = same ∙ sym (ap (λ m. take m (map page_bytes (all_pages gs))) long ∙ ap (take (length (flat_map group_bytes (take n gs)))) split ∙ take-append-le _ (flat_map group_bytes (take n gs)) (flat_map group_bytes (drop n gs)) (omega arith) ∙ take_all _ (flat_map group_bytes (take n gs)) (omega arith));
    there = most_of;
  }
    where
      same : map page_bytes (all_pages hs) ≡ flat_map group_bytes (take n gs)
      same = bytes_of_all hs ∙ by_table hs ∙ ap (flat_map (λ b. b)) (e ∙ take-map group_bytes n gs) ∙ sym (by_table (take n gs))

      long : length (all_pages hs) ≡ length (flat_map group_bytes (take n gs))
      long = sym (length-map (all_pages hs) page_bytes) ∙ ap length same

      split : map page_bytes (all_pages gs) ≡ flat_map group_bytes (take n gs) ++ flat_map group_bytes (drop n gs)
      split = bytes_of_all gs ∙ ap (flat_map group_bytes) (sym (take-append-drop n gs)) ∙ flat_map-append group_bytes (take n gs) (drop n gs)

      most_of : count ≤ length (all_pages hs)
      most_of = ⊎_elim
          (λ less. omega (arith, enough, length_full hs (λ j d l. group_length gs hs n j d e h l ∙ p.full j d (omega (arith, l, len, less))), len))
          (λ all. omega (arith, there, sym (length-map (all_pages hs) page_bytes), ap length (same_groups gs hs (e ∙ take_all n (map group_bytes gs) (omega (arith, all, length-map gs group_bytes)))), length-map (all_pages gs) page_bytes))
          (cases_lt n (length gs))

-- the same bytes, so the same lengths
pub group_count : (gs hs : List Group) → map group_bytes hs ≡ map group_bytes gs → length hs ≡ length gs
group_count gs hs e = sym (length-map hs group_bytes) ∙ ap length e ∙ length-map gs group_bytes

pub bytes_length : (g h : Group) → group_bytes h ≡ group_bytes g → length (group_pages h) ≡ length (group_pages g)
bytes_length g h e = table_length (group_pages g) (group_pages h) e

-- groups that are shared have shared pages
pub shared_all : (gs : List Group) → All (λ g. NoneOwned (group_pages g)) gs → NoneOwned (all_pages gs)
shared_all [] s = λ k d l. absurd (omega (arith, l))
shared_all (x ∷ gs) s = All-append (λ page. is_owned page ≡ false) (group_pages x) (all_pages gs) (s 0 x (omega arith)) (shared_all gs (λ k d l. s (suc k) d (omega (arith, l))))

-- one more page made shared
pub closed_more : (u : List Page) (i : ℕ) (q : Page) → i < length u → ((j : ℕ) (d : Page) → j < i → is_owned (get_or u j d) ≡ false) → is_owned q ≡ false → (j : ℕ) (d : Page) → j < i + 1 → is_owned (get_or (set u i q) j d) ≡ false
closed_more u i q h before e j d l = ⊎_elim
    (λ same. ap is_owned (ap (λ m. get_or (set u i q) m d) same ∙ get_or-set_same u i q d h) ∙ e)
    (λ ne. ap is_owned (get_or-set_other u i j q d ne) ∙ before j d (omega (arith, l, ne)))
    (cases_eq j i)

-- no page of these is owned
pub none_owned : (ps : List Page) (i : ℕ) → NoneOwned ps → owned_at ps i ≡ false
none_owned [] i s = get_or_past (map is_owned []) i false (omega arith)
none_owned (x ∷ ps) i s = ⊎_elim
    (λ h. get_or-map is_owned (x ∷ ps) i x false h ∙ s i x h)
    (λ h. get_or_past (map is_owned (x ∷ ps)) i false (omega (arith, h, length-map (x ∷ ps) is_owned)))
    (cases_lt i (length (x ∷ ps)))

-- a page of an open group, with a run written to it
pub puts_page : (old v : List Page) (i : ℕ) (page q : Page) (at : ℕ) (run : List ℕ) → old ≡ v → owned_at old i ≡ true → page ≡ get_or v i page → page_bytes q ≡ splice (page_bytes page) at run → is_owned q ≡ true → Puts old (set v i q) i at run
puts_page old v i page q at run same own is bytes now = rw same (record {
  page = q;
  set = refl;
  bytes = bytes ∙ ap (λ b. splice b at run) (sym (table_at v i page (owner_there v i (ap (λ l. owned_at l i) (sym same) ∙ own)) is));
  owned = now;
})

-- the pages of a group after it was opened
module _ (old new v : List Page) (i : ℕ) (h : i < length old) (k : Keeps old new) (same : new ≡ v) where
  pub opened_there : i < length v
  opened_there = omega (arith, h, table_length old new k.bytes, ap length same)

  pub opened_keeps : (page q : Page) → page ≡ get_or v i page → page_bytes q ≡ page_bytes page → (is_owned page ≡ true → is_owned q ≡ true) → Keeps old (set v i q)
  opened_keeps page q is bytes own = keeps_through old v (set v i q) (subst (λ l. Keeps old l) same k) (keeps_more v v i page q (keeps_same v) opened_there is bytes own)

-- whether only this value has a page
pub owner_of : (gs : List Group) → IsPacked gs → (i : ℕ) (g : Group) → i / group_size < length gs → g ≡ get_or gs (i / group_size) g → owned_at (group_pages g) (i % group_size) ≡ owned_at (all_pages gs) i
owner_of gs p i g there is = ap (λ x. owned_at (group_pages x) (i % group_size)) is ∙ ⊎_elim
    (λ h. sym (at_group gs p i h is_owned false g))
    (λ past. get_or_past (map is_owned (group_pages (get_or gs (i / group_size) g))) (i % group_size) false (omega (arith, past, length-map (group_pages (get_or gs (i / group_size) g)) is_owned, length_to gs (i / group_size) g (around_of gs p (i / group_size) g there)))
    ∙ sym (get_or_past (map is_owned (all_pages gs)) i false (omega (arith, past, length-map (all_pages gs) is_owned))))
    (cases_lt i (length (all_pages gs)))

pub owner_past : (gs : List Group) → IsPacked gs → (i : ℕ) → length gs ≤ i / group_size → owned_at (all_pages gs) i ≡ false
owner_past gs p i h = get_or_past (map is_owned (all_pages gs)) i false (omega (arith, h, length_most gs p.most, length-map (all_pages gs) is_owned))

-- the group of a page that only this value has
module _ (gs : List Group) (p : IsPacked gs) (i : ℕ) (own : owned_at (all_pages gs) i ≡ true) where
  pub own_there : i < length (all_pages gs)
  own_there = owner_there (all_pages gs) i own

  pub own_group : i / group_size < length gs
  own_group = group_there gs p i own_there

  module _ (g : Group) (is : g ≡ get_or gs (i / group_size) g) where
    pub own_sound : IsSound g
    own_sound = subst IsSound (sym is) (p.sound (i / group_size) g own_group)

    pub own_owned : owned_at (group_pages g) (i % group_size) ≡ true
    own_owned = ap (λ x. owned_at (group_pages x) (i % group_size)) is ∙ sym (at_group gs p i own_there is_owned false g) ∙ own

    pub own_within : (n : ℕ) → n ≤ length (get_or (map page_bytes (all_pages gs)) i []) → n ≤ length (get_or (map page_bytes (group_pages g)) (i % group_size) [])
    own_within n h = subst (λ b. n ≤ length b) (at_group gs p i own_there page_bytes [] g ∙ ap (λ x. get_or (map page_bytes (group_pages x)) (i % group_size) []) (sym is)) h

    pub own_packed : (h : Group) (at : ℕ) (run : List ℕ) → Puts (group_pages g) (group_pages h) (i % group_size) at run → IsSound h → IsPacked (set gs (i / group_size) h)
    own_packed h at run u sound = packed_same gs p (i / group_size) g h own_group is (puts_same (group_pages g) (group_pages h) (i % group_size) at run u) (λ _. sound)

-- group k, which is shared again
module _ (gs us : List Group) (e : map group_bytes us ≡ map group_bytes gs) (p : IsPacked us) (k : ℕ) (g h : Group) (there : k < length gs) (is : g ≡ get_or us k g) (same : group_bytes h ≡ group_bytes g) (sound : IsSound h) where
  pub shared_packed : IsPacked (set us k h)
  shared_packed = packed_same us p k g h (omega (arith, there, group_count gs us e)) is (bytes_length g h same) (λ _. sound)

  pub shared_table : map group_bytes (set us k h) ≡ map group_bytes gs
  shared_table = shared_more group_bytes gs us k g h e (omega (arith, there, group_count gs us e)) is same

  pub shared_bytes : map page_bytes (all_pages (set us k h)) ≡ map page_bytes (all_pages gs)
  shared_bytes = same_groups gs (set us k h) shared_table

-- no more groups are needed than there are
pub needed_there : (gs : List Group) → IsPacked gs → (n count : ℕ) → group_size * n < count + group_size → count ≤ length (all_pages gs) → n ≤ length gs
needed_there gs p n count high there = omega (arith, high, there, length_most gs p.most)
