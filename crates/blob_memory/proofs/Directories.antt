-- A store's directory and bytes after a change of its items.
use Rattle.std.proofs.Common.{◌≡◌, ℕ, ◌≤◌, ◌<◌, List, [], ◌++◌, Bool, true, false, cond, ◌&&◌, ◌==◌, nat_eq, nat_lt, not, Option, Some, None, refl, sym, ap, ◌∙◌}
use Rattle.std.proofs.lemmas.Bool.{le-ltb, lt-ltb, eq-eqb}
use Rattle.std.proofs.lemmas.Option.{none-some}
use Rattle.std.specs.Cmp.Lexicographic.{bytes_decides}
use Rattle.std.specs.Str.{bytes_eq}
use Rattle.blob_model.specs.Directory as directory
use Rattle.blob_header.specs.Header.{region, data_start}
use Rattle.blob_model.specs.Directory.{File, Directory, with_file}
use Rattle.blob_header.specs.declared.layout.Layout.{Layout}
use Rattle.blob_header.specs.declared.version.BlobVersion.{BlobVersion}
use Rattle.blob_model.specs.Files.{raw_again}
use Rattle.std.specs.Prelude.{unwrap_or}
use Rattle.blob_memory.specs.declared.contents.Contents.{Contents}
use Rattle.blob_memory.specs.Numbers.{item_number}
use Rattle.blob_memory.specs.declared.item.Item.{Item}
use Rattle.blob_memory.specs.Partitions.{with_item, without_partition}
use Rattle.blob_model.specs.Directory.{place_in}
use Rattle.blob_model.specs.Durable.{Durable, with_at, durable_without}
use Rattle.blob_model.specs.Places.{Place}
use Rattle.blob_memory.specs.declared.item.Item.TheVariants.{Raw, Held}
use Rattle.blob_memory.specs.declared.item.Held as held
use Rattle.blob_memory.specs.Contents.{file_of, file_when, vec_in, bytes_of, IsUnder}

-- directories are equal if their parts are, name by name
pub same_directory : (d e : Directory) → ((q : List ℕ) → d.has_partition q ≡ e.has_partition q) → ((q m : List ℕ) → d.file q m ≡ e.file q m) → d.next ≡ e.next → d ≡ e
same_directory d e there files next = λ i. record { has_partition = λ q. there q i; file = λ q m. files q m i; next = next i }

module _ (first : ℕ) (f g : List ℕ → List ℕ → Option Item) where
  -- one item set
  pub file_after : (p n : List ℕ) (x : Option Item) → ((q m : List ℕ) → g q m ≡ with_item f p n x q m)
      → (q m : List ℕ) → file_of first (g q m) ≡ with_file (λ r s. file_of first (f r s)) p n (file_of first x) q m
  file_after p n x h q m = ap (file_of first) (h q m) ∙ push (bytes_eq p q) (bytes_eq n m) where
    push : (b d : Bool) → file_of first (cond b (cond d x (f q m)) (f q m)) ≡ cond b (cond d (file_of first x) (file_of first (f q m))) (file_of first (f q m))
    push true true = refl
    push true false = refl
    push false d = refl

  -- a partition removed
  pub file_without : (p : List ℕ) → ((q m : List ℕ) → g q m ≡ without_partition f p q m)
      → (q m : List ℕ) → file_of first (g q m) ≡ cond (bytes_eq p q) None (file_of first (f q m))
  file_without p h q m = ap (file_of first) (h q m) ∙ push (bytes_eq p q) where
    push : (b : Bool) → file_of first (cond b None (f q m)) ≡ cond b None (file_of first (f q m))
    push true = refl
    push false = refl

-- the durable bytes of items
abbrev pub durable_in : ℕ → (List ℕ → List ℕ → Option Item) → Durable
durable_in first f o = bytes_of (vec_in first (f o.partition o.name) o.number o.start)

module _ (first : ℕ) (f g : List ℕ → List ℕ → Option Item) where
  -- one item set that isn't a current incarnation
  pub durable_placed : (p n : List ℕ) (x : Option Item) → ((q m : List ℕ) → g q m ≡ with_item f p n x q m) → ((k start : ℕ) → vec_in first x k start ≡ None)
      → durable_in first g ≡ durable_without (durable_in first f) p (Some n)
  durable_placed p n x h none = λ i o. (ap (λ y. bytes_of (vec_in first y o.number o.start)) (h o.partition o.name) ∙ push o (bytes_eq p o.partition) (bytes_eq n o.name)) i where
    push : (o : Place) (b d : Bool) → bytes_of (vec_in first (cond b (cond d x (f o.partition o.name)) (f o.partition o.name)) o.number o.start) ≡ cond (b && d) None (durable_in first f o)
    push o true true = ap bytes_of (none o.number o.start)
    push o true false = refl
    push o false d = refl

  -- a partition removed
  pub durable_gone : (p : List ℕ) → ((q m : List ℕ) → g q m ≡ without_partition f p q m) → durable_in first g ≡ durable_without (durable_in first f) p None
  durable_gone p h = λ i o. (ap (λ y. bytes_of (vec_in first y o.number o.start)) (h o.partition o.name) ∙ push o (bytes_eq p o.partition)) i where
    push : (o : Place) (b : Bool) → bytes_of (vec_in first (cond b None (f o.partition o.name)) o.number o.start) ≡ cond b None (durable_in first f o)
    push o true = refl
    push o false = refl

  pub durable_same : ((q m : List ℕ) → g q m ≡ f q m) → durable_in first g ≡ durable_in first f
  durable_same h = λ i o. bytes_of (vec_in first (h o.partition o.name i) o.number o.start)

-- an item that isn't a current incarnation has no current bytes
pub not_current : (first : ℕ) (x : Option Item) (p n : List ℕ) → place_in p n (file_of first x) ≡ None → (k start : ℕ) → vec_in first x k start ≡ None
not_current first None p n e k start = refl
not_current first (Some (Raw bytes)) p n e k start = refl
not_current first (Some (Held h)) p n e k start = by_end (nat_lt h.number first) e where
  by_end : (b : Bool) → place_in p n (Some (file_when b h)) ≡ None → cond (not b && ((h.number == k) && (data_start h.layout == start))) (Some h.bytes) None ≡ None
  by_end true z = refl
  by_end false z = absurd (none-some _ (sym z))

module _ (first : ℕ) (f g : List ℕ → List ℕ → Option Item) where
  -- an incarnation begins for a name without a current one
  pub durable_begun : (p n : List ℕ) (h : held.Held) → first ≤ h.number → place_in p n (file_of first (f p n)) ≡ None → ((q m : List ℕ) → g q m ≡ with_item f p n (Some (Held h)) q m)
      → durable_in first g ≡ with_at (durable_in first f) (record { partition = p; name = n; number = h.number; start = data_start h.layout }) (Some h.bytes.items)
  durable_begun p n h begun none new = λ i o. (ap (λ y. bytes_of (vec_in first y o.number o.start)) (new o.partition o.name)
      ∙ push o (bytes_eq p o.partition) (bytes_eq n o.name) (λ y z. not_current first (f o.partition o.name) p n (ap (λ q. place_in p n (file_of first (f q o.name))) (sym ((bytes_decides p o.partition).0 y)) ∙ ap (λ m. place_in p n (file_of first (f p m))) (sym ((bytes_decides n o.name).0 z)) ∙ none) o.number o.start)) i
    where
      mine : (o : Place) (b : Bool) → bytes_of (cond b (Some h.bytes) None) ≡ cond b (Some h.bytes.items) None
      mine o true = refl
      mine o false = refl

      push : (o : Place) (b d : Bool) → (b ≡ true → d ≡ true → vec_in first (f o.partition o.name) o.number o.start ≡ None)
          → bytes_of (vec_in first (cond b (cond d (Some (Held h)) (f o.partition o.name)) (f o.partition o.name)) o.number o.start)
          ≡ cond (b && (d && (nat_eq h.number o.number && nat_eq (data_start h.layout) o.start))) (Some h.bytes.items) (durable_in first f o)
      push o true true gone = ap (λ e. bytes_of (cond (not e && ((h.number == o.number) && (data_start h.layout == o.start))) (Some h.bytes) None)) (le-ltb h.number first begun)
          ∙ mine o (nat_eq h.number o.number && nat_eq (data_start h.layout) o.start)
          ∙ ap (λ r. cond (nat_eq h.number o.number && nat_eq (data_start h.layout) o.start) (Some h.bytes.items) (bytes_of r)) (sym (gone refl refl))
      push o true false gone = refl
      push o false d gone = refl

-- one item set twice
pub with_twice : (f g h : List ℕ → List ℕ → Option Item) (p n : List ℕ) (x y : Option Item) → ((q m : List ℕ) → g q m ≡ with_item f p n x q m) → ((q m : List ℕ) → h q m ≡ with_item g p n y q m)
    → (q m : List ℕ) → h q m ≡ with_item f p n y q m
with_twice f g h p n x y first second q m = second q m ∙ ap (λ r. cond (bytes_eq p q) (cond (bytes_eq n m) y r) r) (first q m) ∙ again (bytes_eq p q) (bytes_eq n m) where
  again : (b d : Bool) → cond b (cond d y (cond b (cond d x (f q m)) (f q m))) (cond b (cond d x (f q m)) (f q m)) ≡ cond b (cond d y (f q m)) (f q m)
  again true true = refl
  again true false = refl
  again false d = refl

-- a file with a header of which no incarnation is current
pub under_none : (s : Contents) (layout : Layout) (version : BlobVersion) (x : Option Item) (p n : List ℕ) → IsUnder s layout version x → place_in p n (file_of s.first x) ≡ None
under_none s layout version None p n h = absurd h
under_none s layout version (Some (Raw bytes)) p n h = refl
under_none s layout version (Some (Held i)) p n h = rw h.0 refl

-- the end of all incarnations
pub file_again : (first next : ℕ) (f : List ℕ → List ℕ → Option Item) → ((p n : List ℕ) (k : ℕ) → item_number (f p n) ≡ Some k → k < next)
    → (p n : List ℕ) → file_of next (f p n) ≡ raw_again (λ o. unwrap_or (durable_in first f o) []) p n (file_of first (f p n))
file_again first next f below p n = at (f p n) (below p n) refl where
  at : (x : Option Item) → ((k : ℕ) → item_number x ≡ Some k → k < next) → f p n ≡ x → file_of next x ≡ raw_again (λ o. unwrap_or (durable_in first f o) []) p n (file_of first x)
  at None b e = refl
  at (Some (Raw bytes)) b e = refl
  at (Some (Held h)) b e = ap (λ t. Some (file_when t h)) (lt-ltb h.number next (b h.number refl)) ∙ by_end (nat_lt h.number first) refl where
    by_end : (t : Bool) → nat_lt h.number first ≡ t → Some (file_when true h) ≡ raw_again (λ o. unwrap_or (durable_in first f o) []) p n (Some (file_when t h))
    by_end true z = refl
    by_end false z = sym (ap (λ v. Some (directory.Raw (region h.layout h.version.0 ++ unwrap_or (bytes_of v) []))) is) where
      is : vec_in first (f p n) h.number (data_start h.layout) ≡ Some h.bytes
      is = ap (λ x. vec_in first x h.number (data_start h.layout)) e ∙ (λ i. cond (not (z i) && (eq-eqb h.number h.number refl i && eq-eqb (data_start h.layout) (data_start h.layout) refl i)) (Some h.bytes) None)

pub none_again : (next : ℕ) (f : List ℕ → List ℕ → Option Item) → ((p n : List ℕ) (k : ℕ) → item_number (f p n) ≡ Some k → k < next) → ◌≡◌ {A = Durable} (durable_in next f) (λ _. None)
none_again next f below = λ i o. at o (f o.partition o.name) (below o.partition o.name) i where
  at : (o : Place) (x : Option Item) → ((k : ℕ) → item_number x ≡ Some k → k < next) → bytes_of (vec_in next x o.number o.start) ≡ None
  at o None b = refl
  at o (Some (Raw bytes)) b = refl
  at o (Some (Held h)) b = rw (lt-ltb h.number next (b h.number refl)) refl
