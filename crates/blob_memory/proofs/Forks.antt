-- A copy of the files of a store.
use Rattle.std.proofs.Common.{◌≡◌, ℕ, List, [], ◌∷◌, ◌++◌, Bool, true, false, cond, not, ◌&&◌, ◌==◌, nat_lt, Option, Some, None, refl, ap, ◌∙◌, Vec, Global}
use Rattle.std.specs.Prelude.{is_some, vec_len}
use Rattle.std.specs.BTreeMap.{BTreeMap, IsClone, is_at}
use Rattle.std.specs.List.{AllZip, each_same}
use Rattle.std.specs.Option.{MatchOption, IsSomeAnd}
use Rattle.std.specs.Ordering.{nat_cmp, is_eq}
use Rattle.std.specs.Cmp.Lexicographic.{slice_cmp}
use Rattle.std.specs.String.{string_bytes}
use Rattle.std.specs.declared.string.String.{String}
use Rattle.std.proofs.lemmas.Map.Entries.{lookup_clone}
use Rattle.blob_header.specs.Header.{region, data_start}
use Rattle.blob_model.specs.Directory as directory
use Rattle.blob_memory.specs.declared.item.Item.{Item}
use Rattle.blob_memory.specs.declared.item.Item.TheVariants.{Raw, Held}
use Rattle.blob_memory.specs.Contents.{file_of, file_when, vec_in, bytes_of}
use Rattle.blob_memory.specs.Forks.{IsCopy, IsCopyIn}
use Rattle.blob_memory.specs.Listing.{Names, raw_bytes, listing_in, listing_all}
use Rattle.blob_memory.specs.Numbers.{item_number}
use Rattle.blob_names.specs.Names.{value_at, below}

-- ---- one item

pub raw_copied : (a b : Item) → IsCopy a b → raw_bytes b ≡ raw_bytes a
raw_copied (Raw x) (Raw y) e = e
raw_copied (Raw x) (Held k) e = absurd e
raw_copied (Held h) (Raw y) e = absurd e
raw_copied (Held h) (Held k) e = λ i. region (e.1 i) (e.2 i).0 ++ e.3 i

pub number_copied : (a b : Option Item) → IsCopyIn a b → item_number b ≡ item_number a
number_copied None b e = ap item_number e
number_copied (Some a) None e = absurd e
number_copied (Some (Raw x)) (Some (Raw y)) e = refl
number_copied (Some (Raw x)) (Some (Held k)) e = absurd e
number_copied (Some (Held h)) (Some (Raw y)) e = absurd e
number_copied (Some (Held h)) (Some (Held k)) e = ap Some e.0

pub file_copied : (first : ℕ) (a b : Option Item) → IsCopyIn a b → file_of first b ≡ file_of first a
file_copied first None b e = ap (file_of first) e
file_copied first (Some a) None e = absurd e
file_copied first (Some (Raw x)) (Some (Raw y)) e = λ i. Some (directory.Raw (e i))
file_copied first (Some (Raw x)) (Some (Held k)) e = absurd e
file_copied first (Some (Held h)) (Some (Raw y)) e = absurd e
file_copied first (Some (Held h)) (Some (Held k)) e = ap (λ n. Some (file_when (nat_lt n first) k)) e.0 ∙ by_end (nat_lt h.number first) where
  by_end : (b : Bool) → Some (file_when b k) ≡ Some (file_when b h)
  by_end true = λ i. Some (directory.Raw (region (e.1 i) (e.2 i).0 ++ e.3 i))
  by_end false = λ i. Some (directory.Incarnation (e.0 i) (e.1 i) (e.2 i).0)

pub bytes_copied : (first : ℕ) (a b : Option Item) (number start : ℕ) → IsCopyIn a b → bytes_of (vec_in first b number start) ≡ bytes_of (vec_in first a number start)
bytes_copied first None b number start e = ap (λ x. bytes_of (vec_in first x number start)) e
bytes_copied first (Some a) None number start e = absurd e
bytes_copied first (Some (Raw x)) (Some (Raw y)) number start e = refl
bytes_copied first (Some (Raw x)) (Some (Held k)) number start e = absurd e
bytes_copied first (Some (Held h)) (Some (Raw y)) number start e = absurd e
bytes_copied first (Some (Held h)) (Some (Held k)) number start e =
    (λ i. bytes_of (cond (not (nat_lt (e.0 i) first) && ((e.0 i == number) && (data_start (e.1 i) == start))) (Some k.bytes) None))
    ∙ when (not (nat_lt h.number first) && ((h.number == number) && (data_start h.layout == start)))
  where
    when : (b : Bool) → bytes_of (cond b (Some k.bytes) None) ≡ bytes_of (cond b (Some h.bytes) None)
    when true = ap Some e.3
    when false = refl

-- ---- all items

-- a clone of a name
abbrev CopiesName : Vec ℕ Global → Vec ℕ Global → Type 0
CopiesName v w = AllZip (λ x y. y ≡ x) v.items w.items × (vec_len w ≡ vec_len v)

-- a clone of a partition
abbrev CopiesNames : Names → Names → Type 0
CopiesNames m n = IsClone CopiesName IsCopy m n

-- a clone of all partitions
abbrev pub CopiesAll : BTreeMap (String Global) Names → BTreeMap (String Global) Names → Type 0
CopiesAll m n = IsClone (λ s t. string_bytes t ≡ string_bytes s) CopiesNames m n

names_found : (m n : Names) → CopiesNames m n → (bs : List ℕ) → IsCopyIn (value_at (λ k. k.items) m bs) (value_at (λ k. k.items) n bs)
names_found m n h bs = lookup_clone CopiesName IsCopy (is_at (λ k. slice_cmp nat_cmp bs k.items)) (λ x y c. ap (λ is. is_eq (slice_cmp nat_cmp bs is)) (each_same x.items y.items c.0)) m.entries n.entries h

module _ (m n : BTreeMap (String Global) Names) (h : CopiesAll m n) where
  partition_found : (p : List ℕ) → MatchOption (value_at string_bytes m p) (value_at string_bytes n p ≡ None) (λ names. IsSomeAnd (value_at string_bytes n p) (CopiesNames names))
  partition_found p = lookup_clone (λ s t. string_bytes t ≡ string_bytes s) CopiesNames (is_at (λ k. slice_cmp nat_cmp p (string_bytes k))) (λ x y c. ap (λ bs. is_eq (slice_cmp nat_cmp p bs)) c) m.entries n.entries h

  pub item_copied : (p k : List ℕ) → IsCopyIn (below (value_at (λ j. j.items)) (value_at string_bytes m p) k) (below (value_at (λ j. j.items)) (value_at string_bytes n p) k)
  item_copied p k = at (value_at string_bytes m p) (value_at string_bytes n p) (partition_found p) where
    at : (r s : Option Names) → MatchOption r (s ≡ None) (λ names. IsSomeAnd s (CopiesNames names)) → IsCopyIn (below (value_at (λ j. j.items)) r k) (below (value_at (λ j. j.items)) s k)
    at None s e = ap (λ o. below (value_at (λ j. j.items)) o k) e
    at (Some x) None e = absurd e
    at (Some x) (Some y) e = names_found x y e k

  pub there_copied : (p : List ℕ) → is_some (value_at string_bytes n p) ≡ is_some (value_at string_bytes m p)
  there_copied p = at (value_at string_bytes m p) (value_at string_bytes n p) (partition_found p) where
    at : (r s : Option Names) → MatchOption r (s ≡ None) (λ names. IsSomeAnd s (CopiesNames names)) → is_some s ≡ is_some r
    at None s e = ap is_some e
    at (Some x) None e = absurd e
    at (Some x) (Some y) e = refl

names_listed : (p q : List ℕ) → q ≡ p → (es fs : List (Vec ℕ Global × Item)) → AllZip (λ a b. CopiesName a.0 b.0 × IsCopy a.1 b.1) es fs → listing_in q fs ≡ listing_in p es
names_listed p q same [] [] h = refl
names_listed p q same [] (f ∷ fs) h = absurd h
names_listed p q same (e ∷ es) [] h = absurd h
names_listed p q same (e ∷ es) (f ∷ fs) h = λ i.
    record { partition = same i; name = each_same e.0.items f.0.items h.0.0.0 i; bytes = raw_copied e.1 f.1 h.0.1 i } ∷ names_listed p q same es fs h.1 i

pub listing_copied : (es fs : List (String Global × Names)) → AllZip (λ a b. (string_bytes b.0 ≡ string_bytes a.0) × CopiesNames a.1 b.1) es fs → listing_all fs ≡ listing_all es
listing_copied [] [] h = refl
listing_copied [] (f ∷ fs) h = absurd h
listing_copied (e ∷ es) [] h = absurd h
listing_copied (e ∷ es) (f ∷ fs) h = λ i. names_listed (string_bytes e.0) (string_bytes f.0) h.0.0 e.1.entries f.1.entries h.0.1 i ++ listing_copied es fs h.1 i
