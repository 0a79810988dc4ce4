-- The bytes of a list of pages.
use Rattle.std.specs.Prelude.{Result, OnOk, OnErr, ◌≡◌, ◌⊎◌, ℕ, ◌+◌, ◌-◌, ◌*◌, ◌/◌, ◌%◌, ◌<◌, ◌≤◌, max, Bool, true, false, List, [], ◌∷◌, ◌++◌, length, map, slice_index, slice_index_or, slice_set}
use Rattle.std.specs.List.{range_with_len}
use Rattle.blob_model.specs.Bytes.{overlay}
pub use Rattle.blob_pages.specs.Sizes.{page_size, blank_bytes, splice}
use Rattle.blob_pages.specs.declared.page.Page.{Page}
use Rattle.blob_pages.specs.declared.page.Page.TheVariants.{Owned, Shared, Blank}

-- the bytes of a page
abbrev pub page_bytes : Page → List ℕ
page_bytes (Owned v) = v.items
page_bytes (Shared r) = r.value.items
page_bytes (Blank b) = blank_bytes

-- whether only this value has a page
abbrev pub is_owned : Page → Bool
is_owned (Owned v) = true
is_owned (Shared r) = false
is_owned (Blank b) = true

-- whether no byte of a page is written yet
abbrev pub is_blank : Page → Bool
is_blank (Owned v) = false
is_blank (Shared r) = false
is_blank (Blank b) = true

-- the byte at an offset
unfoldable pub byte_at : List Page → ℕ → ℕ
byte_at ps p = slice_index (slice_index_or (map page_bytes ps) (p / page_size) []) (p % page_size)

-- the first n bytes
unfoldable pub bytes_in : List Page → ℕ → List ℕ
bytes_in ps n = map (byte_at ps) (range_with_len 0 n)

-- whether page i exists and only this value has it
abbrev pub owned_at : List Page → ℕ → Bool
owned_at ps i = slice_index_or (map is_owned ps) i false

-- each page has the full size
pub record AreFull (ps : List Page) : Type 0 where
  pub each : (i : ℕ) → i < length ps → length (slice_index_or (map page_bytes ps) i []) ≡ page_size

-- only this value has the pages of a range
pub record AreOwned (ps : List Page) (from to : ℕ) : Type 0 where
  pub each : (i : ℕ) → from ≤ i → i < to → owned_at ps i ≡ true

-- only this value has the pages of the bytes of a range
abbrev pub OwnsBytes : List Page → ℕ → ℕ → Type 0
OwnsBytes ps from to = (p : ℕ) → from ≤ p → p < to → owned_at ps (p / page_size) ≡ true

-- each page that only this value has stays so
pub record KeepsOwned (old new : List Page) : Type 0 where
  pub each : (i : ℕ) → owned_at old i ≡ true → owned_at new i ≡ true

-- the bytes of each page are unchanged
pub record Keeps (old new : List Page) : Type 0 where
  pub bytes : map page_bytes new ≡ map page_bytes old
  pub owned : KeepsOwned old new

-- pages may be added; the bytes of the old pages are unchanged
pub record Extends (old new : List Page) : Type 0 where
  pub more : length old ≤ length new
  pub bytes : (p : ℕ) → p < page_size * length old → byte_at new p ≡ byte_at old p
  pub full : AreFull old → AreFull new
  pub owned : KeepsOwned old new

-- the result of an append of a page with these bytes that only this value has
pub record Adds {T E : Type 0} (result : Result T E) (old new : List Page) (run : List ℕ) : Type 0 where
  pub extends : Extends old new
  pub one : OnOk result (length new ≡ length old + 1)
  pub bytes : OnOk result (slice_index_or (map page_bytes new) (length old) [] ≡ run)
  pub owned : AreOwned new (length old) (length new)

-- a run written to existing pages
pub record Lays (old new : List Page) (offset : ℕ) (run : List ℕ) : Type 0 where
  pub same : length new ≡ length old
  pub within : (p : ℕ) → offset ≤ p → p < offset + length run → byte_at new p ≡ slice_index run (p - offset)
  pub outside : (p : ℕ) → (p < offset) ⊎ (offset + length run ≤ p) → byte_at new p ≡ byte_at old p
  pub full : AreFull new
  pub owned : KeepsOwned old new

-- the pages have the bytes of a run at an offset from index `start` up to `end`
pub record HavePart (ps : List Page) (offset : ℕ) (run : List ℕ) (start end : ℕ) : Type 0 where
  pub order : start ≤ end
  pub within : end ≤ length run
  pub there : offset + end ≤ page_size * length ps
  pub bytes : (p : ℕ) → offset + start ≤ p → p < offset + end → byte_at ps p ≡ slice_index run (p - offset)

-- the result of a change: on Ok these bytes with the new length, on Err the old bytes
pub record Changes {T E : Type 0} (result : Result T E) (old new : List Page) (had has : ℕ) (now : List ℕ) : Type 0 where
  pub ok : OnOk result (bytes_in new has ≡ now)
  pub there : OnOk result (has ≤ page_size * length new)
  pub err : OnErr result (bytes_in new had ≡ bytes_in old had)
  pub more : length old ≤ length new
  pub full : AreFull new
  pub owned : KeepsOwned old new

-- these bytes up to the new length, on the same pages
pub record Blanks (old new : List Page) (had has : ℕ) (now : List ℕ) : Type 0 where
  pub bytes : bytes_in new has ≡ now
  pub same : length new ≡ length old
  pub full : AreFull new
  pub owned : KeepsOwned old new

-- the result of a write of a run: the length grows to its end
abbrev pub WritesRun : {T E : Type 0} → Result T E → List Page → List Page → ℕ → ℕ → List ℕ → Type 0
WritesRun result old new had offset run =
    Changes result old new had (max had (offset + length run)) (overlay (bytes_in old had) offset run)

-- a run written to one page, which only this value has
pub record Puts (old new : List Page) (i at : ℕ) (run : List ℕ) : Type 0 where
  pub page : Page
  pub set : new ≡ slice_set old i page
  pub bytes : page_bytes page ≡ splice (slice_index_or (map page_bytes old) i []) at run
  pub owned : is_owned page ≡ true

-- the result of a push of a page: the bytes of the old pages are unchanged
pub record Pushes {T E : Type 0} (result : Result T E) (old new : List Page) (page : Page) : Type 0 where
  pub ok : OnOk result ((kept : List Page) × (Keeps old kept) × (new ≡ kept ++ page ∷ []))
  pub err : OnErr result (Keeps old new)
