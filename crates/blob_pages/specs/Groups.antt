-- Pages in groups.
use Rattle.std.specs.Prelude.{◌≡◌, ℕ, ◌+◌, ◌<◌, ◌≤◌, Bool, true, false, All, List, length, map, take, slice_index_or}
use Rattle.std.specs.List.{flat_map}
use Rattle.blob_pages.specs.declared.page.Page.{Page}
use Rattle.blob_pages.specs.declared.group.Group.{Group}
use Rattle.blob_pages.specs.declared.group.Group.TheVariants.{Open, Closed}
use Rattle.blob_pages.specs.Paged.{page_bytes, is_owned}

-- the number of pages of a full group, `GROUP` in the code
abbrev pub group_size : ℕ
group_size = 64

-- the pages of a group
abbrev pub group_pages : Group → List Page
group_pages (Open v) = v.items
group_pages (Closed r) = r.value.items

-- whether only this value has a group
abbrev pub is_open : Group → Bool
is_open (Open v) = true
is_open (Closed r) = false

-- other values may have each of these pages too
abbrev pub NoneOwned : List Page → Type 0
NoneOwned ps = All (λ page. is_owned page ≡ false) ps

-- a shared group has only shared pages
abbrev pub IsSound : Group → Type 0
IsSound g = is_open g ≡ false → NoneOwned (group_pages g)

-- the pages of all groups
abbrev pub all_pages : List Group → List Page
all_pages gs = flat_map group_pages gs

-- each group except the last is full
pub record IsPacked (gs : List Group) : Type 0 where
  pub full : (k : ℕ) (g : Group) → k + 1 < length gs → length (group_pages (slice_index_or gs k g)) ≡ group_size
  pub most : All (λ g. length (group_pages g) ≤ group_size) gs
  pub sound : All IsSound gs

-- the bytes of the pages of a group
abbrev pub group_bytes : Group → List (List ℕ)
group_bytes g = map page_bytes (group_pages g)

-- the first pages of a list, at least this many of them
pub record IsFirst (copy all : List Page) (count : ℕ) : Type 0 where
  pub bytes : map page_bytes copy ≡ take (length copy) (map page_bytes all)
  pub there : count ≤ length copy
