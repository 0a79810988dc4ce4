-- The bytes and the capacity of a `Pages`.
use Rattle.std.specs.Prelude.{◌≡◌, ℕ, ◌+◌, ◌<◌, Bool, List, Result, OnOk, OnErr, length, slice_index, vec_capacity}
use Rattle.blob_model.specs.Bytes.{overlay, overlay_by}
use Rattle.blob_model.specs.Runs.{is_chosen}
use Rattle.blob_pages.specs.declared.pages.Pages.{Pages}
use Rattle.blob_pages.specs.Groups.{NoneOwned}
use Rattle.blob_pages.specs.Paged.{bytes_in}

abbrev pub bytes : Pages → List ℕ
bytes s = bytes_in s.pages s.len

-- the capacity: changes up to this length never fail
abbrev pub room : Pages → ℕ
room s = vec_capacity s.spare

-- other values may have its pages too
abbrev pub AreShared : Pages → Type 0
AreShared s = NoneOwned s.pages

-- the result of a change within the capacity: the new bytes, or with Err the old ones
pub record Tries {T E : Type 0} (result : Result T E) (old new : Pages) (now : List ℕ) : Type 0 where
  pub ok : OnOk result (bytes new ≡ now)
  pub err : OnErr result (bytes new ≡ bytes old)
  pub room : room new ≡ room old

-- the bytes from `offset` to `end`, with zeros after the last byte
pub record IsRange (range all : List ℕ) (offset end : ℕ) : Type 0 where
  pub len : offset + length range ≡ end
  pub each : (i : ℕ) → i < length range → slice_index range i ≡ slice_index all (offset + i)

-- a write of `merged` has the result of a write of the bytes of `run` that `keep` selects
abbrev pub IsSelectedWrite : List ℕ → List ℕ → ℕ → List ℕ → List Bool → Type 0
IsSelectedWrite merged all offset run keep = overlay all offset merged ≡ overlay_by all offset run (is_chosen keep)
