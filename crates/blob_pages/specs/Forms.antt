-- The bytes of a blob, in one vector or in pages.
use Rattle.std.specs.Prelude.{◌≡◌, ℕ, ◌≤◌, List, Result, OnOk, OnErr, IsOk, vec_capacity}
use Rattle.blob_pages.specs.declared.form.Form.{Form}
use Rattle.blob_pages.specs.declared.form.Form.TheVariants.{Flat, Paged}
use Rattle.blob_pages.specs.Values.{bytes, room}

abbrev pub content : Form → List ℕ
content (Flat v) = v.items
content (Paged s) = bytes s.value

-- the length up to which changes never fail
abbrev pub capacity : Form → ℕ
capacity (Flat v) = vec_capacity v
capacity (Paged s) = room s.value

-- the new bytes; the capacity doesn't shrink
pub record Becomes (old new : Form) (now : List ℕ) : Type 0 where
  pub content : content new ≡ now
  pub capacity : capacity old ≤ capacity new

-- a change that needs this capacity: Ok has the new bytes. Err is out of memory, never happens if the capacity suffices, and
-- leaves the bytes unchanged
pub record MayBecome {T E : Type 0} (result : Result T E) (old new : Form) (need : ℕ) (now : List ℕ) : Type 0 where
  pub ok : OnOk result (content new ≡ now)
  pub err : OnErr result (content new ≡ content old)
  pub succeeds : need ≤ capacity old → IsOk result
  pub capacity : capacity old ≤ capacity new
