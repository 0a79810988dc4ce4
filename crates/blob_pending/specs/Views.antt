-- The entries of the model that the code's entries represent.
use Rattle.std.specs.Prelude.{◌≡◌, ℕ, ◌+◌, ◌<◌, ◌≤◌, Bool, true, false, List, [], filter, length, map}
use Rattle.std.proofs.Common.{get_or}
use Rattle.blob_model.specs.Log.{Write, has_bare}
use Rattle.blob_model.specs.declared.mode.PartialWriteMode.TheVariants as mode
use Rattle.blob_model.specs.Pending as model
use Rattle.blob_model.specs.Pending.{Pending, pared_one}
use Rattle.blob_model.specs.Holes.{need_in}
use Rattle.blob_pending.specs.Ranges.{ranges}
use Rattle.blob_pending.specs.declared.write.PendingWrite.{PendingWrite}
use Rattle.blob_pending.specs.declared.entry.Entry.{Entry}
use Rattle.blob_pending.specs.declared.entry.Entry.TheVariants as entry

abbrev pub write_of : PendingWrite → Write
write_of w = record { number = w.number; offset = w.offset; bytes = w.bytes; mode = w.mode; rate = w.rate }

-- a write without bytes, of which nothing is left
abbrev pub nothing : Pending
nothing = model.Waiting (record { write = record { number = 0; offset = 0; bytes = []; mode = mode.Prefix; rate = record { numerator = 0; denominator = 1 } }; bare = λ _. false })

abbrev pub view : Entry → Pending
view (entry.Write w) = model.Waiting (need_in (write_of w) (ranges w.holes.items))
view (entry.Resize n) = model.Cut n
view (entry.Range r) = model.Again r.offset r.bytes.items
view (entry.Marker k) = model.Marker k
view entry.Dropped = nothing

abbrev pub views : List Entry → List Pending
views q = map view q

-- a pending mutation after a durable range of n bytes at o
abbrev pub pared_by : ℕ → ℕ → Pending → Pending
pared_by o n (model.Waiting m) = model.Waiting (pared_one o n m)
pared_by o n (model.Cut len) = model.Cut len
pared_by o n (model.Again p b) = model.Again p b
pared_by o n (model.Marker k) = model.Marker k

-- whether a crash still draws for it or applies it
abbrev pub is_left : Pending → Bool
is_left (model.Waiting m) = has_bare m
is_left (model.Cut len) = true
is_left (model.Again p b) = true
is_left (model.Marker k) = true

-- the list without those of which nothing is left
abbrev pub left_in : List Entry → List Pending
left_in q = filter is_left (views q)

-- of the first n entries nothing is left
abbrev pub AreDropped : ℕ → List Pending → Type 0
AreDropped n q = (k : ℕ) (p : Pending) → k < n → (k < length q) × (is_left (get_or q k p) ≡ false)

-- of at most n entries nothing is left
abbrev pub CountsCovered : ℕ → List Pending → Type 0
CountsCovered n q = length q ≤ length (filter is_left q) + n
