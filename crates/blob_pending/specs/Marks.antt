-- The markers and the barriers of a pending list.
use Rattle.std.specs.Prelude.{◌≡◌, ℕ, List, [], ◌∷◌, ◌++◌, count_by, drop}
use Rattle.blob_model.specs.Pending.{Pending, Waiting, Cut, Again, Marker, is_barrier, finish}
use Rattle.blob_pending.specs.declared.marks.Marks.{Marks}

-- the numbers of its markers, in their order
abbrev pub marks_of : List Pending → List ℕ
marks_of [] = []
marks_of (Waiting m ∷ q) = marks_of q
marks_of (Cut n ∷ q) = marks_of q
marks_of (Again o b ∷ q) = marks_of q
marks_of (Marker k ∷ q) = k ∷ marks_of q

-- those that are left of a list of numbers
abbrev pub left_marks : Marks → List ℕ
left_marks marks = drop marks.dropped marks.numbers.items

-- how many resizes and queued ranges it has
abbrev pub barriers_in : List Pending → ℕ
barriers_in q = count_by is_barrier q

-- those markers are the ones that a finished sync drops from a list that has these
abbrev pub AreFinished : ℕ → List ℕ → List ℕ → Type 0
AreFinished marker marks done = (q : List Pending) → marks_of q ≡ marks → done ++ marks_of (finish marker q) ≡ marks
