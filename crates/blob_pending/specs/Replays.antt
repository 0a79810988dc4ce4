-- What a crash replays of a pending list, and the capacity that this needs.
use Rattle.std.specs.Prelude.{ℕ, max, List, [], ◌∷◌, length, if◌then◌else◌}
use Rattle.blob_model.specs.Order.{ListAt}
use Rattle.blob_model.specs.Pending.{Pending, Waiting, Cut, Again, Marker, has_marker}
use Rattle.blob_pending.specs.Contents.{zeros_in}

-- the entries after the last marker
abbrev pub unmarked : List Pending → List Pending
unmarked [] = []
unmarked (e ∷ q) = if has_marker (e ∷ q) then unmarked q else e ∷ q

-- how many choices the replay of an entry needs
abbrev pub width : Pending → ℕ
width (Waiting m) = length m.write.bytes
width (Cut n) = 0
width (Again o b) = 0
width (Marker k) = 0

-- the most that one entry needs
abbrev pub widest : List Pending → ℕ
widest [] = 0
widest (e ∷ q) = max (width e) (widest q)

-- the most that one entry after its list's last marker needs
abbrev pub widest_of_all : List ListAt → ℕ
widest_of_all [] = 0
widest_of_all (h ∷ hs) = max (widest (unmarked h.1)) (widest_of_all hs)

-- how many zeros the replay of an entry needs
abbrev pub zeros_for : Pending → ℕ
zeros_for (Waiting m) = zeros_in m.write.bytes
zeros_for (Cut n) = 0
zeros_for (Again o b) = 0
zeros_for (Marker k) = 0

-- the most that one entry needs
abbrev pub most_zeros : List Pending → ℕ
most_zeros [] = 0
most_zeros (e ∷ q) = max (zeros_for e) (most_zeros q)

-- the most that one entry after its list's last marker needs
abbrev pub most_zeros_of_all : List ListAt → ℕ
most_zeros_of_all [] = 0
most_zeros_of_all (h ∷ hs) = max (most_zeros (unmarked h.1)) (most_zeros_of_all hs)
