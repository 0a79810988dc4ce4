-- The statements of the laws of overlays.
use Rattle.std.specs.Prelude.{◌≡◌, ◌+◌, ℕ, Bool, List, ◌++◌, length}
use Rattle.blob_model.specs.Bytes.{overlay_by}
use Rattle.blob_model.specs.Runs.{runs, all_laid, is_chosen}

-- an overlay past a header leaves the header, and changes the bytes after it as it would without the header
abbrev pub OverlayLeavesHeader : Type 0
OverlayLeavesHeader = (h x : List ℕ) (o : ℕ) (b : List ℕ) (c : ℕ → Bool)
    → overlay_by (h ++ x) (length h + o) b c ≡ h ++ overlay_by x o b c

-- applying the runs of a write's chosen bytes is applying all chosen bytes
abbrev pub RunsApplyChoices : Type 0
RunsApplyChoices = (o : ℕ) (b : List ℕ) (chosen : List Bool) (x : List ℕ)
    → all_laid x (runs o b chosen) ≡ overlay_by x o b (is_chosen chosen)
