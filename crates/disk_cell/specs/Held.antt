-- Two files that hold a value, whatever a crash leaves of them.
use Rattle.std.specs.Prelude.{◌≡◌, ◌⊎◌, ℕ, Bool, false, ◌<◌, ◌==◌, if◌then◌else◌, IsTrue, List, ◌∷◌, length, slice_index, Option, Some, None}
use Rattle.sqlite_disk.specs.declared.Disk.{Ghosts}
use Rattle.disk_cell.specs.declared.cell.Cell.{Cell}

-- 1, 2, 3, 1, ..
abbrev pub next_version : ℕ → ℕ
next_version v = if v == 1 then 2 else if v == 2 then 3 else 1

-- the older file has the version before, or the next one and the value that was tried
abbrev pub IsOlder : ℕ → Option (List ℕ) → List ℕ → Type 0
IsOlder version tried c =
    ((0 < length c) × (next_version (slice_index c 0) ≡ version))
    ⊎ ((value : List ℕ) × (tried ≡ Some value) × (c ≡ next_version version ∷ value))

-- the first byte stays, if there is one
abbrev pub KeepsFirst : List ℕ → List ℕ → Type 0
KeepsFirst old new = 0 < length old → (0 < length new) × (slice_index new 0 ≡ slice_index old 0)

-- the first byte stays or becomes this one, and no other byte changes
abbrev pub MaySetFirst : ℕ → List ℕ → List ℕ → Type 0
MaySetFirst byte old new = (first : ℕ) (rest : List ℕ) → old ≡ first ∷ rest → (new ≡ old) ⊎ (new ≡ byte ∷ rest)

module _ {D : Type 0} (g : Ghosts D) where
  -- A crash leaves the version and the value in the newer file. The older one may have a value that was tried after it.
  pub record MayHold (newer older : D) (version : ℕ) (value : List ℕ) (tried : Option (List ℕ)) : Type 0 where
    pub newer_left : (c : List ℕ) → g.may_leave newer c → c ≡ version ∷ value
    pub older_left : (c : List ℕ) → g.may_leave older c → IsOlder version tried c

  -- an open cell has this value, and no crash loses it
  abbrev pub HoldsValue : Cell D g → List ℕ → Type 0
  HoldsValue cell value = MayHold cell.newer cell.older cell.version value None

  -- no read of the two files lied
  abbrev pub IsClean : Cell D g → Type 0
  IsClean cell = IsTrue (g.is_clean cell.newer) × IsTrue (g.is_clean cell.older)

  -- if the files, in either order, held a value, this is that value or the one that was tried after it
  abbrev pub FindsValue : D → D → List ℕ → Type 0
  FindsValue first second found = (version : ℕ) (value : List ℕ) (tried : Option (List ℕ))
      → MayHold first second version value tried ⊎ MayHold second first version value tried
      → (found ≡ value) ⊎ (tried ≡ Some found)

  -- the value that was acknowledged last, or this one, whose set failed
  abbrev pub FindsAfterSet : Cell D g → List ℕ → Bool → List ℕ → Type 0
  FindsAfterSet cell value is_set found = (old : List ℕ) → HoldsValue cell old → (found ≡ value) ⊎ ((is_set ≡ false) × (found ≡ old))

  -- whatever two files held, two others hold
  abbrev pub HoldStill : D × D → D × D → Type 0
  HoldStill files files' = (version : ℕ) (value : List ℕ) (tried : Option (List ℕ))
      → MayHold files.0 files.1 version value tried → MayHold files'.0 files'.1 version value tried

  -- a crash leaves no more than before
  abbrev pub LeavesNoMore : D → D → Type 0
  LeavesNoMore old new = (c : List ℕ) → g.may_leave new c → g.may_leave old c
