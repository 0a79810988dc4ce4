-- The calls of a handle as data.
use Rattle.std.specs.Prelude.{ℕ, List, Bool, Option}
use Rattle.blob_header.specs.Refusals.{Refusal}

pub data HandleCall : Type 0 where
  -- offset and length, into a new buffer or the caller's
  Read : ℕ → ℕ → HandleCall
  -- offset, bytes, and whether it is a SYNC write
  Write : ℕ → List ℕ → Bool → HandleCall
  -- the logical length
  Resize : ℕ → HandleCall
  Sync : HandleCall
  -- the marker of the returned handle
  StartSync : Option ℕ → HandleCall
  -- the logical end
  Reserve : ℕ → HandleCall

-- each possible result of a write now was possible before
abbrev pub AllowsNoMoreWrites : (ℕ → List ℕ → Bool → Option Refusal → Type 0) → (ℕ → List ℕ → Bool → Option Refusal → Type 0) → Type 0
AllowsNoMoreWrites before now = (offset : ℕ) (bytes : List ℕ) (sync : Bool) (answer : Option Refusal) → now offset bytes sync answer → before offset bytes sync answer

-- each possible result of a reservation now was possible before
abbrev pub AllowsNoMoreReserves : (ℕ → Option Refusal → Type 0) → (ℕ → Option Refusal → Type 0) → Type 0
AllowsNoMoreReserves before now = (end : ℕ) (answer : Option Refusal) → now end answer → before end answer
