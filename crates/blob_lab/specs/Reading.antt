-- The results of reading, and a reader's remaining bytes after a read, if they are known.
use Rattle.std.specs.Prelude.{◌≡◌, ℕ, List, [], Bool, true, false, Option, Some, Result, IfSome, IfNone, IfOk, IsSome}

-- they are still known
abbrev pub StaysKnown : Option (List ℕ) → Option (List ℕ) → Type 0
StaysKnown old new = IfSome old (λ _. IsSome new)

-- none remains
abbrev pub IsReadOut : Option (List ℕ) → Option (List ℕ) → Type 0
IsReadOut old new = IfSome old (λ _. new ≡ Some [])

-- P holds of what was read, if it isn't the end of the input
abbrev pub IfRead : {T E : Type 0} → Result (Option T) E → (T → Type 0) → Type 0
IfRead result P = IfOk result (λ read. IfSome read P)

-- P holds if the end of the input was read
abbrev pub IfEnd : {T E : Type 0} → Result (Option T) E → Type 0 → Type 0
IfEnd result P = IfOk result (λ read. IfNone read P)

-- the same of a result that is true if a line was read, and false at the end of the input
abbrev pub IfLine : {E : Type 0} → Result Bool E → Type 0 → Type 0
IfLine result P = IfOk result (λ some. some ≡ true → P)

abbrev pub IfNoLine : {E : Type 0} → Result Bool E → Type 0 → Type 0
IfNoLine result P = IfOk result (λ some. some ≡ false → P)
