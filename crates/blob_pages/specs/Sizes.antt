-- The size of a page, and a run over its bytes.
use Rattle.std.specs.Prelude.{ℕ, ◌+◌, List, ◌++◌, length, take, drop, replicate}

-- the size of a page in bytes, `PAGE` in the code
abbrev pub page_size : ℕ
page_size = 16384

-- the bytes of a page of zeros
unfoldable pub blank_bytes : List ℕ
blank_bytes = replicate page_size 0

-- x with y written over it at n
abbrev pub splice : List ℕ → ℕ → List ℕ → List ℕ
splice x n y = take n x ++ (y ++ drop (n + length y) x)
