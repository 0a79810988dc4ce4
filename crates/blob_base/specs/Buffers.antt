-- A read buffer, as contracts see it.
use Rattle.std.specs.Prelude.{ℕ, List}

pub record Buffer : Type 0 where
  -- its bytes
  pub bytes : List ℕ
  -- how many bytes fit without allocating
  pub capacity : ℕ
