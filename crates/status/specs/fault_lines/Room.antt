-- The room for a fault line, and what is written.
use Rattle.std.specs.Prelude.{ℕ, List}

pub record FaultLineValue : Type 0 where
  -- of the longest name that there is room for
  pub name_bytes : ℕ
  pub bytes : List ℕ
