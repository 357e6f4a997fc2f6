-- The worker's end of a line to a helper.
--   LineValue    what contracts see of it
--   TakesBack    the oldest block that was under way came back counted
use Rattle.std.specs.Prelude.{◌≡◌, List, ◌∷◌}
use Rattle.board.specs.block_pool.Units.{FilledValue, CountedValue, IsCountOf}

pub record LineValue : Type 0 where
  -- what was handed out and has not come back, the oldest first
  pub waiting : List FilledValue

pub record TakesBack (old new : List FilledValue) (unit : CountedValue) : Type 0 where
  pub oldest : FilledValue
  pub came : old ≡ oldest ∷ new
  pub counts : IsCountOf oldest unit
