-- Workers that are given helpers, or lose them.
--   SameButLine, AllSameButLines    the same but for the line to a helper, which has nothing
use Rattle.std.specs.Prelude.{◌≡◌, ◌<◌, ℕ, List, length, slice_index_or}
use Rattle.count_workers.specs.declared.block_workers.worker.Worker.{Worker}
use Rattle.count_workers.specs.block_workers.Working.{IsIdle}

pub record SameButLine (old new : Worker) : Type 0 where
  pub number : new.number ≡ old.number
  pub takers : new.takers ≡ old.takers
  pub back : new.back ≡ old.back
  pub idle : IsIdle new

pub record AllSameButLines (olds news : List Worker) : Type 0 where
  pub long : length news ≡ length olds
  pub each : (v : ℕ) (d : Worker) → v < length olds → SameButLine (slice_index_or olds v d) (slice_index_or news v d)
