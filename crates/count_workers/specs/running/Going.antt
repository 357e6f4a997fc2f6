-- What goes on in the thread that reads, between two blocks.
--   CanGoOn     its workers may work, and the board and the pool have one grid
--   Collects    what was collected before, and what came since
--   AllWorkOn   each worker has worked on
--   GoesOn      its workers have worked on, and what they fed back was collected
use Rattle.std.specs.Prelude.{◌≡◌, ℕ, List, length, slice_index_or}
use Rattle.std.specs.List.{All}
use Rattle.count_workers.specs.declared.block_workers.worker.Worker.{Worker}
use Rattle.count_workers.specs.block_workers.Working.{CanWork, WorksOn}
use Rattle.count_workers.specs.declared.collector.collecting.Return.{Return}
use Rattle.count_workers.specs.declared.collector.depot.Depot.{Depot}
use Rattle.count_workers.specs.collector.Collecting.{CollectsMore}

pub record CanGoOn (workers : List Worker) (depot : Depot) : Type 0 where
  pub work : All CanWork workers
  pub grid : depot.board.grid ≡ depot.pool.grid

abbrev pub Collects : Depot → Depot → List Return → List Return → Type 0
Collects old new before now = CollectsMore old.board new.board old.pool new.pool before now

pub record AllWorkOn (olds news : List Worker) : Type 0 where
  pub long : length news ≡ length olds
  pub work : (v : ℕ) (d : Worker) → WorksOn (slice_index_or olds v d) (slice_index_or news v d)

pub record GoesOn (olds news : List Worker) (old new : Depot) (before now : List Return) : Type 0 where
  pub long : length news ≡ length olds
  pub work : (v : ℕ) (d : Worker) → WorksOn (slice_index_or olds v d) (slice_index_or news v d)
  pub collects : Collects old new before now
  pub can : CanGoOn news new
