-- What is known of both ends of the return rings, once they are in one thread.
--   ReturnAt, AllReturns         the ends are of one ring; of each worker's
--   IsStillAwaited, SameFeeding  a taker and a worker after a look at both ends
--   BackFifo                     what was fed back is what was taken and what is left
use Rattle.std.specs.Prelude.{◌≡◌, ◌<◌, ◌++◌, ℕ, List, length, slice_index_or}
use Rattle.count_workers.specs.gauge_ring.Ends.{fed, taken, AreOneRing, IsSameFeeder, IsSameTaker}
use Rattle.count_workers.specs.declared.block_workers.item.Back.{Back}
use Rattle.count_workers.specs.declared.block_workers.worker.Worker.{Worker}
use Rattle.count_workers.specs.declared.collector.collecting.Return.{Return}
use Rattle.count_workers.specs.collector.Collecting.{IsAwaited}

-- the two ends of a worker's return ring
pub record ReturnAt (w : Worker) (r : Return) : Type 0 where
  pub one : AreOneRing w.back r.taker

-- awaited, and the same but for what is known of the ring
pub record IsStillAwaited (old new : Return) : Type 0 where
  pub awaited : IsAwaited new
  pub taken : taken new.taker ≡ taken old.taker
  pub same : IsSameTaker old.taker new.taker

-- the same but for what its feeder knows of the return ring
pub record SameFeeding (old new : Worker) : Type 0 where
  pub number : new.number ≡ old.number
  pub takers : new.takers ≡ old.takers
  pub fed : fed new.back ≡ fed old.back
  pub same : IsSameFeeder old.back new.back
  pub line : new.line ≡ old.line

-- what was fed back is what was taken and what is left
pub record BackFifo (w : Worker) (r : Return) : Type 0 where
  pub left : List Back
  pub fifo : fed w.back ≡ taken r.taker ++ left

-- a return ring of each worker
abbrev pub AllReturns : List Worker → List Return → Type 0
AllReturns workers returns = (v : ℕ) (d : Worker) (e : Return) → v < length workers
    → ReturnAt (slice_index_or workers v d) (slice_index_or returns v e)
