-- Readers, workers and their rings while rounds are prepared.
use Rattle.std.specs.Prelude.{◌≡◌, ◌≤◌, ◌<◌, ◌++◌, ◌∷◌, ℕ, List, [], length, slice_index_or, vec_len, vec_capacity, None}
use Rattle.count_workers.specs.declared.gauge_ring.taker.Taker.{Taker}
use Rattle.count_workers.specs.declared.gauge_ring.feeder.Feeder.{Feeder}
use Rattle.count_workers.specs.gauge_ring.Ends.{fed, taken, AreOneRing}
use Rattle.count_workers.specs.declared.block_workers.item.Item.{Item}
use Rattle.count_workers.specs.declared.block_workers.item.Back.{Back}
use Rattle.count_workers.specs.declared.block_workers.jobs.Reader.{Reader}
use Rattle.count_workers.specs.declared.block_workers.worker.Worker.{Worker}
use Rattle.count_workers.specs.declared.plan.Plan.{Plan}
use Rattle.board.specs.declared.flow.TheConstants.{BLOCKS_PER_WINDOW}

module _ {C : Type 0} where
  -- a reader with no source and no units, with its first so many rings
  pub record IsFreshReader (plan : Plan) (g rings : ℕ) (r : Reader C) : Type 0 where
    pub src : r.src ≡ None
    pub gauge : r.desk.gauge ≡ g
    pub size : r.desk.block ≡ plan.block
    pub kind : r.desk.grid ≡ plan.grid
    pub feeders : vec_len r.desk.feeders ≡ rings
    pub places : plan.workers ≤ vec_capacity r.desk.feeders
    pub blanks : vec_len r.desk.blanks ≡ 0
    pub room : BLOCKS_PER_WINDOW ≤ vec_capacity r.desk.blanks

  abbrev pub NewReaders : Plan → ℕ → List (Reader C) → Type 0
  NewReaders plan rings readers = (g : ℕ) (d : Reader C) → g < length readers →
      IsFreshReader plan g rings (slice_index_or readers g d)

  -- a ring more, in which nothing is
  pub record ConnectsRing (old new : Reader C) (taker : Taker Item) : Type 0 where
    pub src : new.src ≡ old.src
    pub gauge : new.desk.gauge ≡ old.desk.gauge
    pub size : new.desk.block ≡ old.desk.block
    pub kind : new.desk.grid ≡ old.desk.grid
    pub blanks : new.desk.blanks ≡ old.desk.blanks
    pub places : vec_capacity new.desk.feeders ≡ vec_capacity old.desk.feeders
    pub feeder : Feeder Item
    pub feeders : new.desk.feeders.items ≡ old.desk.feeders.items ++ feeder ∷ []
    pub one : AreOneRing feeder taker
    pub fresh : (fed feeder ≡ []) × (taken taker ≡ [])

  -- a worker with a ring from each reader
  pub record NewWorker (number : ℕ) (back : Feeder Back) (old new : List (Reader C)) (w : Worker) : Type 0 where
    pub number_is : w.number ≡ number
    pub back_is : w.back ≡ back
    pub alone : w.line ≡ None
    pub long : length new ≡ length old
    pub takers : vec_len w.takers ≡ length old
    pub rings : (g : ℕ) (d : Reader C) (e : Taker Item) → g < length old
        → ConnectsRing (slice_index_or old g d) (slice_index_or new g d) (slice_index_or w.takers.items g e)
