-- What a round does to its readers and to both ends of the rings.
--   CanRead, ReadJob                       a reader before and after a round
--   NotRead                                a lane that had ended: nothing but marks
--   SameRead, SameWork                     the same but for what its ends know of the rings
--   RingAt, Fifo                           the ring of a gauge and a worker, and that what was fed was taken or is left
--   AllRead, AllRings, AllFifo             the same of all readers and rings
--   SameSource, SameSources                the source with the same number, and so of all readers
use Rattle.std.specs.Prelude.{◌≡◌, ◌≢◌, ◌<◌, ◌≤◌, [], ℕ, List, ◌++◌, length, slice_index_or, vec_len, Option, Some, option_map}
use Rattle.count_workers.specs.declared.gauge_ring.taker.Taker.{Taker}
use Rattle.count_workers.specs.declared.gauge_ring.feeder.Feeder.{Feeder}
use Rattle.count_workers.specs.gauge_ring.Ends.{fed, taken, AreOneRing, IsSameFeeder, IsSameTaker}
use Rattle.count_workers.specs.declared.block_workers.item.Item.{Item}
use Rattle.count_workers.specs.declared.block_workers.worker.Worker.{Worker}
use Rattle.count_workers.specs.declared.block_workers.jobs.Reader.{Reader}
use Rattle.std.specs.List.{All}
use Rattle.outside.specs.Fault.{CountRose}
use Rattle.recording.specs.declared.lane_ends.end.End.TheVariants.{More, ReadFault}
use Rattle.board.specs.block_pool.Units.{IsBlank}
use Rattle.count_workers.specs.declared.block_workers.desk.Desk.{Desk}
use Rattle.count_workers.specs.block_workers.Dealing.{round_of}
use Rattle.count_workers.specs.block_workers.Reading.{IsReady, ReadDone, SameDesk}
use Rattle.board.specs.declared.flow.TheConstants.{BLOCKS_PER_WINDOW}

-- a lane that had ended: nothing but marks
pub record NotRead (old new : Desk) : Type 0 where
  pub same : SameDesk old new
  pub at : new.at ≡ old.at
  pub end : new.end ≡ old.end
  pub fed : (v : ℕ) (d : Feeder Item) → v < vec_len old.feeders
      → fed (slice_index_or new.feeders.items v d) ≡ fed (slice_index_or old.feeders.items v d) ++ round_of []
  pub ends : (v : ℕ) (d : Feeder Item) → v < vec_len old.feeders
      → IsSameFeeder (slice_index_or old.feeders.items v d) (slice_index_or new.feeders.items v d)
  pub blanks : new.blanks ≡ old.blanks

module _ {C : Type 0} where
  -- it has a source and what a round takes
  pub record CanRead (r : Reader C) : Type 0 where
    pub src : C
    pub has : r.src ≡ Some src
    pub ready : r.desk.end ≡ More → IsReady r.desk BLOCKS_PER_WINDOW
    pub fit : All (IsBlank r.desk.block r.desk.grid) r.desk.blanks.items

  pub record ReadJob (tells : Type 0) (left : C → List ℕ) (faults : C → ℕ) (old new : Reader C) : Type 0 where
    pub before : C
    pub now : C
    pub was : old.src ≡ Some before
    pub has : new.src ≡ Some now
    pub later : faults before ≤ faults now
    pub read : old.desk.end ≡ More → ReadDone tells (left before) (left now) old.desk new.desk
        × (new.desk.end ≡ ReadFault → CountRose (faults before) (faults now))
    pub ended : old.desk.end ≢ More → NotRead old.desk new.desk × (now ≡ before)

  -- the same but for what its feeders know of the rings
  pub record SameRead (old new : Reader C) : Type 0 where
    pub src : new.src ≡ old.src
    pub gauge : new.desk.gauge ≡ old.desk.gauge
    pub gain : new.desk.gain ≡ old.desk.gain
    pub at : new.desk.at ≡ old.desk.at
    pub end : new.desk.end ≡ old.desk.end
    pub block : new.desk.block ≡ old.desk.block
    pub grid : new.desk.grid ≡ old.desk.grid
    pub blanks : new.desk.blanks ≡ old.desk.blanks
    pub feeders : vec_len new.desk.feeders ≡ vec_len old.desk.feeders
    pub fed : (v : ℕ) (d : Feeder Item) →
        fed (slice_index_or new.desk.feeders.items v d) ≡ fed (slice_index_or old.desk.feeders.items v d)
    pub ends : (v : ℕ) (d : Feeder Item)
        → IsSameFeeder (slice_index_or old.desk.feeders.items v d) (slice_index_or new.desk.feeders.items v d)

  -- the two ends of the ring of a gauge and a worker
  pub record RingAt (w : Worker) (r : Reader C) (g v : ℕ) : Type 0 where
    pub one : (d : Taker Item) (e : Feeder Item) →
        AreOneRing (slice_index_or r.desk.feeders.items v e) (slice_index_or w.takers.items g d)

  -- what was fed is what was taken and what is left
  pub record Fifo (w : Worker) (r : Reader C) (g v : ℕ) : Type 0 where
    pub left : List Item
    pub fifo : (d : Taker Item) (e : Feeder Item)
        → fed (slice_index_or r.desk.feeders.items v e) ≡ taken (slice_index_or w.takers.items g d) ++ left

pub record SameWork (old new : Worker) : Type 0 where
  pub number : new.number ≡ old.number
  pub back : (fed new.back ≡ fed old.back) × IsSameFeeder old.back new.back
  pub line : new.line ≡ old.line
  pub takers : vec_len new.takers ≡ vec_len old.takers
  pub taken : (g : ℕ) (d : Taker Item) →
      taken (slice_index_or new.takers.items g d) ≡ taken (slice_index_or old.takers.items g d)
  pub ends : (g : ℕ) (d : Taker Item) →
      IsSameTaker (slice_index_or old.takers.items g d) (slice_index_or new.takers.items g d)

-- each reader's round, by gauge; each worker's, by number
abbrev pub AllRead : {C : Type 0} → Type 0 → (C → List ℕ) → (C → ℕ) → List (Reader C) → List (Reader C) → Type 0
AllRead tells left faults olds news = (g : ℕ) (d : _) → g < length olds
    → ReadJob tells left faults (slice_index_or olds g d) (slice_index_or news g d)

-- what is there has the number of what was there
abbrev pub SameSource : {C : Type 0} → (C → ℕ) → Option C → Option C → Type 0
SameSource number before now = option_map number now ≡ option_map number before

abbrev pub SameSources : {C : Type 0} → (C → ℕ) → List (Reader C) → List (Reader C) → Type 0
SameSources number olds news = (g : ℕ) (d : _) → g < length olds
    → SameSource number (slice_index_or olds g d).src (slice_index_or news g d).src

-- a ring of each gauge and each worker
abbrev pub AllRings : {C : Type 0} → List Worker → List (Reader C) → Type 0
AllRings workers readers = (v g : ℕ) (d : _) (e : _) → v < length workers → g < length readers
    → RingAt (slice_index_or workers v d) (slice_index_or readers g e) g v

abbrev pub AllFifo : {C : Type 0} → List Worker → List (Reader C) → Type 0
AllFifo workers readers = (v g : ℕ) (d : _) (e : _) → v < length workers → g < length readers
    → Fifo (slice_index_or workers v d) (slice_index_or readers g e) g v
