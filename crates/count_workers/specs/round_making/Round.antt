-- What a round does.
--   ring_at, RingDone    what was taken from a ring, and that it is its blocks of the lane and the mark
--   LaneDone             where a lane stands, how it ended, and that its source is back
--   FrontDone            what the front of a lane stands for
--   flow_of              the round of the flow that the law on arrivals speaks of
--   RoundDone            all that a round does
--   SourcesBack          each lane has the source that it lent
use Rattle.std.specs.Prelude.{◌≡◌, ◌≢◌, ◌+◌, ◌-◌, ◌*◌, ◌<◌, ◌≤◌, ◌++◌, ℕ, pos, List, [], length, take, replicate, Some, slice_index_or}
use Rattle.outside.specs.Fault.{CountRose}
use Rattle.calibration.specs.declared.limits.TheConstants.{MAX_SAMPLES}
use Rattle.board.specs.declared.flow.TheConstants.{BLOCKS_PER_WINDOW}
use Rattle.recording.specs.Samples.{samples}
use Rattle.recording.specs.declared.lane_ends.end.End.TheVariants.{More, ReadFault}
use Rattle.recording.specs.lane_ends.Ends.{IsRead}
use Rattle.segment.specs.Segment.{SegmentValue, Stands}
use Rattle.segment.specs.Name.{name_of}
use Rattle.board.specs.flow.Flow.{name_of_samples, hits}
use Rattle.board.specs.flow.Kept.{between}
use Rattle.board.specs.block_pool.Units.{FilledValue}
use Rattle.board.specs.Board.{IsFront}
use Rattle.board.specs.arrivals.Arrivals.{Round as RoundOfFlow, AreArrivals, IsRound, fed_to, names_of}
use Rattle.count_workers.specs.declared.block_workers.item.Item.{Item}
use Rattle.count_workers.specs.block_workers.Dealing.{round_of}
use Rattle.count_workers.specs.block_workers.Jobs.{SameSource}
use Rattle.count_workers.specs.declared.lane_loans.lane.Lane.{Lane}
use Rattle.count_workers.specs.lane_loans.Lent.{at_of}
use Rattle.count_workers.specs.round_making.Resting.{PreparedValue}

-- what was taken from the ring of a gauge and a worker
abbrev pub ring_at : PreparedValue → ℕ → ℕ → List Item
ring_at p g v = slice_index_or (slice_index_or p.rings v []) g []

-- a ring was fed its blocks of the lane, in order, and then the mark, and all of it was taken
pub record RingDone (block workers : ℕ) (flow : RoundOfFlow) (old new : PreparedValue) (g v : ℕ) : Type 0 where
  pub units : List FilledValue
  pub ring : ring_at new g v ≡ ring_at old g v ++ round_of units
  pub names : names_of units ≡ fed_to block workers flow g v BLOCKS_PER_WINDOW

module _ {C : Type 0} where
  -- A lane after a round. Its source is back, and `at` and `end` say what it gave.
  pub record LaneDone (tells : Type 0) (left : C → List ℕ) (faults : C → ℕ) (block : ℕ)
      (old new : Lane C) : Type 0 where
    pub before : C
    pub now : C
    pub was : old.src ≡ Some before
    pub has : new.src ≡ Some now
    pub gauge : new.gauge ≡ old.gauge
    pub gain : new.gain ≡ old.gain
    pub samples : (old.at ≤ new.at) × (new.at ≤ old.at + BLOCKS_PER_WINDOW * block)
    pub limit : new.at ≤ MAX_SAMPLES
    pub gives : old.end ≡ More → tells →
        IsRead (BLOCKS_PER_WINDOW * block) (MAX_SAMPLES - old.at) (left before) (new.at - old.at) new.end (left now)
    pub cause : old.end ≡ More → new.end ≡ ReadFault → CountRose (faults before) (faults now)
    pub later : faults before ≤ faults now
    pub ended : old.end ≢ More → (new.at ≡ old.at) × (new.end ≡ old.end) × (now ≡ before)

  -- The front of a lane stands for the whole samples that it gave, which are the next ones that its source had left.
  pub record FrontDone (tells : Type 0) (left : C → List ℕ) (old new : Lane C) (front : SegmentValue) : Type 0 where
    pub name : name_of front ≡ name_of_samples old.gauge old.at new.at
    pub stands : (src : C) → old.src ≡ Some src → tells →
        Stands front old.gain (take (new.at - old.at) (samples (left src)))

  -- the flow of a round: it starts where the lanes stood, and there is as much of each recording as the lane has given
  abbrev pub flow_of : List (Lane C) → List (Lane C) → RoundOfFlow
  flow_of old new = record { at = at_of old; samples = λ g. replicate (at_of new g) (pos 0) }

  pub record RoundDone (tells : Type 0) (left : C → List ℕ) (faults : C → ℕ) (old new : PreparedValue)
      (lanes_old lanes_new : List (Lane C)) : Type 0 where
    pub grid : new.grid ≡ old.grid
    pub gauges : new.gauges ≡ old.gauges
    pub block : new.block ≡ old.block
    pub workers : new.workers ≡ old.workers
    pub inside : new.inside ≡ BLOCKS_PER_WINDOW * old.gauges
    pub board : (new.board.grid ≡ old.grid) × (new.board.block ≡ old.block) × (length new.board.rows ≡ old.gauges)
    pub long : length lanes_new ≡ length lanes_old
    pub lane : (g : ℕ) (d : Lane C) → g < old.gauges
        → LaneDone tells left faults old.block (slice_index_or lanes_old g d) (slice_index_or lanes_new g d)
    pub front : (g : ℕ) (d : Lane C) (front : SegmentValue) → g < old.gauges → IsFront new.board g front
        → FrontDone tells left (slice_index_or lanes_old g d) (slice_index_or lanes_new g d) front
    pub rings : (g v : ℕ) → g < old.gauges → v < old.workers →
        RingDone old.block old.workers (flow_of lanes_old lanes_new) old new g v
    pub flow : IsRound old.block old.workers (flow_of lanes_old lanes_new) old.gauges
    pub arrivals : AreArrivals old.block old.workers (flow_of lanes_old lanes_new) old.gauges new.board.arrivals
    -- each sample that a lane gave is named once, and no other
    pub once : (g i : ℕ) → g < old.gauges →
        hits g i new.board.arrivals ≡ between (at_of lanes_old g) (at_of lanes_new g) i

  -- Each lane has the source that it lent, by its number, however it ended.
  abbrev pub SourcesBack : (C → ℕ) → List (Lane C) → List (Lane C) → Type 0
  SourcesBack number lanes_old lanes_new = (g : ℕ) (d : Lane C) → g < length lanes_old
      → SameSource number (slice_index_or lanes_old g d).src (slice_index_or lanes_new g d).src
