-- What a worker does in a round.
--   in_turn                   the lists of the first n gauges, one after another
--   AreCounts                 the units, counted
--   return_round              a round of a return ring
--   GivesCounts               the counts of some units were fed back
--   CanWork                   a worker that may work
--   waiting_of, IsIdle        what its helper has of it, the oldest first; nothing
--   HandsOver                 some units were handed over, and the oldest of all were counted and fed back
--   WorkedSoFar               what was taken since a round began, ring after ring, was counted and fed back, or its helper has it
--   WorksOn, EndsWork         the same and more; all of it, and the mark
--   WorkJob                   a worker's round
--   AllBegun, AllEnd, AllWorked    the same of each worker, by number
use Rattle.std.specs.Prelude.{◌≡◌, ◌<◌, ◌≤◌, ℕ, zero, suc, List, [], ◌∷◌, ◌++◌, length, map, slice_index_or, vec_len, Option, Some, None}
use Rattle.count_workers.specs.declared.gauge_ring.taker.Taker.{Taker}
use Rattle.count_workers.specs.declared.gauge_ring.feeder.Feeder.{Feeder}
use Rattle.count_workers.specs.gauge_ring.Ends.{fed, taken, IsSameFeeder, IsSameTaker}
use Rattle.board.specs.block_pool.Units.{FilledValue, CountedValue, IsCountOf}
use Rattle.calibration.specs.declared.limits.TheConstants.{MAX_GAUGES}
use Rattle.count_workers.specs.declared.block_workers.item.Item.{Item}
use Rattle.count_workers.specs.declared.block_workers.item.Back.{Back}
use Rattle.count_workers.specs.declared.block_workers.item.Back.TheVariants.{Unit, Over}
use Rattle.count_workers.specs.declared.block_workers.worker.Worker.{Worker}
use Rattle.count_workers.specs.crew.Lines.{LineValue}
use Rattle.count_workers.specs.block_workers.Dealing.{block_of, round_of}

abbrev pub in_turn : {A : Type 0} → ℕ → (ℕ → List A) → List A
in_turn zero f = []
in_turn (suc n) f = in_turn n f ++ f n

pub data AreCounts : List FilledValue → List CountedValue → Type 0 where
  nil : AreCounts [] []
  one : {f : FilledValue} {c : CountedValue} {fs : List FilledValue} {cs : List CountedValue} → IsCountOf f c →
      AreCounts fs cs
      → AreCounts (f ∷ fs) (c ∷ cs)

abbrev pub back_of : CountedValue → Back
back_of c = Unit c

-- a round of a return ring: its units, and then the mark
abbrev pub return_round : List CountedValue → List Back
return_round cs = map back_of cs ++ Over ∷ []

-- the counts of these units were fed back, in order
pub record GivesCounts (old new : Feeder Back) (fs : List FilledValue) : Type 0 where
  pub units : List CountedValue
  pub counts : AreCounts fs units
  pub fed : fed new ≡ fed old ++ map back_of units
  pub same : IsSameFeeder old new

pub record CanWork (w : Worker) : Type 0 where
  pub takers : vec_len w.takers ≤ MAX_GAUGES

abbrev pub waiting_in : Option LineValue → List FilledValue
waiting_in None = []
waiting_in (Some line) = line.waiting

-- what was handed to its helper and has not come back, the oldest first
abbrev pub waiting_of : Worker → List FilledValue
waiting_of w = waiting_in w.line

abbrev pub IsIdle : Worker → Type 0
IsIdle w = waiting_of w ≡ []

-- some units more were handed over, and of all that were the first ones were counted and fed back
pub record HandsOver (old new : Worker) (units : List FilledValue) : Type 0 where
  pub number : new.number ≡ old.number
  pub takers : new.takers ≡ old.takers
  pub gauge : new.gauge ≡ old.gauge
  pub given : List FilledValue
  pub gave : GivesCounts old.back new.back given
  pub all : waiting_of old ++ units ≡ given ++ waiting_of new

-- Rings before the one that it is at were taken to their marks, and none behind it was begun. What was taken was
-- counted and fed back, but for the last ones, which its helper has.
pub record WorkedSoFar (old now : Worker) : Type 0 where
  pub number : now.number ≡ old.number
  pub takers : vec_len now.takers ≡ vec_len old.takers
  pub ends : (g : ℕ) (d : Taker Item) →
      IsSameTaker (slice_index_or old.takers.items g d) (slice_index_or now.takers.items g d)
  pub blocks : ℕ → List FilledValue
  pub marked : (g : ℕ) (d : Taker Item) → g < now.gauge → taken (slice_index_or now.takers.items g d)
      ≡ taken (slice_index_or old.takers.items g d) ++ round_of (blocks g)
  pub unmarked : (g : ℕ) (d : Taker Item) → now.gauge ≤ g → taken (slice_index_or now.takers.items g d)
      ≡ taken (slice_index_or old.takers.items g d) ++ map block_of (blocks g)
  pub later : (g : ℕ) → now.gauge < g → blocks g ≡ []
  pub within : now.gauge ≤ vec_len old.takers
  pub ended : now.gauge ≡ vec_len old.takers → blocks now.gauge ≡ []
  pub given : List FilledValue
  pub gave : GivesCounts old.back now.back given
  pub all : in_turn now.gauge blocks ++ blocks now.gauge ≡ given ++ waiting_of now

-- what was taken from each ring, ring after ring, was counted and fed back, and then the mark
pub record WorkJob (old new : Worker) : Type 0 where
  pub number : new.number ≡ old.number
  pub takers : vec_len new.takers ≡ vec_len old.takers
  pub ends : (g : ℕ) (d : Taker Item) →
      IsSameTaker (slice_index_or old.takers.items g d) (slice_index_or new.takers.items g d)
  pub blocks : ℕ → List FilledValue
  pub took : (g : ℕ) (d : Taker Item) → g < vec_len old.takers → taken (slice_index_or new.takers.items g d)
      ≡ taken (slice_index_or old.takers.items g d) ++ round_of (blocks g)
  pub units : List CountedValue
  pub counts : AreCounts (in_turn (vec_len old.takers) blocks) units
  pub fed : fed new.back ≡ fed old.back ++ return_round units
  pub same : IsSameFeeder old.back new.back
  pub idle : IsIdle new

-- of whatever beginning
pub record WorksOn (old new : Worker) : Type 0 where
  pub takers : vec_len new.takers ≡ vec_len old.takers
  pub on : (first : Worker) → WorkedSoFar first old → WorkedSoFar first new

pub record EndsWork (old new : Worker) : Type 0 where
  pub to_end : (first : Worker) → WorkedSoFar first old → WorkJob first new

abbrev pub AllBegun : List Worker → List Worker → Type 0
AllBegun olds news = (v : ℕ) (d : _) → v < length olds → WorkedSoFar (slice_index_or olds v d) (slice_index_or news v d)

abbrev pub AllEnd : List Worker → List Worker → Type 0
AllEnd olds news = (v : ℕ) (d : _) → v < length olds → EndsWork (slice_index_or olds v d) (slice_index_or news v d)

abbrev pub AllWorked : List Worker → List Worker → Type 0
AllWorked olds news = (v : ℕ) (d : _) → v < length olds → WorkJob (slice_index_or olds v d) (slice_index_or news v d)
