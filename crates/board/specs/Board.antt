-- What contracts see of the board.
--   Row, BoardValue   the intervals of a gauge, and the board
--   spans             how many of the segments name a sample
--   IsSlot, IsRow     what holds of a place, and of the places of a gauge
--   IsBlockOf, Fits   a name is a block of a window, and of a board's
--   StandsIn          a segment stands for the samples that its name names
--   CarriesSamples    each place of a board does, of these samples
--   SameBoard         the same windows
--   IsBoard           what holds of every board
--   IsBegun, IsFront  nothing is placed; the front of a gauge
use Rattle.std.specs.Prelude.{◌≡◌, ◌+◌, ◌*◌, ◌<◌, ◌≤◌, ℕ, ℤ, List, [], ◌∷◌, length, slice_index_or, slice_range}
use Rattle.calibration.specs.declared.limits.TheConstants.{MAX_SAMPLES}
use Rattle.calibration.specs.Gain.{GainValue}
use Rattle.calibration.specs.Grid.{GridValue}
use Rattle.segment.specs.declared.segment_rules.name.Name.{Name}
use Rattle.segment.specs.Segment.{SegmentValue, Stands}
use Rattle.board.specs.declared.block_pool.TheConstants.{MAX_BLOCK}
use Rattle.board.specs.declared.TheConstants.{MAX_GAUGES}
use Rattle.board.specs.declared.flow.TheConstants.{BLOCKS_PER_WINDOW}
use Rattle.board.specs.flow.Flow.{hits}
use Rattle.board.specs.flow.Kept.{between, over}

-- the intervals of a gauge: the one that begins at the k-th block of the window stands at place k, and an empty segment
-- where none does
pub record Row : Type 0 where
  pub start : ℕ
  pub slots : List SegmentValue

pub record BoardValue : Type 0 where
  pub grid : GridValue
  pub block : ℕ
  pub rows : List Row
  pub arrivals : List Name

abbrev pub spans : ℕ → List SegmentValue → ℕ
spans i [] = 0
spans i (s ∷ l) = between s.from s.to i + spans i l

-- a segment of the gauge that may come to as many samples as a window has; without samples it has no counts
pub record IsSlot (block : ℕ) (kind : GridValue) (number : ℕ) (s : SegmentValue) : Type 0 where
  pub gauge : s.gauge ≡ number
  pub grid : s.grid ≡ kind
  pub longest : s.longest ≡ BLOCKS_PER_WINDOW * block
  pub ordered : s.from ≤ s.to
  pub vacant : s.to ≤ s.from → (gain : GainValue) → Stands s gain []

pub record IsRow (block : ℕ) (grid : GridValue) (gauge : ℕ) (r : Row) : Type 0 where
  pub long : length r.slots ≡ BLOCKS_PER_WINDOW
  pub each : (k : ℕ) (d : SegmentValue) → k < BLOCKS_PER_WINDOW → IsSlot block grid gauge (slice_index_or r.slots k d)
  pub first : (d : SegmentValue) → (slice_index_or r.slots 0 d).from ≡ r.start
  -- an interval begins with its block, within the window
  pub shape : (k : ℕ) (d : SegmentValue) → k < BLOCKS_PER_WINDOW →
      (slice_index_or r.slots k d).from < (slice_index_or r.slots k d).to →
      ((slice_index_or r.slots k d).from ≡ r.start + k * block)
      × ((slice_index_or r.slots k d).to ≤ r.start + BLOCKS_PER_WINDOW * block)
  -- and two of them do not touch
  pub apart : (j k : ℕ) (d : SegmentValue) → j < k → k < BLOCKS_PER_WINDOW →
      (slice_index_or r.slots j d).from < (slice_index_or r.slots j d).to →
      (slice_index_or r.slots k d).from < (slice_index_or r.slots k d).to →
      (slice_index_or r.slots j d).to < (slice_index_or r.slots k d).from

-- a block of a window that begins at `start`
pub record IsBlockOf (block gauges : ℕ) (start : ℕ) (n : Name) : Type 0 where
  pub known : n.gauge < gauges
  pub some : n.from < n.to
  pub short : n.to ≤ n.from + block
  pub number : ℕ
  pub at : n.from ≡ start + number * block
  pub window : n.to ≤ start + BLOCKS_PER_WINDOW * block

abbrev pub start_of : BoardValue → ℕ → ℕ
start_of b g = (slice_index_or b.rows g (record { start = 0; slots = [] })).start

abbrev pub Fits : BoardValue → Name → Type 0
Fits b n = IsBlockOf b.block (length b.rows) (start_of b n.gauge) n

abbrev pub StandsIn : SegmentValue → GainValue → List ℤ → Type 0
StandsIn s gain w = Stands s gain (slice_range w s.from s.to)

-- A place without an interval has an empty segment, which stands for no samples.
abbrev pub CarriesSamples : BoardValue → (ℕ → GainValue) → (ℕ → List ℤ) → Type 0
CarriesSamples b gain w = (g k : ℕ) (r : Row) (d : SegmentValue) → g < length b.rows → k < BLOCKS_PER_WINDOW →
    StandsIn (slice_index_or (slice_index_or b.rows g r).slots k d) (gain g) (w g)

-- the same windows, block and grid
pub record SameBoard (old new : BoardValue) : Type 0 where
  pub grid : new.grid ≡ old.grid
  pub block : new.block ≡ old.block
  pub gauges : length new.rows ≡ length old.rows
  pub starts : (g : ℕ) → start_of new g ≡ start_of old g

-- how many names were placed, counted by the first samples of the blocks of each window
abbrev pub blocks_placed : BoardValue → ℕ
blocks_placed b = over (length b.rows) (λ g.
    over BLOCKS_PER_WINDOW (λ k. hits g (start_of b g + k * b.block) b.arrivals))

-- Its intervals are the greatest runs of placed names without a gap, and have each placed sample once.
pub record IsBoard (b : BoardValue) : Type 0 where
  pub block : (1 ≤ b.block) × (b.block ≤ MAX_BLOCK)
  pub gauges : length b.rows ≤ MAX_GAUGES
  pub starts : (g : ℕ) (d : Row) → g < length b.rows → (slice_index_or b.rows g d).start ≤ MAX_SAMPLES
  pub rows : (g : ℕ) (d : Row) → g < length b.rows → IsRow b.block b.grid g (slice_index_or b.rows g d)
  pub intervals : (g i : ℕ) (d : Row) → g < length b.rows →
      spans i (slice_index_or b.rows g d).slots ≡ hits g i b.arrivals
  pub count : length b.arrivals ≡ blocks_placed b

-- nothing is placed, and each gauge has its window
pub record IsBegun (b : BoardValue) (starts : ℕ → ℕ) : Type 0 where
  pub arrivals : b.arrivals ≡ []
  pub windows : (g : ℕ) → g < length b.rows → start_of b g ≡ starts g
  pub carries : (gain : ℕ → GainValue) (w : ℕ → List ℤ) → CarriesSamples b gain w

-- from the window's start as far as what was placed goes on without a gap
pub record IsFront (b : BoardValue) (g : ℕ) (s : SegmentValue) : Type 0 where
  pub gauge : s.gauge ≡ g
  pub grid : s.grid ≡ b.grid
  pub from : s.from ≡ start_of b g
  pub ordered : s.from ≤ s.to
  pub covered : (i : ℕ) → s.from ≤ i → i < s.to → 1 ≤ hits g i b.arrivals
  pub greatest : hits g s.to b.arrivals ≡ 0
  pub stands : (gain : ℕ → GainValue) (w : ℕ → List ℤ) → CarriesSamples b gain w → StandsIn s (gain g) (w g)
