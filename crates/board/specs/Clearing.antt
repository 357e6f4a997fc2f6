-- Windows that are begun anew.
--   IsCleared             a place is empty, at the start, or was empty and stays where it was
--   AllEmptied            each place is, and the first at the start
--   RowBegun, RowsBegun   a gauge has its window, and each gauge has
--   IsVacant              a place without samples
--   IsFresh               the row of a gauge of which nothing is placed
use Rattle.std.specs.Prelude.{◌≡◌, ◌⊎◌, ◌<◌, ◌≤◌, ℕ, List, length, slice_index_or}
use Rattle.calibration.specs.Grid.{GridValue}
use Rattle.segment.specs.Segment.{SegmentValue, empty_at}
use Rattle.board.specs.Board.{Row, IsSlot}
use Rattle.board.specs.declared.flow.TheConstants.{BLOCKS_PER_WINDOW}

abbrev pub empty_like : ℕ → ℕ → SegmentValue → SegmentValue
empty_like gauge start s = empty_at s.grid gauge start s.longest

abbrev pub IsCleared : ℕ → ℕ → SegmentValue → SegmentValue → Type 0
IsCleared gauge start old new = (new ≡ empty_like gauge start old) ⊎ ((new ≡ old) × (old.to ≤ old.from))

pub record AllEmptied (gauge start : ℕ) (old new : List SegmentValue) : Type 0 where
  pub long : length new ≡ length old
  pub first : (d : SegmentValue) → 0 < length old →
      slice_index_or new 0 d ≡ empty_like gauge start (slice_index_or old 0 d)
  pub each : (k : ℕ) (d : SegmentValue) → k < length old →
      IsCleared gauge start (slice_index_or old k d) (slice_index_or new k d)

pub record RowBegun (gauge start : ℕ) (old new : Row) : Type 0 where
  pub from : new.start ≡ start
  pub slots : AllEmptied gauge start old.slots new.slots

pub record RowsBegun (starts : List ℕ) (old new : List Row) : Type 0 where
  pub long : length new ≡ length old
  pub row : (g : ℕ) (d : Row) → g < length old →
      RowBegun g (slice_index_or starts g 0) (slice_index_or old g d) (slice_index_or new g d)

pub record IsVacant (block : ℕ) (grid : GridValue) (gauge : ℕ) (s : SegmentValue) : Type 0 where
  pub slot : IsSlot block grid gauge s
  pub none : s.to ≤ s.from

pub record IsFresh (block : ℕ) (grid : GridValue) (gauge start : ℕ) (r : Row) : Type 0 where
  pub from : r.start ≡ start
  pub long : length r.slots ≡ BLOCKS_PER_WINDOW
  pub first : (d : SegmentValue) → (slice_index_or r.slots 0 d).from ≡ start
  pub each : (k : ℕ) (d : SegmentValue) → k < BLOCKS_PER_WINDOW → IsVacant block grid gauge (slice_index_or r.slots k d)
