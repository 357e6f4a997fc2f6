-- Writing into a buffer from its front on.
--   Puts        bytes stand at a place of the buffer, and the front before it is as it was
--   bins_of     the counts of a list that are not 0, with their keys from one on
--   cells_after the cells of a list from a pair on
--   row_bins    the cells of a lower level, as bins; row_of: as a row
--   Table       the tables of a segment that a body has as bins: their counts, their first key and how many keys they
--               have
use Rattle.std.specs.Prelude.{◌≡◌, ◌+◌, ◌-◌, ◌++◌, ◌==◌, if◌then◌else◌, ℕ, List, [], ◌∷◌, length, take}
use Rattle.tally.specs.declared.cells.Cell.{Cell}
use Rattle.tally.specs.declared.cells.Bin.{Bin}
use Rattle.tally.specs.Counts.{count_of, is_from}
use Rattle.calibration.specs.Grid.{GridValue}
use Rattle.simple_counts.specs.level_crossing.Crossings.{crossing_count}
use Rattle.simple_counts.specs.Simple.{peak_count, range_count, valley_count}
use Rattle.segment.specs.segment_rules.Parts.{PartsValue}
use Rattle.segment.specs.Segment.{SegmentValue}
use Rattle.segment.specs.Parts.{bins_from}
use Rattle.store_bytes.specs.segment_bytes.Rows.{RowValue}
use Rattle.store_bytes.specs.declared.segment_bytes.bin_lists.Table.{Table}
use Rattle.store_bytes.specs.declared.segment_bytes.bin_lists.Table.TheVariants.{Crossings, Peaks, Valleys, Ranges}

-- and the next place is told
pub record Puts (at : ℕ) (bytes old new : List ℕ) (next : ℕ) : Type 0 where
  pub next_is : next ≡ at + length bytes
  pub front : take next new ≡ take at old ++ bytes

abbrev pub bins_of : ℕ → List ℕ → List Bin
bins_of key [] = []
bins_of key (n ∷ ns) = if n == 0 then bins_of (key + 1) ns else record { key = key; n = n } ∷ bins_of (key + 1) ns

abbrev pub cells_after : ℕ → ℕ → List Cell → List Cell
cells_after lo hi [] = []
cells_after lo hi (c ∷ cs) = if is_from lo hi c then c ∷ cs else cells_after lo hi cs

-- the cells of a lower level, as bins
abbrev pub row_bins : SegmentValue → ℕ → List Bin
row_bins v lo = bins_from (count_of v.tally.cells lo) (lo + 1) (v.grid.classes - 1 - lo)

-- a row, if it has a cell
abbrev pub row_of : ℕ → List Bin → List RowValue
row_of lo [] = []
row_of lo (b ∷ bins) = record { lo = lo; bins = b ∷ bins } ∷ []

abbrev pub table_count : SegmentValue → Table → ℕ → ℕ
table_count v Crossings k = crossing_count v.crossings k
table_count v Peaks k = peak_count v.simple k
table_count v Valleys k = valley_count v.simple k
table_count v Ranges k = range_count v.simple k

abbrev pub first_key : GridValue → Table → ℕ
first_key g Crossings = 1
first_key g Peaks = g.reference
first_key g Valleys = 0
first_key g Ranges = 1

abbrev pub keys : GridValue → Table → ℕ
keys g Crossings = g.classes - 1
keys g Peaks = g.classes - g.reference
keys g Valleys = g.reference
keys g Ranges = g.classes - 1

abbrev pub bins_in : PartsValue → Table → List Bin
bins_in p Crossings = p.crossings
bins_in p Peaks = p.peaks
bins_in p Valleys = p.valleys
bins_in p Ranges = p.ranges
