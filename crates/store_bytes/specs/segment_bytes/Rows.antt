-- Cells in rows, as layout two has them.
--   RowValue       the cells of one lower level: a count for each upper level
--   rows_of        the rows of a list of cells
--   cells_of_rows  the cells of rows
--   AreRowsFrom    rows that ascend strictly from a level on, none empty, and the cells of each ascend
--   wrong_row      the place of the first cell, or row, that breaks this
use Rattle.std.specs.Prelude.{◌+◌, ◌<◌, ◌≤◌, ◌==◌, ◌&&◌, nat_lt, nat_le, if◌then◌else◌, ℕ, List, [], ◌∷◌, ◌++◌, map, length, Option, Some, None}
use Rattle.std.specs.Option.{option_or}
use Rattle.tally.specs.declared.cells.Cell.{Cell}
use Rattle.tally.specs.declared.cells.Bin.{Bin}
use Rattle.tally.specs.tables.Bins.{AreBinsFrom}
use Rattle.segment.specs.segment_rules.Tests.{wrong_bin}

pub record RowValue : Type 0 where
  pub lo : ℕ
  pub bins : List Bin

abbrev pub cell_in : ℕ → Bin → Cell
cell_in lo b = record { lo = lo; hi = b.key; n = b.n }

abbrev pub row_cells : RowValue → List Cell
row_cells r = map (cell_in r.lo) r.bins

abbrev pub cells_of_rows : List RowValue → List Cell
cells_of_rows [] = []
cells_of_rows (r ∷ rs) = row_cells r ++ cells_of_rows rs

abbrev pub bin_of : Cell → Bin
bin_of c = record { key = c.hi; n = c.n }

-- a cell before rows: it joins the first one, or begins one
abbrev pub before_rows : Cell → List RowValue → List RowValue
before_rows c [] = record { lo = c.lo; bins = bin_of c ∷ [] } ∷ []
before_rows c (r ∷ rs) = if c.lo == r.lo then record { lo = r.lo; bins = bin_of c ∷ r.bins } ∷ rs else record
    { lo = c.lo; bins = bin_of c ∷ [] } ∷ r ∷ rs

abbrev pub rows_of : List Cell → List RowValue
rows_of [] = []
rows_of (c ∷ cs) = before_rows c (rows_of cs)

abbrev pub AreRowsFrom : ℕ → ℕ → List RowValue → Type 0
AreRowsFrom from classes [] = Unit {0}
AreRowsFrom from classes (r ∷ rs) =
    (from ≤ r.lo) × (0 < length r.bins) × AreBinsFrom (r.lo + 1) classes r.bins × AreRowsFrom
    (r.lo + 1) classes rs

-- by the number of cells before it, from `index` on
abbrev pub wrong_row : ℕ → ℕ → ℕ → List RowValue → Option ℕ
wrong_row from classes index [] = None
wrong_row from classes index (r ∷ rs) =
    if nat_le from r.lo && nat_lt 0 (length r.bins)
    then option_or (wrong_bin (r.lo + 1) classes index r.bins) (wrong_row (r.lo + 1) classes (index + length r.bins) rs)
    else Some index
