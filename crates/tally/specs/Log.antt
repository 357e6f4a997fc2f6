-- How the counts lie in a log: entries in the order in which they were counted, any number of them
-- for one pair. Contracts see the ascending list of cells that they come to.
--   with_more    a cell with more in it
--   with_cell    an ascending list with one cell more, or with its count added to the cell of its pair
--   cells_of     the ascending list that entries come to
--   amount       what entries hold of a pair
--   first_with   the first cell at or after a pair, with one entry more
--   rank         a number for each pair, in the order of the cells
--   IsLog        what the fields of a log keep
use Rattle.std.specs.Prelude.{◌≡◌, ℕ, ◌+◌, ◌*◌, ◌<◌, ◌≤◌, if◌then◌else◌, List, [], ◌∷◌, All, Option, Some, None, length, sum_by}
use Rattle.turning_points.specs.Pairs.{is_pair}
use Rattle.tally.specs.declared.cells.Cell.{Cell}
use Rattle.calibration.specs.declared.grid.TheConstants.{MIN_CLASSES, MAX_CLASSES}
use Rattle.tally.specs.declared.cells.TheConstants.{MAX_TOTAL}
use Rattle.tally.specs.Counts.{IsCell, is_from, pair_of, most_cells, total_of}

abbrev pub with_more : Cell → ℕ → Cell
with_more c n = record { lo = c.lo; hi = c.hi; n = c.n + n }

abbrev pub with_cell : Cell → List Cell → List Cell
with_cell x [] = x ∷ []
with_cell x (c ∷ cells) =
    if is_pair x.lo x.hi (pair_of c) then with_more c x.n ∷ cells
    else (if is_from x.lo x.hi c then x ∷ c ∷ cells else c ∷ with_cell x cells)

abbrev pub cells_of : List Cell → List Cell
cells_of [] = []
cells_of (x ∷ entries) = with_cell x (cells_of entries)

abbrev pub amount : List Cell → ℕ → ℕ → ℕ
amount entries lo hi = sum_by (λ c. if is_pair lo hi (pair_of c) then c.n else 0) entries

-- x with what was found before it
abbrev pub first_of : Cell → Option Cell → Option Cell
first_of x None = Some x
first_of x (Some c) = if is_pair x.lo x.hi (pair_of c) then Some (with_more c x.n) else
    (if is_from x.lo x.hi c then Some x else Some c)

abbrev pub first_with : ℕ → ℕ → Cell → Option Cell → Option Cell
first_with lo hi x found = if is_from lo hi x then first_of x found else found

-- a number for each pair, in the order of the cells
abbrev pub rank : Cell → ℕ
rank c = c.lo * 65536 + c.hi

pub record IsLog (classes room total : ℕ) (entries : List Cell) (capacity : ℕ) : Type 0 where
  pub few : MIN_CLASSES ≤ classes
  pub many : classes ≤ MAX_CLASSES
  pub most : room ≤ most_cells classes
  pub reserved : room < capacity
  pub held : length (cells_of entries) ≤ room
  pub each : All (IsCell classes) entries
  pub summed : total ≡ total_of entries
  pub limit : total ≤ MAX_TOTAL
