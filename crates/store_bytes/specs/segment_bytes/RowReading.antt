-- Rows read straight into cells, and their order tested on the way.
--   FoundRows        what rows have come to: their cells, the least lower level of the next, and the place of the first
--                    row, or cell in a row, that breaks the order
--   with_row         with one row more; with_rows: with more rows
--   rows_at          rows are read, as their cells and the first wrong place
--   parts_of_rows    as `parts_in` answers, for layout two
use Rattle.std.specs.Prelude.{◌+◌, ◌++◌, ◌&&◌, nat_lt, nat_le, if◌then◌else◌, ℕ, List, [], length, Option, Some, None, Result}
use Rattle.std.specs.Int.{w16}
use Rattle.tally.specs.declared.cells.Cell.{Cell}
use Rattle.calibration.specs.Grid.{GridValue}
use Rattle.segment.specs.segment_rules.Parts.{PartsValue}
use Rattle.segment.specs.segment_rules.Tests.{wrong_bin, order_broken}
use Rattle.store_bytes.specs.declared.segment_bytes.fault.BytesFault.{BytesFault}
use Rattle.std.specs.Option.{option_or}
use Rattle.store_bytes.specs.segment_bytes.Rows.{RowValue, row_cells, cells_of_rows, wrong_row}
use Rattle.store_bytes.specs.segment_bytes.Fields.{◌>>=◌, Reader, seen_as, list_at}
use Rattle.store_bytes.specs.segment_bytes.Grammar.{Body, parts_of_body, row_at}
use Rattle.store_bytes.specs.segment_bytes.Decoding.{all_of, or_fault}

pub record FoundRows : Type 0 where
  pub cells : List Cell
  pub from : ℕ
  pub wrong : Option ℕ

-- before the first row
abbrev pub no_rows : FoundRows
no_rows = record { cells = []; from = 0; wrong = None }

-- as `wrong_row` tells, of one row
abbrev pub wrong_in : ℕ → ℕ → ℕ → RowValue → Option ℕ
wrong_in from classes index r =
    if nat_le from r.lo && nat_lt 0 (length r.bins) then wrong_bin (r.lo + 1) classes index r.bins else Some index

abbrev pub with_row : ℕ → FoundRows → RowValue → FoundRows
with_row classes found r = record {
  cells = found.cells ++ row_cells r;
  from = r.lo + 1;
  wrong = option_or found.wrong (wrong_in found.from classes (length found.cells) r);
}

abbrev pub with_rows : ℕ → FoundRows → List RowValue → List Cell × Option ℕ
with_rows classes found rows =
    (found.cells ++ cells_of_rows rows, option_or found.wrong (wrong_row found.from classes (length found.cells) rows))

abbrev pub rows_at : ℕ → Reader (List Cell × Option ℕ)
rows_at classes = seen_as (with_rows classes no_rows) (list_at w16 row_at)

abbrev pub cells_alone : Body (List Cell × Option ℕ) → Body (List Cell)
cells_alone x = (x.0, (x.1.0, (x.1.1.0.0, x.1.1.1)))

unfoldable pub parts_of_rows : GridValue → List ℕ → Result PartsValue BytesFault
parts_of_rows g bytes =
    all_of (rows_at g.classes) bytes >>= λ x. or_fault (order_broken 0 x.1.1.0.1) (parts_of_body (cells_alone x))
