-- What is read in parts, as values.
use Rattle.std.specs.Prelude.{ℕ, List, Option}
use Rattle.tally.specs.declared.cells.Cell.{Cell}
use Rattle.tally.specs.declared.cells.Bin.{Bin}
use Rattle.segment.specs.declared.segment_rules.parts.Parts.{Parts}
use Rattle.segment.specs.segment_rules.Parts.{parts_value}
use Rattle.store_bytes.specs.declared.segment_bytes.numbers.NameAndCounts as numbers
use Rattle.store_bytes.specs.declared.segment_bytes.entries.Four.{Four}
use Rattle.store_bytes.specs.declared.segment_bytes.entries.Lists.{Lists}
use Rattle.store_bytes.specs.declared.segment_bytes.entries.RowLists.{RowLists}
use Rattle.store_bytes.specs.declared.segment_bytes.reading.RowParts.{RowParts}
use Rattle.store_bytes.specs.declared.segment_bytes.row_reading.Rows.{Rows}
use Rattle.store_bytes.specs.segment_bytes.RowReading.{FoundRows}
use Rattle.store_bytes.specs.segment_bytes.Grammar.{NameAndCounts, Back, Body, with_list0}

abbrev pub name_and_counts : numbers.NameAndCounts → NameAndCounts
name_and_counts x = (x.gauge, (x.from, (x.to, (x.used, (x.missing, x.refused)))))

abbrev pub see_rows : Rows → FoundRows
see_rows r = record { cells = r.cells.items; from = r.from; wrong = r.wrong }

abbrev pub four : Four → List Bin × (List Bin × (List Bin × List Bin))
four x = (x.crossings.items, (x.peaks.items, (x.valleys.items, x.ranges.items)))

abbrev pub lists : Lists → Back (List Cell)
lists x = (x.residue.items, (x.cells.items, four x.four))

abbrev pub row_lists : RowLists → Back (List Cell × Option ℕ)
row_lists x = (x.residue.items, ((x.rows.cells.items, x.rows.wrong), four x.four))

abbrev pub cells_body : Parts → Body (List Cell)
cells_body p = with_list0 p.cells (parts_value p)

abbrev pub rows_body : RowParts → Body (List Cell × Option ℕ)
rows_body x = with_list0 (x.parts.cells, x.wrong) (parts_value x.parts)
