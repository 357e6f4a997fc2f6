-- A segment by its parts, as lists.
--   bins_from   of so many keys from one on, those that count something
--   parts_of    the parts of a segment
use Rattle.std.specs.Prelude.{◌+◌, ◌-◌, ◌==◌, ℕ, zero, suc, if◌then◌else◌, List, [], ◌∷◌}
use Rattle.tally.specs.declared.cells.Bin.{Bin}
use Rattle.simple_counts.specs.level_crossing.Crossings.{crossing_count}
use Rattle.simple_counts.specs.Simple.{peak_count, range_count, valley_count}
use Rattle.segment.specs.segment_rules.Parts.{PartsValue}
use Rattle.segment.specs.Segment.{SegmentValue}

abbrev pub bins_from : (ℕ → ℕ) → ℕ → ℕ → List Bin
bins_from count key zero = []
bins_from count key (suc keys) = if count key == 0 then bins_from count (key + 1) keys
    else record { key = key; n = count key } ∷ bins_from count (key + 1) keys

abbrev pub parts_of : SegmentValue → PartsValue
parts_of v = record {
  name = record { gauge = v.gauge; from = v.from; to = v.to };
  used = v.used;
  missing = v.missing;
  refused = v.refused;
  ends = v.simple.ends;
  residue = v.reducer.residue;
  cells = v.tally.cells;
  crossings = bins_from (crossing_count v.crossings) 1 (v.grid.classes - 1);
  peaks = bins_from (peak_count v.simple) v.grid.reference (v.grid.classes - v.grid.reference);
  valleys = bins_from (valley_count v.simple) 0 v.grid.reference;
  ranges = bins_from (range_count v.simple) 1 (v.grid.classes - 1);
}
