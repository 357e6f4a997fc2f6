-- The parts of a segment, without where they lie in memory.
--   PartsValue    the name, the numbers of readings, the ends, the residue and the five lists of counts
--   parts_value   those of `Parts`
use Rattle.std.specs.Prelude.{ℕ, List}
use Rattle.tally.specs.declared.cells.Cell.{Cell}
use Rattle.tally.specs.declared.cells.Bin.{Bin}
use Rattle.turning_points.specs.EndPoints.{EndPoints}
use Rattle.turning_points.specs.Ends.{end_points}
use Rattle.segment.specs.declared.segment_rules.name.Name.{Name}
use Rattle.segment.specs.declared.segment_rules.parts.Parts.{Parts}

pub record PartsValue : Type 0 where
  pub name : Name
  pub used : ℕ
  pub missing : ℕ
  pub refused : ℕ
  pub ends : EndPoints
  pub residue : List ℕ
  pub cells : List Cell
  pub crossings : List Bin
  pub peaks : List Bin
  pub valleys : List Bin
  pub ranges : List Bin

abbrev pub parts_value : Parts → PartsValue
parts_value p = record {
  name = p.name;
  used = p.used;
  missing = p.missing;
  refused = p.refused;
  ends = end_points p.ends;
  residue = p.residue;
  cells = p.cells;
  crossings = p.crossings;
  peaks = p.peaks;
  valleys = p.valleys;
  ranges = p.ranges;
}
