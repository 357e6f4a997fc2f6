-- What a `Crossings` takes over in place of its own counts.
--   CanLoadCrossings  ends and counts of boundaries that it can take over
--   loaded_of         the value with them
--   HasEnds           whether there is a level, the first one and the last one
use Rattle.std.specs.Prelude.{◌≡◌, ◌<◌, ◌≤◌, ℕ, ◌+◌, ◌==◌, not, List, All, replicate}
use Rattle.tally.specs.declared.cells.Bin.{Bin}
use Rattle.turning_points.specs.EndPoints.{EndPoints}
use Rattle.tally.specs.tables.Tables.{table_with_bins}
use Rattle.tally.specs.tables.Bins.{AreBinsFrom}
use Rattle.simple_counts.specs.level_crossing.Crossings.{CrossingsValue}
use Rattle.turning_points.specs.declared.ends.TheConstants.{MAX_POINTS}

-- levels below `classes`; the keys are boundaries and ascend, and no count is 0 or above `MAX_POINTS`
pub record CanLoadCrossings (classes : ℕ) (e : EndPoints) (bins : List Bin) : Type 0 where
  pub first : e.first < classes
  pub last : e.last < classes
  pub bins_are : AreBinsFrom 1 classes bins
  pub few : All (λ b. b.n ≤ MAX_POINTS) bins

abbrev pub loaded_of : ℕ → ℕ → EndPoints → List Bin → CrossingsValue
loaded_of classes reference e bins = record {
  classes = classes;
  reference = reference;
  some = not (e.points == 0);
  first = e.first;
  last = e.last;
  begins = table_with_bins 0 (replicate (classes + 1) 0) bins;
  stops = table_with_bins 1 (replicate (classes + 1) 0) bins;
}

abbrev pub HasEnds : CrossingsValue → EndPoints → Type 0
HasEnds v e = (v.some ≡ not (e.points == 0)) × (v.first ≡ e.first) × (v.last ≡ e.last)
