-- The rules that the parts of a segment keep.
--   AreCells         cells over so many classes that ascend strictly and count something
--   IsOrdered        so do all five lists, within their keys
--   SumsAgree        the sum rules: the numbers agree with each other
--   HasEndsBeside    ends of two or more points, over the first two and the last two levels of the residue
--   EndsAgree        the residue rules on the length and the ends
--   AreSegmentParts  all rules
use Rattle.std.specs.Prelude.{◌≡◌, ◌<◌, ◌≤◌, ◌+◌, ◌-◌, ◌*◌, ℕ, List, All, length, slice_index}
use Rattle.tally.specs.declared.cells.Cell.{Cell}
use Rattle.tally.specs.Counts.{IsAscending, IsCell, total_of}
use Rattle.tally.specs.tables.Bins.{AreBinsFrom, sum_of}
use Rattle.turning_points.specs.EndPoints.{EndPoints, no_ends, only_point}
use Rattle.turning_points.specs.Points.{IsTurn}
use Rattle.four_point.specs.Residue.{IsResidue}
use Rattle.simple_counts.specs.Loading.{CountsEnds}
use Rattle.calibration.specs.Grid.{GridValue}
use Rattle.calibration.specs.declared.limits.TheConstants.{MAX_SAMPLES}
use Rattle.segment.specs.segment_rules.Parts.{PartsValue}

pub record AreCells (classes : ℕ) (cells : List Cell) : Type 0 where
  pub each : All (IsCell classes) cells
  pub ascending : IsAscending cells

-- the order rule: entries ascend strictly, and none counts nothing. Boundaries and ranges lie from 1 on, peaks from the
-- reference on, and valleys below it
pub record IsOrdered (g : GridValue) (p : PartsValue) : Type 0 where
  pub cells : AreCells g.classes p.cells
  pub crossings : AreBinsFrom 1 g.classes p.crossings
  pub peaks : AreBinsFrom g.reference g.classes p.peaks
  pub valleys : AreBinsFrom 0 g.reference p.valleys
  pub ranges : AreBinsFrom 1 g.classes p.ranges

-- the sum rules, in their order
pub record SumsAgree (p : PartsValue) : Type 0 where
  -- 1: the name ends at or after its begin, within the samples of a recording
  pub span : (p.name.from ≤ p.name.to) × (p.name.to ≤ MAX_SAMPLES)
  -- 2: each sample was used, missing or refused
  pub readings : p.name.from + (p.used + p.missing + p.refused) ≡ p.name.to
  -- 3: no more points than levels, and none only where there is no level
  pub points : p.ends.points ≤ p.used
  pub no_points : p.ends.points ≡ 0 → p.used ≡ 0
  -- 4: a cycle takes two points, and the others are the residue
  pub cycles : 2 * total_of p.cells + length p.residue ≡ p.ends.points
  -- 5: between two levels a boundary is crossed once at most
  pub crossings : All (λ b. b.n < p.used) p.crossings
  -- 6: peaks and valleys are inner points
  pub extremes : sum_of p.peaks + sum_of p.valleys ≤ p.ends.points - 2
  -- 7: a range lies between two neighbouring points
  pub ranges : sum_of p.ranges ≡ p.ends.points - 1
  -- 8: the first range and the last are counted
  pub end_ranges : 2 ≤ p.ends.points → CountsEnds p.ends p.ranges

-- ends of two or more points, where first, second, before and last are the first two and the last two levels of the
-- residue: the outer ones are the ends, and the inner ones lie on the same side of them
pub record HasEndsBeside (classes : ℕ) (e : EndPoints) (first second before last : ℕ) : Type 0 where
  pub first_is : e.first ≡ first
  pub last_is : e.last ≡ last
  pub second_side : IsTurn e.second first second
  pub before_side : IsTurn e.before last before
  pub second_below : e.second < classes
  pub before_below : e.before < classes
  pub two : e.points ≡ 2 → (e.second ≡ second) × (e.before ≡ before)
  pub three : e.points ≡ 3 → (e.second ≡ second) × (e.before ≡ second)

pub record EndsAgree (classes : ℕ) (e : EndPoints) (r : List ℕ) : Type 0 where
  pub short : e.points ≤ 3 → length r ≡ e.points
  pub long : 4 ≤ e.points → 2 ≤ length r
  pub none : e.points ≡ 0 → e ≡ no_ends
  pub one : e.points ≡ 1 → e ≡ only_point (slice_index r 0)
  pub more : 2 ≤ e.points → HasEndsBeside classes e (slice_index r 0) (slice_index r 1) (slice_index r (length r - 2))
      (slice_index r (length r - 1))

pub record AreSegmentParts (g : GridValue) (p : PartsValue) : Type 0 where
  pub ordered : IsOrdered g p
  pub summed : SumsAgree p
  pub residue : IsResidue g.classes p.residue
  pub ended : EndsAgree g.classes p.ends p.residue
