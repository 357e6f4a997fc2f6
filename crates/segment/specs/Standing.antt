-- What the parts of a segment stand for.
--   PartsStand   parts over a grid stand for samples under a gain: a segment that keeps the rules and has these parts
--                does exactly then
use Rattle.std.specs.Prelude.{◌≡◌, ◌+◌, ◌<◌, ◌≤◌, ℕ, ℤ, List, length}
use Rattle.calibration.specs.Gain.{GainValue}
use Rattle.calibration.specs.Grid.{GridValue}
use Rattle.calibration.specs.History.{history, missing_count, refused_count}
use Rattle.turning_points.specs.Points.{points}
use Rattle.turning_points.specs.EndPoints.{ends_of}
use Rattle.tally.specs.Counts.{count_of}
use Rattle.tally.specs.tables.Bins.{count_at}
use Rattle.four_point.specs.Reduction.{IsFourPointResult}
use Rattle.simple_counts.specs.level_crossing.Crossings.{crossings}
use Rattle.simple_counts.specs.Simple.{peaks_at, ranges_at, valleys_at}
use Rattle.segment.specs.segment_rules.Parts.{PartsValue}

pub record PartsStand (grid : GridValue) (gain : GainValue) (p : PartsValue) (samples : List ℤ) : Type 0 where
  pub span : p.name.to ≡ p.name.from + length samples
  pub used : p.used ≡ length (history grid gain samples)
  pub missing : p.missing ≡ missing_count grid gain samples
  pub refused : p.refused ≡ refused_count grid gain samples
  pub ends : p.ends ≡ ends_of (points (history grid gain samples))
  pub result : IsFourPointResult (points (history grid gain samples)) (count_of p.cells) p.residue
  pub crossings_are : (l : ℕ) → 1 ≤ l → l < grid.classes →
      count_at l p.crossings ≡ crossings grid.reference l (history grid gain samples)
  pub peaks_are : (l : ℕ) → l < grid.classes →
      count_at l p.peaks ≡ peaks_at grid.reference l (points (history grid gain samples))
  pub valleys_are : (l : ℕ) → l < grid.classes →
      count_at l p.valleys ≡ valleys_at grid.reference l (points (history grid gain samples))
  pub ranges_are : (k : ℕ) → k < grid.classes → count_at k p.ranges ≡ ranges_at k (points (history grid gain samples))
