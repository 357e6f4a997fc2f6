-- A segment that is only known to stand for samples stands for them.
use Rattle.std.proofs.Common.{ℕ, List, refl}
use Rattle.std.specs.Prelude.{ℤ}
use Rattle.std.proofs.Props.{props}
use mathlib.Core.Logic.{∥∥₁_elim, ∥∥₁_map}
use Rattle.calibration.specs.Gain.{GainValue}
use Rattle.calibration.specs.History.{history}
use Rattle.turning_points.specs.Points.{points}
use Rattle.turning_points.proofs.Levels.{points_own}
use Rattle.tally.specs.Counts.{count_of}
use Rattle.four_point.proofs.Known.{result_known}
use Rattle.segment.specs.Segment.{SegmentValue, StandsFor, Stands}

stands_for_known : (v : SegmentValue) (h : List ℕ) → ∥ StandsFor v h ∥₁ → StandsFor v h
stands_for_known v h known = record {
  used = ∥∥₁_elim known (hlevel props) (λ s. s.used);
  result = result_known (points h) (count_of v.tally.cells) v.reducer.residue (points_own h (points h) refl)
      (∥∥₁_map known (λ s. s.result));
  crossings = ∥∥₁_elim known (hlevel props) (λ s. s.crossings);
  simple = ∥∥₁_elim known (hlevel props) (λ s. s.simple);
}

pub stands_known : (v : SegmentValue) (gain : GainValue) (samples : List ℤ) → ∥ Stands v gain samples ∥₁ → Stands v gain samples
stands_known v gain samples known = record {
  span = ∥∥₁_elim known (hlevel props) (λ s. s.span);
  missing = ∥∥₁_elim known (hlevel props) (λ s. s.missing);
  refused = ∥∥₁_elim known (hlevel props) (λ s. s.refused);
  history = stands_for_known v (history v.grid gain samples) (∥∥₁_map known (λ s. s.history));
}
