-- A segment of no samples stands for none.
use Rattle.std.proofs.Common.{ℕ, List, [], ◌∷◌, length, refl, ap, arith, length-append}
use Rattle.lemmas.proofs.Lists.{get_or-zeros}
use Rattle.calibration.specs.Gain.{GainValue}
use Rattle.calibration.specs.Grid.{GridValue}
use Rattle.four_point.specs.Reduction.{IsIrreducible}
use Rattle.simple_counts.specs.level_crossing.Crossings.{no_crossings}
use Rattle.simple_counts.proofs.on_level_crossing.PushJoin.{none_counted}
use Rattle.segment.specs.Segment.{Stands, empty_at}

-- no four points stand in a list of none
no_deletion : IsIrreducible []
no_deletion x m d = absurd (omega (arith, length-append d.before (d.a ∷ d.b ∷ d.c ∷ d.d ∷ d.after), ap (λ (l : List ℕ). length l) d.from))

pub empty_stands : (grid : GridValue) (gauge from longest : ℕ) (gain : GainValue) → Stands (empty_at grid gauge from longest) gain []
empty_stands grid gauge from longest gain = record {
  span = omega arith;
  missing = refl;
  refused = refl;
  history = record {
    used = refl;
    result = record { pairs = []; by = refl; counts = λ lo hi. refl; irreducible = no_deletion };
    crossings = record {
      some = refl;
      first = refl;
      last = refl;
      counts = λ l some few. none_counted
          (no_crossings grid.classes grid.reference) grid.classes grid.reference refl l;
    };
    simple = record { ends = refl; decided = λ k few. get_or-zeros grid.classes k; extremes = λ l few. get_or-zeros grid.classes l };
  };
}
