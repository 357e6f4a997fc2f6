-- A level adds one at most, and one that is left out nothing.
use Rattle.std.proofs.Common.{ap, ◌∙◌, arith}
use Rattle.std.specs.Prelude.{slice_index}
use Rattle.simple_counts.specs.level_crossing.Crossings.{crossing_count}
use Rattle.simple_counts.proofs.on_level_crossing.Once.{joint_crossings_once}
use Rattle.trials_counts.proofs.crossings.counted.Goals as goal
use Rattle.trials_counts.proofs.crossings.counted.Goals.{then-level-classes, else-level-classes}

pub loop-level-preserved : goal.loop-level-preserved
loop-level-preserved c = elim c.if-level-classes.branch [
  | then-level-classes w ↦ record {
    few = λ b.
        let before = c.loop-level.crossings in
        omega (
          arith,
          ap (λ v. crossing_count v b) w.crossings-is,
          w.push.ensures.counts b,
          joint_crossings_once before.some before.reference b
              before.last (slice_index c.args.levels.now c.loop-level.level-index),
          c.loop-level.invariant.few b,
        );
    classes = ap (λ v. v.classes) w.crossings-is ∙ w.push.ensures.grid.0 ∙ c.loop-level.invariant.classes;
    reference = ap (λ v. v.reference) w.crossings-is ∙ w.push.ensures.grid.1 ∙ c.loop-level.invariant.reference;
  }
  | else-level-classes w ↦ record {
    few = λ b. omega (arith, ap (λ v. crossing_count v b) w.crossings-is, c.loop-level.invariant.few b);
    classes = ap (λ v. v.classes) w.crossings-is ∙ c.loop-level.invariant.classes;
    reference = ap (λ v. v.reference) w.crossings-is ∙ c.loop-level.invariant.reference;
  }
]
