-- A level adds one at most, and one that is left out nothing.
use Rattle.std.proofs.Common.{ap, ◌∙◌, arith}
use Rattle.std.specs.Prelude.{slice_index}
use Rattle.simple_counts.specs.level_crossing.Crossings.{crossing_count}
use Rattle.simple_counts.proofs.on_level_crossing.Once.{joint_crossings_once}
use Rattle.bench_times.proofs.call_times.counts.crossings_of.Goals as goal
use Rattle.bench_times.proofs.call_times.counts.crossings_of.Goals.{then-level-classes, else-level-classes}

pub loop-level-preserved : goal.loop-level-preserved
loop-level-preserved c = elim c.if-level-classes.branch [
  | then-level-classes w ↦ record {
    few = λ b.
        let before = c.loop-level.crossings in
        omega (
          arith,
          ap (λ v. crossing_count v b) w.crossings-is,
          w.push.ensures.counts b,
          joint_crossings_once before.some before.reference b
              before.last (slice_index c.args.levels.now c.loop-level.level-index),
          c.loop-level.invariant.few b,
        );
    classes = ap (λ v. v.classes) w.crossings-is ∙ w.push.ensures.grid.0 ∙ c.loop-level.invariant.classes;
  }
  | else-level-classes w ↦ record {
    few = λ b. omega (arith, ap (λ v. crossing_count v b) w.crossings-is, c.loop-level.invariant.few b);
    classes = ap (λ v. v.classes) w.crossings-is ∙ c.loop-level.invariant.classes;
  }
]
