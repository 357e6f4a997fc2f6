use Rattle.std.proofs.Common.{arith}
use Rattle.simple_counts.proofs.on_level_crossing.Settled.{enough, settled_counts}
use Rattle.simple_counts.proofs.level_crossing.points.fill_slices.Goals as goal

pub returns-clause-counts : goal.returns-clause-counts
returns-clause-counts c = settled_counts _ _ _ _ _ c.args.reference c.args.list.now c.settle.ensures.settled c.count_steps.ensures.counts

pub returns-clause-enough : goal.returns-clause-enough
returns-clause-enough c =
    let e = c.settle.ensures in
    let d = c.count_steps.ensures in
    enough _ _ _ _ _ e.settled (omega (arith, e.begins_length)) (omega (
      arith,
      e.begins_length,
      e.stops_length,
      d.begins_length,
      d.stops_length,
      c.requires.same,
    )) (λ l. omega (arith, d.counts l))
