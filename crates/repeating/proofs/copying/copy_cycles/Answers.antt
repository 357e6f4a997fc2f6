use Rattle.std.proofs.Common.{◌∙◌, arith}
use Rattle.repeating.proofs.CopiedRows.{copied_all}
use Rattle.repeating.proofs.copying.copy_cycles.Goals as goal

pub returns-clause-cells : goal.returns-clause-cells
returns-clause-cells c =
    let i = c.loop-lo.invariant in
    let l = c.requires.rules.over in
    copied_all c.args.segment.now.grid.classes c.args.segment.now.tally c.loop-lo.tally c.loop-lo.lo
    (omega (
      arith,
      c.classes-lo-end.ensures.classes,
      c.requires.classes,
      c.loop-lo-test.false,
      c.loop-lo.auto.lo-end,
      l.limits.classes_from,
    ))
    c.requires.held l.tally i.counts (i.classes ∙ c.requires.classes) i.copied
