use Rattle.std.proofs.Common.{◌∙◌, ap, arith}
use Rattle.tally.proofs.LogCells.{cells_of-again, log-cells_of}
use Rattle.tally.proofs.log.Log.write.Goals as goal

pub invariant_of-self : goal.invariant_of-self
invariant_of-self c =
    log-cells_of c.gather.new.entries.items _ c.self.invariant c.gather.ensures.cells (omega (arith, c.gather.ensures.capacity))

pub returns-clause-unchanged : goal.returns-clause-unchanged
returns-clause-unchanged c =
    let i = c.self.inside in
    ap (λ l. record { classes = i.classes; room = i.room; cells = l })
    (cells_of-again i.entries.items c.gather.new.entries.items c.gather.ensures.cells)
    ∙ c.self.view_is
