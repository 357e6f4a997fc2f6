use Rattle.std.proofs.Common.{◌∙◌, sym, ap}
use Rattle.tally.specs.Counts.{total_of}
use Rattle.tally.proofs.LogCells.{counts_log, total_of-cells_of}
use Rattle.tally.proofs.log.Log.total.Goals as goal

pub returns-clause-total : goal.returns-clause-total
returns-clause-total c =
    c.self.invariant.summed ∙ sym (total_of-cells_of c.self.inside.entries.items) ∙ ap (λ t. total_of t.cells) c.self.view_is

pub returns-clause-counts : goal.returns-clause-counts
returns-clause-counts c = rw (← c.self.view_is) (counts_log c.self.invariant)
