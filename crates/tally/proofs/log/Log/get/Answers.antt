use Rattle.std.proofs.Common.{◌∙◌, sym, ap}
use Rattle.tally.specs.Counts.{count_of}
use Rattle.tally.specs.Log.{amount}
use Rattle.tally.proofs.LogCells.{count_of-cells_of}
use Rattle.tally.proofs.log.Log.get.Goals as goal

pub returns : goal.returns
returns c =
    c.amount_in.ensures ∙ ap (λ l. amount l c.args.lo c.args.hi) c.deref.ensures.value
    ∙ sym (count_of-cells_of c.self.inside.entries.items c.args.lo c.args.hi)
    ∙ ap (λ t. count_of t.cells c.args.lo c.args.hi) c.self.view_is
