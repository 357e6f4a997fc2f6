use Rattle.std.proofs.Common.{◌∙◌, ◌+◌, sym, ap}
use Rattle.tally.specs.Counts.{count_of}
use Rattle.tally.specs.Log.{amount}
use Rattle.tally.proofs.LogCells.{count_of-cells_of}
use Rattle.tally.proofs.log.Log.write_row.Goals as goal

pub returns : goal.returns
returns c = λ k h.
    c.put_row.ensures k h ∙ ap (λ l. amount l c.args.lo (c.args.lo + 1 + k)) c.deref.ensures.value
    ∙ sym (count_of-cells_of c.self.inside.entries.items c.args.lo (c.args.lo + 1 + k))
    ∙ ap (λ t. count_of t.cells c.args.lo (c.args.lo + 1 + k)) c.self.view_is
