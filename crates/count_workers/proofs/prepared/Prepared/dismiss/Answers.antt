use Rattle.std.proofs.Common.{◌∙◌}
use Rattle.count_workers.proofs.Hired.{value_written, rests_written}
use Rattle.count_workers.proofs.prepared.Prepared.dismiss.Goals as goal

pub invariant_of-self : goal.invariant_of-self
invariant_of-self h c =
    let own = c.self.inside in
    rests_written own.depot.pool own.depot.board own.readers.items own.workers c.as_mut_slice.result.now c.dismiss_all.new.workers
    c.as_mut_slice.ensures.value c.dismiss_all.ensures own.returns.items c.self.invariant

pub returns : goal.returns
returns h c =
    let own = c.self.inside in
    value_written own.depot.pool own.depot.board own.readers.items own.workers c.as_mut_slice.result.now c.dismiss_all.new.workers
    c.as_mut_slice.ensures.value c.dismiss_all.ensures ∙ c.self.view_is
