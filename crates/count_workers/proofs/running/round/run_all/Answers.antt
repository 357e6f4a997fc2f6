use Rattle.std.proofs.Common.{arith}
use Rattle.count_workers.proofs.on_running.Turns.{goes_both}
use Rattle.count_workers.proofs.running.round.run_all.Goals as goal

pub pass_rest-requires : goal.pass_rest-requires
pass_rest-requires g c = c.run_readers.ensures.on.can

pub returns-clause-workers : goal.returns-clause-workers
returns-clause-workers g c = λ v d m. (
    let on = goes_both _ _ _ _ _ _ _ _ _ c.run_readers.ensures.on c.pass_rest.ensures in
    let e = on.long in record {
      to_end = λ first h. (c.end_all.ensures v d (omega (arith, m, e))).to_end first ((on.work v d).on first h);
    })
