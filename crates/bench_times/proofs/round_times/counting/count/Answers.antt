use Rattle.std.proofs.Common.{rules}
use Rattle.count_workers.proofs.on_round_making.Settled.{can_go_on}
use Rattle.bench_times.proofs.round_times.counting.count.Goals as goal

pub loop-made-preserved : goal.loop-made-preserved
loop-made-preserved g c =
    let on = can_go_on _ _ _ _ _ _ _ c.round.ensures.done (c.loop-made.invariant.long, c.loop-made.invariant.lanes) in
    record { some = search rules; gauges = search (rules, c.round.ensures.done.gauges); long = on.0; lanes = on.1 }
