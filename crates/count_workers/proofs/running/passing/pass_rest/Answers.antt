use Rattle.count_workers.proofs.on_running.Turns.{goes_same, goes_both}
use Rattle.count_workers.proofs.running.passing.pass_rest.Goals as goal

pub loop-init : goal.loop-init
loop-init g c = record { on = goes_same _ _ _ c.requires }

pub pass_on-requires : goal.pass_on-requires
pass_on-requires g c = c.loop.invariant.on.can

pub loop-preserved : goal.loop-preserved
loop-preserved g c = record { on = goes_both _ _ _ _ _ _ _ _ _ c.loop.invariant.on c.pass_on.ensures }
