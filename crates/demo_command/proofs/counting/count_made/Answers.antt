use Rattle.std.proofs.Common.{◌∙◌, arith}
use Rattle.demo_command.proofs.Rounds.{counted_starts, can_join_all, counted_more, counted_all}
use Rattle.demo_command.proofs.counting.count_made.Goals as goal

pub loop-init : goal.loop-init
loop-init g c =
    let new = c.in_ok-prepared.ensures in
    counted_starts c.args.seed c.args.samples c.in_ok-prepared.prepared c.made_lanes-lanes.result c.in_ok-totals.totals new.gauges new.block
    (new.grid ∙ c.grid_of_demo.ensures) c.made_lanes-lanes.ensures.long c.in_ok-totals.ensures.long c.made_lanes-lanes.ensures.start
    c.in_ok-totals.ensures.nothing

pub join_fronts-requires-clause-next : goal.join_fronts-requires-clause-next
join_fronts-requires-clause-next g c =
    can_join_all c.args.seed c.args.samples c.loop.counter c.requires.samples.1 c.loop.invariant c.round.ensures.done

pub loop-preserved : goal.loop-preserved
loop-preserved g c =
    counted_more c.args.seed c.args.samples c.loop.counter c.requires.samples.1 c.loop.invariant c.round.ensures.done c.join_fronts.new.totals
    c.join_fronts.ensures.long c.join_fronts.ensures.joined

pub returns-clause-all : goal.returns-clause-all
returns-clause-all g c =
    counted_all c.args.seed c.args.samples c.loop.counter c.loop.prepared c.loop.lanes c.loop.totals (omega (arith, c.loop-test.false))
    c.loop.invariant
