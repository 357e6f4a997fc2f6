use Rattle.std.proofs.Common.{rules}
use Rattle.count_workers.specs.lane_loans.Lent.{CanRound}
use Rattle.count_workers.proofs.on_lane_loans.Walking.{each_two}
use Rattle.count_workers.proofs.on_round_making.Settled.{can_go_on}
use Rattle.trials_store.proofs.rounds.two_lanes_go_through_three_workers.Goals as goal

pub round-requires-clause-lanes : goal.round-requires-clause-lanes
round-requires-clause-lanes g c κs = each_two CanRound _ _ (search rules) (search rules)

pub round-requires-2-clause-lanes : goal.round-requires-2-clause-lanes
round-requires-2-clause-lanes g c κs = (can_go_on _ _ _ _ _ _ _ c.round.ensures.done
    (search rules, each_two CanRound _ _ (search rules) (search rules))).1
