use Rattle.std.proofs.Common.{rules}
use Rattle.count_workers.specs.lane_loans.Lent.{CanRound}
use Rattle.count_workers.proofs.on_lane_loans.Walking.{each_one}
use Rattle.trials_store.proofs.rounds.two_workers_count_beside_each_other.Goals as goal

pub round-requires-clause-lanes : goal.round-requires-clause-lanes
round-requires-clause-lanes g c κs = each_one CanRound _ (search rules)
