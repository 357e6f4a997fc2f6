use Rattle.std.proofs.Common.{rules}
use Rattle.count_workers.specs.lane_loans.Lent.{CanRound}
use Rattle.count_workers.proofs.on_lane_loans.Walking.{each_one}
use Rattle.trials_store.proofs.rounds.a_recording_ends_at_its_limit.Goals as goal

pub first_round-requires-clause-lanes : goal.first_round-requires-clause-lanes
first_round-requires-clause-lanes g c κs = each_one CanRound _ (search rules)
