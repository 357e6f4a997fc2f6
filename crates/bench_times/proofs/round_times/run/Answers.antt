use Rattle.std.proofs.Common.{rules}
use Rattle.count_workers.specs.lane_loans.Lent.{CanRound}
use Rattle.bench_times.proofs.on_round_times.Four.{each_four}
use Rattle.bench_times.proofs.round_times.run.Goals as goal

pub show-requires-2-clause-lanes : goal.show-requires-2-clause-lanes
show-requires-2-clause-lanes g c κs within = each_four CanRound _ _ _ _ (search rules) (search rules) (search rules) (search rules)
