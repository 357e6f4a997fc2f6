use Rattle.std.proofs.Common.{ℕ, List, sym, subst, ◌≡◌}
use Rattle.turning_points.specs.Points.{points}
use Rattle.turning_points.proofs.Zigzag.{zig_points}
use Rattle.turning_points.proofs.Over.{own}
use Rattle.bench_times.proofs.call_times.counts.cross_block.Goals as goal

pub cross-requires-clause-own : goal.cross-requires-clause-own
cross-requires-clause-own c = subst (λ (l : List ℕ). points l ≡ l) (sym c.keep_points-count.ensures.points) (own (zig_points _))
