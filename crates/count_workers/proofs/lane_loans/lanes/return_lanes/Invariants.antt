use Rattle.std.proofs.Common.{◌≡◌, ◌<◌, ◌≤◌, ◌+◌, ℕ, length, slice_index_or}
use Rattle.board.specs.flow.Kept.{over}
use Rattle.board.specs.deposits.Deposited.{SamePool}
use Rattle.count_workers.specs.lane_loans.Lent.{ReturnsSource, blanks_at}
use Rattle.count_workers.proofs.lane_loans.lanes.return_lanes.Given as goal

abbrev pub invariant-loop-g : goal.invariant-loop-g
invariant-loop-g h l = record {
  long : length l.readers ≡ length l.fn.readers;
  wide : length l.lanes ≡ length l.fn.lanes;
  returned : (u : ℕ) (d : _) (e : _) → u < l.g
      → ReturnsSource (slice_index_or l.fn.readers u d) (slice_index_or l.readers u d) (slice_index_or l.fn.lanes u e)
      (slice_index_or l.lanes u e);
  rest_readers : (u : ℕ) (d : _) → l.g ≤ u → slice_index_or l.readers u d ≡ slice_index_or l.fn.readers u d;
  rest_lanes : (u : ℕ) (d : _) → l.g ≤ u → slice_index_or l.lanes u d ≡ slice_index_or l.fn.lanes u d;
  same : SamePool l.fn.pool l.pool;
  inside : l.pool.inside ≡ l.fn.pool.inside + over l.g (blanks_at l.fn.readers);
}
