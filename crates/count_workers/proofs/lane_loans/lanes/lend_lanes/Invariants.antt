use Rattle.std.proofs.Common.{◌≡◌, ◌<◌, ◌≤◌, ◌+◌, ◌*◌, ℕ, length, slice_index_or}
use Rattle.board.specs.deposits.Deposited.{SamePool}
use Rattle.count_workers.specs.block_workers.Jobs.{CanRead}
use Rattle.count_workers.specs.lane_loans.Lent.{LendsSource}
use Rattle.board.specs.declared.flow.TheConstants.{BLOCKS_PER_WINDOW}
use Rattle.count_workers.proofs.lane_loans.lanes.lend_lanes.Given as goal

abbrev pub invariant-loop-g : goal.invariant-loop-g
invariant-loop-g h l = record {
  long : length l.readers ≡ length l.fn.readers;
  wide : length l.lanes ≡ length l.fn.lanes;
  lent : (u : ℕ) (d : _) (e : _) → u < l.g
      → LendsSource (slice_index_or l.fn.readers u d) (slice_index_or l.readers u d) (slice_index_or l.fn.lanes u e)
      (slice_index_or l.lanes u e);
  ready : (u : ℕ) (d : _) → u < l.g → CanRead (slice_index_or l.readers u d);
  rest_readers : (u : ℕ) (d : _) → l.g ≤ u → slice_index_or l.readers u d ≡ slice_index_or l.fn.readers u d;
  rest_lanes : (u : ℕ) (d : _) → l.g ≤ u → slice_index_or l.lanes u d ≡ slice_index_or l.fn.lanes u d;
  same : SamePool l.fn.pool l.pool;
  inside : l.pool.inside + BLOCKS_PER_WINDOW * l.g ≡ l.fn.pool.inside;
}
