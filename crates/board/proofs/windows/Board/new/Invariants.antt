use Rattle.std.proofs.Common.{◌≡◌, ◌<◌, ◌≤◌, ℕ, slice_index_or, vec_len, vec_capacity}
use Rattle.board.specs.Board.{Row}
use Rattle.board.specs.Clearing.{IsFresh}
use Rattle.board.proofs.windows.Board.new.Given as goal

abbrev pub invariant-loop-gauge : goal.invariant-loop-gauge
invariant-loop-gauge l = record {
  long : vec_len l.rows ≡ l.gauge;
  room : l.fn.gauges ≤ vec_capacity l.rows;
  fresh : (g : ℕ) (d : Row) → g < l.gauge → IsFresh l.fn.block l.fn.grid g 0 (slice_index_or l.rows.items g d);
}
