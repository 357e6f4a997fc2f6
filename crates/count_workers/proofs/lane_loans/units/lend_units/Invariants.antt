use Rattle.std.proofs.Common.{◌≡◌, ◌+◌, vec_len, vec_capacity}
use Rattle.std.specs.List.{All}
use Rattle.board.specs.block_pool.Units.{IsBlank}
use Rattle.board.specs.deposits.Deposited.{SamePool}
use Rattle.count_workers.proofs.lane_loans.units.lend_units.Given as goal

abbrev pub invariant-loop : goal.invariant-loop
invariant-loop l = record {
  long : vec_len l.blanks ≡ l.counter;
  room : vec_capacity l.blanks ≡ vec_capacity l.fn.blanks;
  same : SamePool l.fn.pool l.pool;
  inside : l.pool.inside + l.counter ≡ l.fn.pool.inside;
  fit : All (IsBlank l.fn.pool.block l.fn.pool.grid) l.blanks.items;
}
