use Rattle.std.proofs.Common.{◌≡◌, ◌≤◌, vec_len, vec_capacity}
use Rattle.std.specs.List.{All}
use Rattle.board.specs.block_pool.Units.{IsBlank}
use Rattle.board.proofs.block_pool.pool.Pool.new.Given as goal

abbrev pub invariant-loop : goal.invariant-loop
invariant-loop l = record {
  long : vec_len l.free ≡ l.counter;
  room : l.fn.units ≤ vec_capacity l.free;
  fits : All (IsBlank l.fn.block l.fn.grid) l.free.items;
}
