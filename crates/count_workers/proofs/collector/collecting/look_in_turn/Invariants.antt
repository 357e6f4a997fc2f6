use Rattle.std.proofs.Common.{◌≡◌}
use Rattle.count_workers.specs.collector.Collecting.{CollectsMore}
use Rattle.count_workers.proofs.collector.collecting.look_in_turn.Given as goal

abbrev pub invariant-loop : goal.invariant-loop
invariant-loop l = record {
  more : CollectsMore l.fn.board l.board l.fn.pool l.pool l.fn.returns l.returns;
  grid : l.board.grid ≡ l.pool.grid;
}
