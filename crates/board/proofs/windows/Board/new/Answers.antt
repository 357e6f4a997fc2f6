use Rattle.std.proofs.Common.{get_or, sym, subst, arith, rules}
use Rattle.board.specs.Board.{Row}
use Rattle.board.specs.Clearing.{IsFresh}
use Rattle.board.proofs.Begun.{fresh_board, fresh_begun}
use Rattle.board.proofs.Lists.{each_pushed}
use Rattle.board.proofs.windows.Board.new.Goals as goal

pub loop-gauge-preserved : goal.loop-gauge-preserved
loop-gauge-preserved c = record {
  long = search rules;
  room = search rules;
  fresh = λ g d m. subst (λ l. IsFresh c.args.block c.args.grid.now g 0 (get_or l g d)) (sym c.push_reserved.ensures.items)
      (each_pushed (λ h (r : Row). IsFresh c.args.block c.args.grid.now h 0 r) c.loop-gauge.rows.items c.in_ok-new.field-0 c.loop-gauge.gauge
      (omega (arith, c.loop-gauge.invariant.long, c.loop-gauge.rows.ok.0)) c.loop-gauge.invariant.fresh c.in_ok-new.ensures g d m);
}

pub invariant_of-result : goal.invariant_of-result
invariant_of-result c = (
  omega (arith, c.in_ok-arrivals.ensures.capacity, c.loop-gauge.invariant.long),
  fresh_board (record {
    grid = c.args.grid.now;
    block = c.args.block;
    rows = c.loop-gauge.rows.items;
    arrivals =
        c.in_ok-arrivals.arrivals.items;
  }) (λ g. 0) c.in_ok-arrivals.ensures.items
      (λ g d m. c.loop-gauge.invariant.fresh g d (omega (arith, m, c.loop-gauge.rows.ok.0)))
      c.requires.block (omega (arith, c.loop-gauge.rows.ok.0, c.loop-gauge.invariant.long, c.requires.gauges)) (λ g m. omega arith),
)

pub returns-clause-board : goal.returns-clause-board
returns-clause-board c = (invariant_of-result c).1

pub returns-clause-begun : goal.returns-clause-begun
returns-clause-begun c =
    fresh_begun (record {
      grid = c.args.grid.now;
      block = c.args.block;
      rows = c.loop-gauge.rows.items;
      arrivals =
          c.in_ok-arrivals.arrivals.items;
    }) (λ g. 0) c.in_ok-arrivals.ensures.items
    (λ g d m. c.loop-gauge.invariant.fresh g d (omega (arith, m, c.loop-gauge.rows.ok.0)))
