use Rattle.std.proofs.Common.{◌++◌, refl, arith, ap, length, take, drop, get_or}
use Rattle.board.specs.Board.{BoardValue}
use Rattle.board.proofs.Begun.{fresh_board, fresh_begun, rows_fresh}
use Rattle.board.proofs.windows.Board.begin.Goals as goal

pub invariant_of-self : goal.invariant_of-self
invariant_of-self c =
    let b : BoardValue = record {
      grid = c.self.inside.grid;
      block = c.self.inside.block;
      rows = c.self.inside.rows.items;
      arrivals =
          c.self.inside.arrivals.items;
    } in
    let rows = take c.self.inside.rows.len (c.begin_all.new.rows ++ drop (length c.begin_all.new.rows) c.self.inside.rows.items) in
    let f = rows_fresh b c.args.starts.now rows c.self.invariant.1 _ c.begin_all.new.rows c.self.inside.rows.len
    c.as_mut_slice.ensures.value c.self.inside.rows.ok.0 c.begin_all.ensures refl in (
      omega (arith, c.self.invariant.0, c.clear.ensures.capacity),
      fresh_board (record { grid = b.grid; block = b.block; rows = rows; arrivals = c.clear.new.self.items })
          (λ g. get_or c.args.starts.now g 0) c.clear.ensures.items f.1 c.self.invariant.1.block
          (omega (arith, f.0, c.self.invariant.1.gauges))
          (λ g m. c.requires.limit g (omega (arith, m, f.0, c.requires.all, ap (λ (v : BoardValue). length v.rows) c.self.view_is))),
    )

pub returns-clause-begun : goal.returns-clause-begun
returns-clause-begun c =
    let b : BoardValue = record {
      grid = c.self.inside.grid;
      block = c.self.inside.block;
      rows = c.self.inside.rows.items;
      arrivals =
          c.self.inside.arrivals.items;
    } in
    let rows = take c.self.inside.rows.len (c.begin_all.new.rows ++ drop (length c.begin_all.new.rows) c.self.inside.rows.items) in
    let f = rows_fresh b c.args.starts.now rows c.self.invariant.1 _ c.begin_all.new.rows c.self.inside.rows.len
    c.as_mut_slice.ensures.value c.self.inside.rows.ok.0 c.begin_all.ensures refl in
    fresh_begun (record { grid = b.grid; block = b.block; rows = rows; arrivals = c.clear.new.self.items })
    (λ g. get_or c.args.starts.now g 0) c.clear.ensures.items f.1

pub returns-clause-board : goal.returns-clause-board
returns-clause-board c = (invariant_of-self c).1
