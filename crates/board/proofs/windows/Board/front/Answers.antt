use Rattle.board.proofs.windows.Board.front.Goals as goal
use Rattle.std.proofs.Common.{subst, arith, ◌<◌, length, get_or, ap, ◌∙◌}
use Rattle.board.specs.Board.{BoardValue, Row, IsFront}
use Rattle.board.proofs.Fronts.{is_front}

pub returns : goal.returns
returns c =
    let b : BoardValue = record {
      grid = c.self.inside.grid;
      block = c.self.inside.block;
      rows = c.self.inside.rows.items;
      arrivals =
          c.self.inside.arrivals.items;
    } in
    let known : c.args.gauge < length c.self.inside.rows.items = omega
    (arith, c.requires, ap (λ (v : BoardValue). length v.rows) c.self.view_is) in
    subst (λ v. IsFront v c.args.gauge c.front.result.now) c.self.view_is
    (is_front b c.args.gauge c.index.result.now c.front.result.now c.self.invariant.1 known
    (λ d. c.front.ensures d ∙ ap (λ (r : Row). get_or r.slots 0 d) c.index.ensures))
