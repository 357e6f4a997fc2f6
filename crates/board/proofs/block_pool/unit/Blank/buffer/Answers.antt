use Rattle.std.proofs.Common.{rules, refl, ap, ◌∙◌, length, take, drop, ◌++◌}
use Rattle.board.specs.block_pool.Units.{BlankValue, buffer_after_loan}
use Rattle.board.proofs.block_pool.unit.Blank.buffer.Goals as goal

pub returns : goal.returns
returns c = (
  (
    refl,
    λ w.
        ap (λ n. record {
          buffer = take n (w ++ drop (length w) c.self.inside.buffer.items);
          grid =
              c.self.inside.segment.grid;
        }) c.self.inside.buffer.ok.0
        ∙ ap (λ (v : BlankValue). record { buffer = buffer_after_loan v.buffer w; grid = v.grid }) c.self.view_is,
  ),
  record { writes_back = tt; value = search rules; long = search rules },
)
