use Rattle.std.proofs.Common.{sym, ◌∙◌}
use Rattle.std.proofs.lemmas.Bool.Decides.{Decides-int_eq}
use lib.Pointwise.{pointwise_decides}
use Rattle.board.proofs.block_pool.receipt.are_samples.Goals as goal

pub returns : goal.returns
returns c =
    let decides = pointwise_decides Decides-int_eq c.args.a.now c.args.b.now in
    (λ yes. decides.0 (sym c.eq.ensures ∙ yes), λ same. c.eq.ensures ∙ decides.1 same)
