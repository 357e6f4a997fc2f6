use Rattle.std.proofs.Common.{arith, inl}
use Rattle.board.proofs.rows.close.Goals as goal

pub merge-requires-clause-at : goal.merge-requires-clause-at
merge-requires-clause-at c = (omega (arith, c.requires.at.0), c.if-touches_next.ensures.touches.0)

pub returns-then-touches_next : goal.returns-then-touches_next
returns-then-touches_next c = inl (c.merge.ensures, c.if-touches_next.ensures.touches)
