use Rattle.std.proofs.Common.{[], sym, subst, ap, ◌∙◌}
use Rattle.segment.specs.declared.segment_rules.name.Name.{Name}
use Rattle.segment.specs.Segment.{SegmentValue, Stands}
use Rattle.segment.proofs.Empty.{empty_stands}
use Rattle.board.proofs.rows.empty.Goals as goal

pub returns : goal.returns
returns c = record {
  gauge = ap (λ (z : SegmentValue). z.gauge) c.clear.ensures ∙ ap (λ (n : Name). n.gauge) c.name-name.ensures.value;
  from = ap (λ (z : SegmentValue). z.from) c.clear.ensures ∙ ap (λ (n : Name). n.from) c.name-name.ensures.value;
  to = ap (λ (z : SegmentValue). z.to) c.clear.ensures ∙ ap (λ (n : Name). n.from) c.name-name.ensures.value;
  grid = ap (λ (z : SegmentValue). z.grid) c.clear.ensures;
  longest = ap (λ (z : SegmentValue). z.longest) c.clear.ensures;
  stands = λ gain. subst (λ (z : SegmentValue). Stands z gain []) (sym c.clear.ensures) (empty_stands _ _ _ _ gain);
}
