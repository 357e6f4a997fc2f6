use Rattle.std.proofs.Common.{refl, arith, sym, subst, ◌∙◌}
use Rattle.std.proofs.lemmas.List.{get_or_default}
use Rattle.segment.specs.Segment.{SegmentValue}
use Rattle.board.specs.Rows.{IsCopy}
use Rattle.board.proofs.rows.put.Goals as goal

pub returns : goal.returns
returns c = record {
  was = c.index-slots-k.result;
  at = λ d. get_or_default c.args.slots.now c.args.k d c.index-slots-k.result
      (omega arith) ∙ sym c.index-slots-k.is;
  now = c.copy.new.slot;
  set = refl;
  copy = subst
      (λ (z : SegmentValue). IsCopy z.longest c.args.segment.now c.copy.new.slot) (sym c.index-slots-k.is) c.copy.ensures;
}
