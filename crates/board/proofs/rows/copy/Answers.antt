use Rattle.std.proofs.Common.{◌≡◌, [], sym, subst, ap, ◌∙◌}
use Rattle.segment.specs.declared.segment_rules.name.Name.{Name}
use Rattle.segment.specs.Segment.{SegmentValue, SameStart, Stands}
use Rattle.board.specs.flow.Flow.{name_of_samples}
use Rattle.segment.proofs.Empty.{empty_stands}
use Rattle.board.proofs.Slots.{from_ok, joined, join_name}
use Rattle.board.proofs.rows.copy.Goals as goal

pub returns : goal.returns
returns c =
    let segment = c.args.segment.now in
    let was = c.clear.new.self in
    let gauge : was.gauge ≡ segment.gauge = ap (λ (z : SegmentValue). z.gauge) c.clear.ensures ∙ ap
    (λ (n : Name). n.gauge) c.name-name.ensures.value in
    let from : was.from ≡ segment.from = ap (λ (z : SegmentValue). z.from) c.clear.ensures ∙ ap
    (λ (n : Name). n.from) c.name-name.ensures.value in
    let to : was.to ≡ segment.from = ap (λ (z : SegmentValue). z.to) c.clear.ensures
    ∙ ap (λ (n : Name). n.from) c.name-name.ensures.value in
    let ok = joined was segment c.join.result (sym gauge, sym to) c.join.ensures.answer in
    let start : SameStart was c.join.new.self = from_ok c.join.result _ ok c.join.ensures.start in
    record {
      name = join_name was c.join.new.self segment.to start (from_ok c.join.result _ ok c.join.ensures.end) ∙ ap
          (λ k. name_of_samples k was.from segment.to) gauge ∙ ap (λ k. name_of_samples segment.gauge k segment.to) from;
      grid = start.0 ∙ ap (λ (z : SegmentValue). z.grid) c.clear.ensures ∙ c.requires.grid;
      longest = start.3 ∙ ap (λ (z : SegmentValue). z.longest) c.clear.ensures;
      stands = λ gain w h. from_ok c.join.result _ ok c.join.ensures.stands gain [] w
          (subst (λ (z : SegmentValue). Stands z gain []) (sym c.clear.ensures) (empty_stands _ _ _ _ gain)) h;
    }
