use Rattle.segment.specs.Segment.{SameStart}
use Rattle.board.proofs.Slots.{from_ok, joined, join_name}
use Rattle.board.proofs.rows.join.Goals as goal

pub returns : goal.returns
returns c =
    let ok = joined c.args.slot.now c.args.segment.now c.join.result c.requires.next c.join.ensures.answer in
    let start : SameStart c.args.slot.now c.join.new.self = from_ok c.join.result _ ok c.join.ensures.start in
    record {
      name = join_name c.args.slot.now c.join.new.self c.args.segment.now.to start (from_ok c.join.result _ ok c.join.ensures.end);
      grid = start.0;
      longest = start.3;
      stands = from_ok c.join.result _ ok c.join.ensures.stands;
    }
