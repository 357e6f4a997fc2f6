use Rattle.std.proofs.Common.{arith}
use Rattle.board.proofs.Slots.{merged_from}
use Rattle.board.proofs.rows.merge.Goals as goal

pub returns : goal.returns
returns c = merged_from c.args.slots.now c.split_at_mut-left.result.0.now c.split_at_mut-left.result.1.now c.args.j c.args.k c.join.new.slot
    c.empty.new.slot c.index-left-j.result c.index-right-0.result c.index-right-0-2.result
    (omega arith) (omega arith) c.split_at_mut-left.ensures.front c.split_at_mut-left.ensures.back c.join.ensures c.empty.ensures
