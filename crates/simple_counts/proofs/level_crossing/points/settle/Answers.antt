use Rattle.std.proofs.Common.{arith, length-set, ◌∙◌}
use Rattle.simple_counts.proofs.on_level_crossing.Settled.{settled_more}
use Rattle.simple_counts.proofs.level_crossing.points.settle.Goals as goal

pub loop-i-preserved : goal.loop-i-preserved
loop-i-preserved c =
    let v = c.loop-i.invariant in
    record {
      settled = settled_more c.args.begins.now c.args.stops.now c.loop-i.begins c.loop-i.stops c.loop-i.i c.min-both.result v.settled
          (omega arith) (omega (arith, v.begins_length, v.stops_length, c.requires.same)) c.min-both.ensures;
      begins_length = length-set c.loop-i.begins c.loop-i.i _ ∙ v.begins_length;
      stops_length = length-set c.loop-i.stops c.loop-i.i _ ∙ v.stops_length;
    }
