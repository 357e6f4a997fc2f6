use Rattle.std.proofs.Common.{◌++◌, ◌∷◌, [], reverse, take, get_or, sym, ap, ◌∙◌, subst, arith, append_assoc}
use Rattle.std.proofs.lemmas.List.{take_more}
use Rattle.turning_points.specs.three_point.Live.{HasCounted}
use Rattle.turning_points.proofs.on_three_point.Falling.{below_of_live, buffer_after}
use Rattle.turning_points.proofs.on_three_point.Histories.{counted_next}
use Rattle.turning_points.proofs.three_point.run.Run.push_all.Goals as goal

pub read-len-requires-clause-below : goal.read-len-requires-clause-below
read-len-requires-clause-below g c =
    let i = c.loop-point.invariant in
    below_of_live (take c.loop-point.len c.loop-point.places) (omega (arith, c.requires.counter, i.classes)) i.buffer.is_live

pub loop-point-preserved : goal.loop-point-preserved
loop-point-preserved g c =
    let i = c.loop-point.invariant in
    let r = c.read-len.ensures in
    let p = c.args.points.now in
    let n = c.loop-point.point-index in
    let below = c.requires.points n 0 c.loop-point-test.true in
    record {
      buffer = buffer_after below i.buffer (omega arith) r.within r.live;
      counted = λ before h.
          let more = ap (λ l. before ++ l) (take_more p n 0 c.loop-point-test.true)
          ∙ sym (append_assoc before (take n p) (get_or p n 0 ∷ [])) in
          subst (λ l. HasCounted l (reverse (take c.read-len.result c.read-len.new.live)) (g.C.RangeCounter.holds c.read-len.new.counter))
          (sym more)
          (counted_next (get_or p n 0) (i.counted before h) r.holds r.live);
      room = omega (arith, i.room, r.room);
      classes = r.classes ∙ i.classes;
    }
