use Rattle.std.proofs.Common.{◌≡◌, ◌+◌, ◌<◌, ◌++◌, [], ◌∷◌, List, ℕ, length, drop, get_or, sym, ap, subst, ◌∙◌, arith}
use Rattle.segment.specs.Segment.{SegmentValue}
use Rattle.lemmas.proofs.Outcomes.{on_err}
use Rattle.segment_store.specs.Copy.{written_of}
use Rattle.segment_store.proofs.Fronts.{IsFront, front_more, front_failed, copies_first}
use Rattle.segment_store.proofs.compacting.write_bodies.Goals as goal

-- the segment of a gauge, before the others
next_of : (old now : List ℕ) (held : List SegmentValue) (i : ℕ) (v : SegmentValue) → i < length held → v ≡ get_or held i v
    → IsFront old now (written_of held) (written_of (drop i held))
    → IsFront old now (written_of held) (written_of (v ∷ []) ++ written_of (drop (i + 1) held))
next_of old now held i v lt is p =
    subst (IsFront old now (written_of held)) (copies_first held i v lt
    ∙ ap (λ (x : SegmentValue). written_of (x ∷ []) ++ written_of (drop (i + 1) held)) (sym is)) p

pub loop-gauge-preserved : goal.loop-gauge-preserved
loop-gauge-preserved g c =
    let was = c.loop-gauge.invariant in
    let held = c.args.held.now in
    let i = c.loop-gauge.gauge in
    let v = c.index-held-gauge.result in
    let written = g.O.Sink.written in
    record {
      printed = λ tells. front_more (written c.args.out.now) (written c.loop-gauge.out) (written c.write_body.new.out) (written_of held)
          (written_of (v ∷ [])) (written_of (drop (i + 1) held))
          (next_of (written c.args.out.now) (written c.loop-gauge.out) held i v (omega arith) c.index-held-gauge.is (was.printed tells))
          (c.in_ok-write_body.ensures.ok tells);
      room = c.write_body.auto.buf ∙ was.room;
      later = omega (arith, was.later, c.write_body.ensures.cause.later);
    }

pub returns-in_err-write_body-clause-failed : goal.returns-in_err-write_body-clause-failed
returns-in_err-write_body-clause-failed g c tells =
    let was = c.loop-gauge.invariant in
    let held = c.args.held.now in
    let i = c.loop-gauge.gauge in
    let v = c.index-held-gauge.result in
    let written = g.O.Sink.written in
    on_err _ (front_failed (written c.args.out.now) (written c.loop-gauge.out) (written c.write_body.new.out) (written_of held)
    (written_of (v ∷ [])) (written_of (drop (i + 1) held))
    (next_of (written c.args.out.now) (written c.loop-gauge.out) held i v (omega arith) c.index-held-gauge.is (was.printed tells))
    (c.in_err-write_body.ensures.failed tells))
