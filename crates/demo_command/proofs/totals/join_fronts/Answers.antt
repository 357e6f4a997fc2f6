use Rattle.std.proofs.Common.{◌≡◌, ◌<◌, ℕ, length, get_or, sym, ◌∙◌, subst, arith, length-set}
use Rattle.std.proofs.lemmas.List.{get_or_default}
use Rattle.segment.specs.Segment.{SegmentValue, SameStart, Stands}
use Rattle.demo_command.specs.Totals.{HasJoined}
use Rattle.demo_command.proofs.Joining.{set_more, set_others}
use Rattle.demo_command.proofs.totals.join_fronts.Goals as goal

pub loop-gauge-preserved : goal.loop-gauge-preserved
loop-gauge-preserved c =
    let was = c.loop-gauge.invariant in
    let k = c.loop-gauge.gauge in
    let now = c.loop-gauge.totals in
    let w = c.join.new.self in
    let here : k < length now = omega (arith, was.long, c.loop-gauge-test.true) in
    record {
      long = length-set now k w ∙ was.long;
      joined = set_more (λ (g : ℕ) (v x : SegmentValue). HasJoined c.args.prepared.now.board g v x) c.args.totals.now now k w
          here was.joined
          (λ d. let same : get_or now k c.index-totals-gauge.result ≡ get_or c.args.totals.now k d =
          get_or_default now k c.index-totals-gauge.result d here ∙ was.others k d (omega arith) in
          record {
            front = c.front.result.now;
            is = c.front.ensures;
            start = subst (λ (v : SegmentValue). SameStart v w) same c.in-Ok.ensures.start;
            end = c.in-Ok.ensures.end;
            stands = λ gain a b left right. c.in-Ok.ensures.stands gain a b (subst (λ (v : SegmentValue). Stands v gain a) (sym same) left)
                right;
          });
      others = set_others c.args.totals.now now k w was.others;
    }
