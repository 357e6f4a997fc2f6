use Rattle.std.proofs.Common.{◌≤◌, length, take, refl, ap, arith, length-take}
use Rattle.recount.proofs.Taken.{points_below, counted_more}
use Rattle.recount.proofs.running.RunningCount.take.Goals as goal
use Rattle.segment.proofs.Counted.{all_kinds}

pub push_all-requires-clause-points : goal.push_all-requires-clause-points
push_all-requires-clause-points g c =
    let k = c.levels-kinds.ensures in
    points_below _ _ c.args.raws.now _ _ _ k.used k.missing k.refused _ _ _ _ c.args.self.now _ _ _ _ k.levels
    c.keep_decided-decided.ensures.turned c.requires.counted.1.1

pub invariant_of-self : goal.invariant_of-self
invariant_of-self g c =
    let k = c.levels-kinds.ensures in
    let kinds = all_kinds c.args.classifier.now.grid c.args.classifier.now.gain c.args.raws.now _ _ _ k.used k.missing k.refused in
    let used = ap (λ s. s.used) c.plus-self.ensures in
    record {
      all = omega (
        arith,
        kinds,
        c.args.self.now.all,
        used,
        ap (λ s. s.samples) c.plus-self.ensures,
        ap
            (λ s. s.missing) c.plus-self.ensures,
        ap (λ s. s.refused) c.plus-self.ensures,
      );
    }

pub returns-clause-counted : goal.returns-clause-counted
returns-clause-counted g c =
    let k = c.levels-kinds.ensures in
    let push = c.push_all.ensures in
    let few : length (take c.keep_decided-decided.result c.keep_decided-decided.new.levels) ≤ c.levels-kinds.result.used = omega (
      arith,
      length-take c.keep_decided-decided.result c.keep_decided-decided.new.levels,
      c.keep_decided-decided.ensures.within,
      length-take c.levels-kinds.result.used c.levels-kinds.new.levels,
    ) in
    λ start w are. counted_more _ _ c.args.raws.now _ _ _ k.used k.missing k.refused _ _ _ start c.args.self.now w _ _ _ k.levels
    c.keep_decided-decided.ensures.turned _ refl c.plus-self.ensures push.counted push.classes push.counter_classes few push.room are
