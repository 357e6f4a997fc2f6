use Rattle.std.proofs.Common.{refl, ◌<◌, ◌+◌, ◌∙◌, length, ap, arith}
use Rattle.turning_points.proofs.Over.{zig_own}
use Rattle.simple_counts.proofs.on_level_crossing.Steps.{inner_step, few_yes, few_no, length_yes, length_no, some_more, place_within, open_at, opened}
use Rattle.simple_counts.proofs.on_level_crossing.Extremes.{all_extremes, extremes_step, no_extremes}
use Rattle.simple_counts.proofs.level_crossing.points.count_inner.Goals as goal

pub loop-i-init : goal.loop-i-init
loop-i-init c =
    let b = c.requires.begins in
    let s = c.requires.stops in
    record {
      opens = opened c.args.reference c.args.list.now _ _ (zig_own _ c.requires.own) c.requires.many b s;
      extremes = no_extremes c.args.reference c.args.list.now _ _ b s;
      some = omega arith;
      begins_length = refl;
      stops_length = refl;
      begins_few = λ k. omega (arith, b k);
      stops_few = λ k. omega (arith, s k);
    }

pub loop-i-preserved : goal.loop-i-preserved
loop-i-preserved c =
    let v = c.loop-i.invariant in
    let e = c.raise_either.ensures in
    let p = place_within _ _ c.loop-i.i c.requires.below (omega arith) in
    let b : c.from-place.result + 1 < length c.loop-i.begins = omega (arith, p, c.from-place.ensures, v.begins_length) in
    let s : c.from-place.result + 1 < length c.loop-i.stops = omega (arith, p, c.from-place.ensures, v.stops_length, c.requires.same) in
    record {
      opens = inner_step c.args.reference c.args.list.now c.loop-i.begins c.loop-i.stops c.raise_either.new.begins c.raise_either.new.stops
          c.loop-i.bottoms c.loop-i.i c.from-bottoms.result _ (zig_own _ c.requires.own) (omega arith) (omega arith) b s
          (ap (λ k. k + 1) c.from-place.ensures) v.some v.opens _ refl e.begins e.stops c.from-bottoms.ensures;
      extremes = extremes_step c.args.reference c.args.list.now c.loop-i.begins c.loop-i.stops c.raise_either.new.begins
          c.raise_either.new.stops c.loop-i.i _ (zig_own _ c.requires.own) (omega arith) (omega arith)
          b s (ap (λ k. k + 1) c.from-place.ensures) v.extremes _ refl e.begins e.stops;
      some = some_more c.loop-i.bottoms c.loop-i.i c.from-bottoms.result _ c.from-bottoms.ensures v.some;
      begins_length = length_yes _ _ _ _ e.begins ∙ v.begins_length;
      stops_length = length_no _ _ _ _ e.stops ∙ v.stops_length;
      begins_few = few_yes _ _ _ _ _ b e.begins v.begins_few;
      stops_few = few_no _ _ _ _ _ s e.stops v.stops_few;
    }

pub returns-clause-all : goal.returns-clause-all
returns-clause-all c =
    let v = c.loop-i.invariant in
    open_at c.args.reference c.loop-i.begins c.loop-i.stops c.loop-i.bottoms c.args.list.now c.loop-i.i v.opens (omega arith)

pub returns-clause-extremes : goal.returns-clause-extremes
returns-clause-extremes c = all_extremes c.args.reference _ _ c.args.list.now c.loop-i.i c.loop-i.invariant.extremes (omega arith)
