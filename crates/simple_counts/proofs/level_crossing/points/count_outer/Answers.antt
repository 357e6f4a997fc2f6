use Rattle.std.proofs.Common.{◌+◌, ◌-◌, ◌∙◌, refl, ap, max, min, length, arith}
use Rattle.simple_counts.proofs.on_level_crossing.Steps.{place_within}
use Rattle.simple_counts.proofs.on_level_crossing.Counted.{closed}
use Rattle.simple_counts.proofs.level_crossing.points.count_outer.Goals as goal

pub returns-clause-counts : goal.returns-clause-counts
returns-clause-counts c =
    let q = c.requires in
    let r = c.args.reference in
    let first = c.raise_either.ensures in
    let last = c.raise_either-2.ensures in
    let x = place_within _ _ 0 q.below (omega arith) in
    let y = place_within _ _ (length c.args.list.now - 1) q.below (omega arith) in
    closed r c.args.list.now c.args.begins.now c.args.stops.now _ _ _ _ _ _ _ _ _ _ _ _ q.many q.all q.reference (omega (arith, q.same))
    (omega (arith, x, c.from-first.ensures, c.max.ensures)) (omega (arith, x, q.same, c.from-first.ensures, c.min.ensures))
    (omega (arith, y, c.from-last.ensures, c.min-2.ensures)) (omega (arith, y, q.same, c.from-last.ensures, c.max-2.ensures))
    (record {
      begins = refl;
      stops = refl;
      low_is = c.max.ensures ∙ ap (λ k. max (k + 1) r) c.from-first.ensures;
      high_is = c.min.ensures ∙ ap (λ k. min (k + 1) r) c.from-first.ensures;
      first_begins = first.begins;
      first_stops = first.stops;
      below_is = c.min-2.ensures ∙ ap (λ k. min (k + 1) r) c.from-last.ensures;
      above_is = c.max-2.ensures ∙ ap (λ k. max (k + 1) r) c.from-last.ensures;
      last_begins = last.begins;
      last_stops = last.stops;
    })
