use Rattle.std.proofs.Common.{◌+◌, ◌<◌, length, slice_index, ap, ◌∙◌, arith, length-set}
use Rattle.std.proofs.lemmas.List.{get_or_default}
use Rattle.turning_points.specs.three_point.Ranges.{counted_range_of}
use Rattle.turning_points.proofs.on_three_point.RangeByRange.{raised_place}
use Rattle.turning_points.proofs.three_point.half_units.HalfUnitsRangeCounter.count.Goals as goal

pub returns-clause-holds : goal.returns-clause-holds
returns-clause-holds c given h k inside =
    let s = c.self.inside.counts.items in
    let within : c.from-2.result < length s = let b = c.requires.within.below in omega (arith, ap (λ l. length l) c.self.view_is) in
    raised_place s c.from-2.result _ (counted_range_of c.args.range) given within c.from-2.ensures
    (omega (arith, c.index_mut.ensures.value, get_or_default s c.from-2.result c.index_mut.result.now 0 within))
    (λ j i. ap (λ l. slice_index l j) c.self.view_is ∙ h j (omega (arith, ap (λ l. length l) c.self.view_is))) k
    (omega (arith, length-set s c.from-2.result (c.index_mut.result.now + c.from.result)))
