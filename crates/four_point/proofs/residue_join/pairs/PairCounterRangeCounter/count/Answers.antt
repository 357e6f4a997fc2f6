use Rattle.std.proofs.Common.{◌+◌, ◌==◌, ◌&&◌, if◌then◌else◌, sym, ap, ◌∙◌, arith}
use Rattle.tally.specs.Counts.{count_of}
use Rattle.turning_points.specs.three_point.Run.{half_units_of_pair}
use Rattle.turning_points.specs.three_point.Ranges.{counted_range_of}
use Rattle.four_point.proofs.on_residue_join.OneRange.{half_units_of_pair-pushed, half_units_of_pair-level}
use Rattle.four_point.proofs.residue_join.pairs.PairCounterRangeCounter.count.Goals as goal

pub returns-then-range-clause-holds : goal.returns-then-range-clause-holds
returns-then-range-clause-holds c given h lo hi o =
    let r = c.args.range in
    let before = ap (λ t. count_of t.cells lo hi) c.self.view_is ∙ h lo hi o in
    let n = ap (λ m. if lo == r.lo && hi == r.hi then m else 0) c.from.ensures in
    c.add.ensures.added lo hi ∙ ap (λ m. m + (if lo == r.lo && hi == r.hi then c.from.result else 0)) before
    ∙ ap (λ m. half_units_of_pair lo hi given + m) n ∙ sym (half_units_of_pair-pushed lo hi given (counted_range_of r))

pub returns-else-range-clause-holds : goal.returns-else-range-clause-holds
returns-else-range-clause-holds c given h lo hi o =
    h lo hi o ∙ sym (half_units_of_pair-level lo hi given (counted_range_of c.args.range) o (omega arith))
