use Rattle.std.proofs.Common.{◌≡◌, ◌+◌, ◌-◌, ◌<◌, ◌≤◌, ℕ, List, length, drop, get_or, ap, arith, rules}
use Rattle.std.specs.Prelude.{true}
use Rattle.turning_points.specs.Pairs.{range}
use Rattle.turning_points.specs.three_point.Run.{half_units_at_range}
use Rattle.four_point.specs.residue_join.HalfUnits.{neighbours}
use Rattle.tally.specs.tables.Tables.{raise}
use Rattle.segment.proofs.SideBySide.{range_step, ranges_end, raised_few}
use Rattle.segment.proofs.neighbours.add_ranges.Goals as goal

pub loop-i-preserved : goal.loop-i-preserved
loop-i-preserved c =
    let l = c.args.residue.now in
    let i = c.loop-i.i in
    let v = c.loop-i.invariant in
    let out = c.loop-i.out in
    let e : c.from.result ≡ range (get_or l (i - 1) 0) (get_or l i 0) = search rules in
    let w : c.from.result < length out = search rules in
    let one : 1 ≤ i = search rules in
    let new : c.raise.new.table ≡ raise out c.from.result = c.raise.ensures in
    let next : i + 1 - 1 ≡ i = omega arith in
    record {
      ranges = λ k. omega (
        arith,
        ap (λ j. half_units_at_range k (neighbours (drop j l))) next,
        v.ranges k,
        range_step out l i c.from.result
            k one c.loop-i-test.true e w,
        ap (λ (t : List ℕ). get_or t k 0) new,
      );
      few = λ k. omega (arith, v.few k, raised_few out c.from.result k true w, ap (λ (t : List ℕ). get_or t k 0) new);
      length = search rules;
    }

pub returns-clause-ranges : goal.returns-clause-ranges
returns-clause-ranges c = λ k. omega (arith, c.loop-i.invariant.ranges k, ranges_end c.args.residue.now (c.loop-i.i - 1) k (omega arith))
