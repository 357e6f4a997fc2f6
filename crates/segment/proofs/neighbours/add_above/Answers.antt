use Rattle.std.proofs.Common.{◌≡◌, ◌+◌, ◌-◌, ◌<◌, ◌≤◌, ◌==◌, if◌then◌else◌, min, max, ℕ, List, length, drop, get_or, ap, arith, rules}
use Rattle.turning_points.specs.three_point.Run.{half_units_of_pair}
use Rattle.four_point.specs.residue_join.HalfUnits.{neighbours}
use Rattle.tally.specs.tables.Tables.{raise}
use Rattle.segment.proofs.SideBySide.{above_step, pairs_end, raised_few}
use Rattle.segment.proofs.neighbours.add_above.Goals as goal

pub loop-i-preserved : goal.loop-i-preserved
loop-i-preserved c =
    let l = c.args.residue.now in
    let i = c.loop-i.i in
    let v = c.loop-i.invariant in
    let out = c.loop-i.out in
    let place : ℕ = max (get_or l (i - 1) 0) (get_or l i 0) in
    let w : place < length out = search rules in
    let one : 1 ≤ i = search rules in
    let new : c.add_if.new.table ≡ (if min (get_or l (i - 1) 0) (get_or l i 0) == c.args.lo then raise out place else out) = search rules in
    let next : i + 1 - 1 ≡ i = omega arith in
    record {
      pairs = λ hi. omega (
        arith,
        ap (λ j. half_units_of_pair c.args.lo hi (neighbours (drop j l))) next,
        v.pairs hi,
        above_step out l i c.args.lo hi one c.loop-i-test.true w,
        ap (λ (t : List ℕ). get_or t hi 0) new,
      );
      few = λ k. omega (
        arith,
        v.few k,
        raised_few out place k (min (get_or l (i - 1) 0) (get_or l i 0) == c.args.lo) w,
        ap (λ (t : List ℕ). get_or t k 0) new,
      );
      length = search rules;
    }

pub returns-clause-pairs : goal.returns-clause-pairs
returns-clause-pairs c =
    λ hi. omega (arith, c.loop-i.invariant.pairs hi, pairs_end c.args.residue.now (c.loop-i.i - 1) (omega arith) c.args.lo hi)
