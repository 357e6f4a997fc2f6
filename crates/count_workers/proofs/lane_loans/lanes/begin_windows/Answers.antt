use borrow.Author.Count.{below_more}
use Rattle.std.proofs.Common.{arith, ◌≡◌, ◌<◌, ◌≤◌, length, get_or, set, take, sym, subst, ◌∙◌, length-take-le}
use Rattle.calibration.specs.declared.limits.TheConstants.{MAX_SAMPLES}
use Rattle.std.proofs.lemmas.List.{get_or-set_same, get_or-set_other, get_or-take}
use Rattle.std.proofs.Math.ListN.{length-set}
use Rattle.count_workers.specs.declared.lane_loans.lane.Lane.{Lane}
use Rattle.count_workers.specs.lane_loans.Lent.{at_of}
use Rattle.count_workers.proofs.on_lane_loans.Walking.{map_at, some_of}
use Rattle.count_workers.proofs.lane_loans.lanes.begin_windows.Goals as goal

pub loop-g-preserved : goal.loop-g-preserved
loop-g-preserved h c =
    let k = c.loop-g.g in let xs = c.loop-g.starts in let ls = c.args.lanes.now in let y = c.index-lanes-g.result in
    let few : k < length xs = omega (arith, c.loop-g.invariant.long, c.requires.all) in
    record {
      long = length-set xs k (get_or ls k y).at ∙ c.loop-g.invariant.long;
      done = λ u m. below_more (λ i. get_or (set xs k (get_or ls k y).at) i 0 ≡ at_of ls i) k
          (λ i n. get_or-set_other xs k i (get_or ls k y).at 0 (λ e. omega arith) ∙ c.loop-g.invariant.done i n)
          (get_or-set_same xs k (get_or ls k y).at 0 few ∙ sym (map_at (λ (l : Lane _). l.at) ls k 0 y (omega arith))) u m;
    }

pub begin-requires-clause-limit : goal.begin-requires-clause-limit
begin-requires-clause-limit h c = λ g m.
    let n = length c.args.lanes.now in let xs = c.loop-g.starts in let ls = c.args.lanes.now in
    let few : length (take n xs) ≡ n = length-take-le n xs (omega (arith, c.loop-g.invariant.long, c.requires.all)) in
    let in_lanes : g < n = omega (arith, m, few) in
    let y = some_of ls (omega (arith, in_lanes)) in
    let same : get_or (take n xs) g 0 ≡ (get_or ls g y).at = get_or-take n xs g 0 in_lanes
    ∙ c.loop-g.invariant.done g (omega (arith, in_lanes)) ∙ map_at (λ (l : Lane _). l.at) ls g 0 y in_lanes in
    subst (λ z. z ≤ MAX_SAMPLES) (sym same) (c.requires.limit g y in_lanes)
