-- Half units of a pair, and of all pairs that lie so far apart.
use Rattle.std.proofs.Common.{◌≡◌, ℕ, ℤ, ◌+◌, ◌-◌, ◌*◌, ◌^◌, ◌<◌, ◌≤◌, Bool, true, false, if◌then◌else◌, List, [], ◌∷◌, sym, ◌∙◌, subst, arith}
use Rattle.std.proofs.lemmas.List.Sums.{sum_by-cons}
use Rattle.turning_points.specs.three_point.Run.{half_units, half_units_at_range, three_point, half_units_of_pair}
use Rattle.turning_points.proofs.on_three_point.Sums.{has_range_sums, sum_at_range-added, sum_is, sum_at_range-same}
use Rattle.calibration.specs.Gain.{GainValue}
use Rattle.calibration.specs.History.{history}
use Rattle.calibration.proofs.HistoryBelow.{history_below}
use Rattle.std.specs.Prelude.{All}
use Rattle.tally.specs.declared.cells.Cell.{Cell}
use Rattle.tally.specs.Counts.{count_of, pair_of, total_of}
use Rattle.turning_points.specs.Pairs.{is_pair}
use Rattle.turning_points.specs.three_point.Sums.{sum_at_range}
use Rattle.four_point.specs.residue_join.HalfUnits.{neighbours}
use Rattle.four_point.proofs.on_residue_join.HalfUnits.{counts_its_result}
use Rattle.segment.specs.Segment.{SegmentValue, StandsFor}
use Rattle.segment.specs.Figures.{doubled_cycles, halves_of}
use Rattle.segment.proofs.SideBySide.{neighbours_within}

pub halves_stand : (v : SegmentValue) (h : List ℕ) → StandsFor v h → (lo hi : ℕ) → halves_of v lo hi ≡ three_point h lo hi
halves_stand v h s lo hi = sym (counts_its_result h (count_of v.tally.cells) v.reducer.residue s.result lo hi)

-- over all pairs of classes so far apart
pub range_stands : (v : SegmentValue) (gain : GainValue) (w : List ℤ) (k : ℕ) → StandsFor v (history v.grid gain w) → k < v.grid.classes →
    sum_at_range (halves_of v) k (v.grid.classes - k) ≡ half_units (history v.grid gain w) k
range_stands v gain w k s inside =
    let h = history v.grid gain w in
    let n : v.grid.classes - k + k ≡ v.grid.classes = omega arith in
    sum_at_range-same (halves_of v) (three_point h) k (v.grid.classes - k) (halves_stand v h s)
    ∙ sym (has_range_sums h k (v.grid.classes - k) (subst (λ m. All (λ level. level < m) h) (sym n) (history_below v.grid gain w)))

picked : (b : Bool) (n m t : ℕ) → m ≤ t → (if b then n else m) ≤ n + t
picked true n m t h = omega arith
picked false n m t h = omega arith

pub count_few : (cells : List Cell) (lo hi : ℕ) → count_of cells lo hi ≤ total_of cells
count_few [] lo hi = omega arith
count_few (c ∷ cells) lo hi = omega (
  arith,
  picked (is_pair lo hi (pair_of c)) c.n (count_of cells lo hi) (total_of cells)
      (count_few cells lo hi),
  sum_by-cons (λ (d : Cell). d.n) c cells,
)

pub halves_few : (v : SegmentValue) (n m : ℕ) (lo hi : ℕ) → 2 * total_of v.tally.cells ≤ 2 ^ 40 → m ≤ 2 ^ 41 →
    n ≡ count_of v.tally.cells lo hi → 2 * n + m ≤ 2 ^ 42
halves_few v n m lo hi h k e = omega (arith, count_few v.tally.cells lo hi)

-- cycles and neighbours apart
pub range_parts : (v : SegmentValue) (k : ℕ) → All (λ level. level < v.grid.classes) v.reducer.residue → k < v.grid.classes →
    sum_at_range (doubled_cycles v) k (v.grid.classes - k) + half_units_at_range k (neighbours v.reducer.residue) ≡ sum_at_range
    (halves_of v) k (v.grid.classes - k)
range_parts v k below inside =
    let r = neighbours v.reducer.residue in
    let n : v.grid.classes - k + k ≡ v.grid.classes = omega arith in
    let all = neighbours_within (v.grid.classes - k + k) v.reducer.residue
    (subst (λ m. All (λ level. level < m) v.reducer.residue) (sym n) below) in
    omega (
      arith,
      sum_at_range-added (doubled_cycles v) (λ lo hi. half_units_of_pair lo hi r) k (v.grid.classes - k),
      sum_is k (v.grid.classes - k) r all,
    )
