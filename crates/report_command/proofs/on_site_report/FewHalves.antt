-- The half units of a segment at all ranges together are no more than its points.
--   halves_few   so a list of them has a sum within the limit of a damage
use Rattle.std.proofs.Common.{◌≡◌, ℕ, zero, suc, ◌+◌, ◌-◌, ◌*◌, ◌^◌, ◌<◌, ◌≤◌, List, [], ◌∷◌, length, get_or, refl, subst, arith}
use Rattle.std.specs.Prelude.{sum, slice_index}
use Rattle.std.proofs.lemmas.List.Sums.{sum_by-cons}
use Rattle.turning_points.specs.three_point.Run.{half_units_at_range}
use Rattle.turning_points.specs.three_point.Sums.{sum_at_range}
use Rattle.turning_points.proofs.on_three_point.Sums.{sum_at_range-doubled}
use Rattle.tally.specs.Counts.{count_of}
use Rattle.four_point.specs.residue_join.HalfUnits.{neighbours}
use Rattle.segment.specs.Segment.{SegmentValue, IsSegment}
use Rattle.segment.specs.Figures.{halves_of}
use Rattle.segment.proofs.HalfUnits.{range_parts}
use Rattle.segment.proofs.TableSums.{sum_from, sum_both}
use Rattle.report.proofs.RangeSums.{cells_few, residue_few}

-- the sum of a list by its places
list_sum : (xs : List ℕ) (f : ℕ → ℕ) (a : ℕ) → ((i : ℕ) → i < length xs → get_or xs i 0 ≤ f (a + i)) → sum xs ≤ sum_from f a (length xs)
list_sum [] f a h = omega arith
list_sum (x ∷ xs) f a h =
    let first : x ≤ f a = subst (λ k. x ≤ f k) (omega arith) (h 0 (omega arith)) in
    let rest = list_sum xs f (a + 1) (λ i lt. subst (λ k. get_or xs i 0 ≤ f k) (omega arith) (h (suc i) (omega (arith, lt)))) in
    omega (arith, sum_by-cons (λ y. y) x xs, first, rest)

module _ (v : SegmentValue) (i : IsSegment v) (halves : List ℕ) (places : length halves ≡ v.grid.classes) where
  -- the half units at a range, the cycles' and the residue's
  abbrev parts : ℕ → ℕ
  parts k = 2 * sum_at_range (count_of v.tally.cells) k (v.grid.classes - k) + half_units_at_range k (neighbours v.reducer.residue)

  by_parts : (k : ℕ) → k < v.grid.classes → sum_at_range (halves_of v) k (v.grid.classes - k) ≡ parts k
  by_parts k inside = omega (
    arith,
    range_parts v k i.residue.within inside,
    sum_at_range-doubled (count_of v.tally.cells) k
        (v.grid.classes - k),
  )

  doubled_sum : (a n : ℕ) → sum_from (λ k. 2 * sum_at_range (count_of v.tally.cells) k (v.grid.classes - k)) a n
      ≡ 2 * sum_from (λ k. sum_at_range (count_of v.tally.cells) k (v.grid.classes - k)) a n
  doubled_sum a zero = refl
  doubled_sum a (suc n) = omega (arith, doubled_sum (a + 1) n)

  parts_few : sum_from parts 0 (length halves) ≤ v.simple.ends.points
  parts_few = omega (
    arith,
    sum_both (λ k. 2 * sum_at_range (count_of v.tally.cells) k (v.grid.classes - k))
        (λ k. half_units_at_range k (neighbours v.reducer.residue)) 0
        (length halves),
    doubled_sum 0 (length halves),
    cells_few v.tally.cells (λ k. v.grid.classes - k) 0 (length halves),
    residue_few v.reducer.residue 0 (length halves),
    i.balance,
  )

  pub halves_few : slice_index halves 0 ≡ 0
      → ((k : ℕ) → 1 ≤ k → k < v.grid.classes → slice_index halves k ≡ sum_at_range (halves_of v) k (v.grid.classes - k))
      → sum halves ≤ 2 ^ 42
  halves_few none each =
      let at : (k : ℕ) → k < length halves → get_or halves k 0 ≤ parts (0 + k) = λ k inside. there k (omega (arith, inside, places)) in
      let all = list_sum halves parts 0 at in
      let span = i.span in
      omega (arith, all, parts_few, i.used, i.readings, span)
    where
      at_place : (k : ℕ) → k < v.grid.classes → get_or halves k 0 ≤ parts k
      at_place zero inside = omega (arith, none)
      at_place (suc k) inside = omega (arith, each (suc k) (omega arith) inside, by_parts (suc k) inside)

      there : (k : ℕ) → k < v.grid.classes → get_or halves k 0 ≤ parts (0 + k)
      there k inside = let e : k ≡ 0 + k = omega arith in subst (λ m. get_or halves k 0 ≤ parts m) e (at_place k inside)
