use Rattle.std.proofs.Common.{◌≡◌, ℕ, ◌+◌, ◌<◌, ◌≤◌, ◌⊎◌, inl, inr, List, length, drop, slice_index, refl, sym, ap, ◌∙◌, subst, arith}
use Rattle.std.specs.Prelude.{All}
use Rattle.std.proofs.lemmas.Bool.{cases_lt}
use Rattle.std.proofs.lemmas.List.{get_or_past}
use Rattle.turning_points.specs.declared.three_point.ranges.Range.{Range}
use Rattle.turning_points.specs.three_point.Run.{half_units_at_range}
use Rattle.turning_points.specs.three_point.Ranges.{counted_ranges}
use Rattle.turning_points.specs.three_point.Bounds.{IsWithin}
use Rattle.turning_points.proofs.on_three_point.RangeByRange.{within_first, half_units_at_range-first, half_units_at_range-past}
use Rattle.turning_points.proofs.three_point.ranges.Ranges.half_units.Goals as goal

abbrev none : Range
none = record { lo = 0; hi = 0; halves = 0 }

zero_by : (s : List ℕ) → ((k : ℕ) → k < length s → slice_index s k ≡ 0) → (k : ℕ) → ((k < length s) ⊎ (length s ≤ k)) → slice_index s k ≡ 0
zero_by s z k (inl h) = z k h
zero_by s z k (inr h) = get_or_past s k 0 h

pub loop-range-init : goal.loop-range-init
loop-range-init c =
    let same : c.deref-range-items.result.now ≡ c.args.self.now = c.deref-range-items.ensures.value ∙ c.self.view_is in
    let zero : (k : ℕ) → slice_index c.fill.new.self k ≡ 0 = λ k. zero_by c.fill.new.self
    (λ j h. c.fill.ensures.clones j 0 (omega (arith, h, c.fill.ensures.len)) refl) k (cases_lt k (length c.fill.new.self)) in
    record {
      left = subst (λ (l : List Range). All (IsWithin (length c.fill.new.self)) (counted_ranges l)) (sym same)
          (subst (λ n. All (IsWithin n) (counted_ranges c.args.self.now)) (sym c.fill.ensures.len) c.requires.within);
      added = λ k inside. omega (arith, zero k, ap (λ (l : List Range). half_units_at_range k (counted_ranges l)) same);
      few = λ k. omega (arith, zero k);
    }

pub add_half_units-requires : goal.add_half_units-requires
add_half_units-requires c =
    let first = within_first _ c.deref-range-items.result.now c.loop-range.range-index none c.loop-range-test.true
    c.loop-range.invariant.left in
    record {
      ordered = first.is.ordered;
      below = first.is.below;
      room = λ k. let f = first.is.few in
          omega (arith, c.loop-range.invariant.few k);
    }

pub loop-range-preserved : goal.loop-range-preserved
loop-range-preserved c =
    let items = c.deref-range-items.result.now in
    let first = within_first _ items c.loop-range.range-index none c.loop-range-test.true c.loop-range.invariant.left in
    let same : length c.loop-range.out ≡ length c.add_half_units.new.out = omega arith in
    record {
      left = subst (λ (n : ℕ). All (IsWithin n) (counted_ranges (drop (c.loop-range.range-index + 1) items))) same first.others;
      added = λ k inside. omega (
        arith,
        half_units_at_range-first k items c.loop-range.range-index none c.loop-range-test.true,
        c.loop-range.invariant.added k (subst (λ (n : ℕ). k < n) (sym same) inside),
        c.add_half_units.ensures.added k
            (subst (λ (n : ℕ). k < n) (sym same) inside),
      );
      few = λ k. let f = first.is.few in omega (arith, c.loop-range.invariant.few k, c.add_half_units.ensures.few k);
    }

pub returns : goal.returns
returns c = λ k inside. let same : length c.loop-range.out ≡ length c.args.out.now = omega arith in
    omega (
      arith,
      half_units_at_range-past k c.deref-range-items.result.now c.loop-range.range-index c.loop-range-test.false,
      c.loop-range.invariant.added k (subst (λ (n : ℕ). k < n) (sym same) inside),
    )
