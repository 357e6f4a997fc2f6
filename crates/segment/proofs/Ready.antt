-- What loading the counts asks for follows from the rules of the parts.
use Rattle.std.proofs.Common.{◌≡◌, ◌≢◌, ◌⊎◌, inl, inr, ℕ, ◌-◌, ◌<◌, ◌≤◌, List, [], ◌∷◌, length, sym, ap, subst, ◌∙◌, arith}
use Rattle.std.specs.Prelude.{All, Bool, true, false, IsTrue, MatchBool, slice_index}
use Rattle.std.proofs.lemmas.Bool.{false≢true}
use Rattle.std.proofs.lemmas.List.Elements.{All-nil, All-cons, All-head, All-tail}
use Rattle.tally.specs.declared.cells.Bin.{Bin}
use Rattle.turning_points.specs.EndPoints.{EndPoints, IsEnds}
use Rattle.turning_points.specs.Points.{IsTurn}
use Rattle.turning_points.specs.declared.ends.TheConstants.{MAX_POINTS}
use Rattle.turning_points.proofs.Zigzag.{IsZigzag, inner}
use Rattle.turning_points.proofs.Over.{zig_own}
use Rattle.four_point.specs.Residue.{IsResidue, ReducerValue}
use Rattle.calibration.specs.Grid.{GridValue, IsGrid}
use Rattle.simple_counts.specs.Loading.{CanLoad}
use Rattle.segment.specs.segment_rules.Parts.{PartsValue}
use Rattle.segment.specs.segment_rules.Rules.{EndsAgree, AreSegmentParts}
use Rattle.lemmas.proofs.Naturals.{few_cases}

apart : (x y z : ℕ) → IsTurn y x z → x ≢ y
apart x y z h e = absurd (by x y z h e)
  where
    by : (x y z : ℕ) → IsTurn y x z → x ≡ y → ⊥
    by x y z h e = grind arith

three_turn : (r : List ℕ) → length r ≡ 3 → IsZigzag r → IsTurn (slice_index r 0) (slice_index r 1) (slice_index r 2)
three_turn [] e g = absurd (omega (arith, e))
three_turn (x ∷ []) e g = absurd (omega (arith, e))
three_turn (x ∷ y ∷ []) e g = absurd (omega (arith, e))
three_turn (x ∷ y ∷ z ∷ l) e (inner t g) = t

pub long_enough : (p n : ℕ) → 2 ≤ p → (p ≤ 3 → n ≡ p) → (4 ≤ p → 2 ≤ n) → 2 ≤ n
long_enough p n h s l = grind arith

at_place : (r : List ℕ) (i j : ℕ) → i ≡ j → (slice_index r i) ≡ (slice_index r j)
at_place r i j e = ap (λ k. (slice_index r k)) e

module _ (k : ℕ) (e : EndPoints) (r : List ℕ) (some : 1 ≤ k) (res : IsResidue k r) (i : EndsAgree k e r) where
  ends_more : 2 ≤ e.points → IsEnds k e
  ends_more m =
      let is = i.more m in
      let n = long_enough e.points (length r) m i.short i.long in
      let first = res.within 0 0 (omega (arith, n)) in
      let last = res.within (length r - 1) 0 (omega (arith, n)) in
      record {
        none = λ z. absurd (omega (arith, m, z));
        one = λ z. absurd (omega (arith, m, z));
        differ = λ le. (λ f. apart _ _ _ is.second_side (sym is.first_is ∙ f), λ f. apart _ _ _ is.before_side (sym is.last_is ∙ sym f));
        two = λ z. (
          let l = i.short (omega (arith, z)) in (is.two z).1 ∙ at_place r (length r - 2) 0 (omega (arith, l, z)) ∙ sym is.first_is,
          let l = i.short (omega (arith, z)) in is.last_is ∙ at_place r (length r - 1) 1 (omega (arith, l, z)) ∙ sym (is.two z).0,
        );
        three = λ z. (
          (is.three z).1 ∙ sym (is.three z).0,
          let l = i.short (omega (arith, z)) in
              let t = three_turn r (omega (arith, l, z)) (zig_own r res.own) in
              subst (λ x. IsTurn x e.second e.last) (sym is.first_is) (subst (λ y. IsTurn (slice_index r 0) y e.last) (sym (is.three z).0)
              (subst (λ y. IsTurn (slice_index r 0) (slice_index r 1) y) (sym
              (is.last_is ∙ at_place r (length r - 1) 2 (omega (arith, l, z)))) t)),
        );
        below = (omega (arith, is.first_is, first), is.second_below, is.before_below, omega (arith, is.last_is, last));
      }

  ends_by : ((e.points ≡ 0) ⊎ ((e.points ≡ 1) ⊎ (2 ≤ e.points))) → IsEnds k e
  ends_by (inl z) =
      let is = i.none z in
      let a = ap (λ (v : EndPoints). v.first) is in let b = ap (λ (v : EndPoints). v.second) is in let c = ap (λ (v : EndPoints). v.before)
      is in let d = ap (λ (v : EndPoints). v.last) is in
      record {
        none = λ h. (a, b, c, d);
        one = λ h. absurd (omega (arith, z, h));
        differ = λ h. absurd (omega (arith, z, h));
        two = λ h. absurd (omega (arith, z, h));
        three = λ h. absurd (omega (arith, z, h));
        below = (omega (arith, a, some), omega (arith, b, some), omega (arith, c, some), omega (arith, d, some));
      }
  ends_by (inr (inl z)) =
      let is = i.one z in
      let l = i.short (omega (arith, z)) in
      let level = res.within 0 0 (omega (arith, l, z)) in
      let a = ap (λ (v : EndPoints). v.first) is in let b = ap (λ (v : EndPoints). v.second) is in let c = ap (λ (v : EndPoints). v.before)
      is in let d = ap (λ (v : EndPoints). v.last) is in
      record {
        none = λ h. absurd (omega (arith, z, h));
        one = λ h. (b, c, d ∙ sym a);
        differ = λ h. absurd (omega (arith, z, h));
        two = λ h. absurd (omega (arith, z, h));
        three = λ h. absurd (omega (arith, z, h));
        below = (omega (arith, a, level), omega (arith, b, some), omega (arith, c, some), omega (arith, d, level));
      }
  ends_by (inr (inr m)) = ends_more m

  pub ends_are : IsEnds k e
  ends_are = ends_by (few_cases e.points)

pub can_load : (g : GridValue) (p : PartsValue) → IsGrid g → AreSegmentParts g p →
    CanLoad g.classes g.reference p.ends p.peaks p.valleys p.ranges
can_load g p grid s =
    let t = s.summed in
    record {
      ends = ends_are g.classes p.ends p.residue (omega (arith, grid.classes_from)) s.residue s.ended;
      few = omega (arith, t.points, t.readings, t.span.1);
      peaks_are = s.ordered.peaks;
      valleys_are = s.ordered.valleys;
      ranges_are = s.ordered.ranges;
      extremes = t.extremes;
      ranges_sum = t.ranges;
      counted = t.end_ranges;
    }

few_bins : (u : ℕ) (bs : List Bin) → u ≤ MAX_POINTS → All (λ b. b.n < u) bs → All (λ b. b.n ≤ MAX_POINTS) bs
few_bins u [] h a = All-nil (λ (b : Bin). b.n ≤ MAX_POINTS)
few_bins u (b ∷ bs) h a =
    let n = All-head (λ b. b.n < u) b bs a in
    All-cons (λ b. b.n ≤ MAX_POINTS) b bs (omega (arith, n, h)) (few_bins u bs h (All-tail (λ b. b.n < u) b bs a))

-- a residue that was taken
pub loaded_residue : (k : ℕ) (r : List ℕ) (b : Bool) (m old : ReducerValue) → IsTrue b →
    MatchBool b (m ≡ record { classes = k; residue = r }) (m ≡ old) → m ≡ record { classes = k; residue = r }
loaded_residue k r true m old e h = h
loaded_residue k r false m old e h = absurd (false≢true e)
