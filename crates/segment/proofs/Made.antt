-- A segment that was made from parts that keep the rules: it keeps its own, and has these parts.
use Rattle.std.proofs.Common.{◌≡◌, ℕ, ◌-◌, ◌<◌, ◌≤◌, ◌⊎◌, inl, inr, Bool, true, false, List, [], ◌∷◌, length, refl, sym, ap, subst, ◌∙◌, arith}
use Rattle.std.specs.Prelude.{All, ◌==◌, if◌then◌else◌, slice_index}
use Rattle.std.proofs.lemmas.List.Elements.{All-head, All-tail}
use Rattle.tally.specs.declared.cells.Cell.{Cell}
use Rattle.tally.specs.declared.cells.Bin.{Bin}
use Rattle.tally.specs.Counts.{Counts, total_of}
use Rattle.tally.specs.Room.{room_for}
use Rattle.tally.specs.tables.Bins.{count_at}
use Rattle.turning_points.specs.EndPoints.{EndPoints, ends_of}
use Rattle.turning_points.specs.Points.{IsTurn, OnSide}
use Rattle.turning_points.proofs.EndPlaces.{last_place, before_place}
use Rattle.four_point.specs.Residue.{IsResidue, ReducerValue}
use Rattle.calibration.specs.Grid.{GridValue, IsGrid}
use Rattle.simple_counts.specs.level_crossing.Crossings.{CrossingsValue, crossing_count}
use Rattle.simple_counts.specs.level_crossing.Loading.{HasEnds}
use Rattle.simple_counts.specs.Simple.{SimpleValue, IsSimple, peak_count, range_count, valley_count}
use Rattle.segment.specs.segment_rules.Parts.{PartsValue}
use Rattle.segment.specs.segment_rules.Rules.{EndsAgree, AreSegmentParts}
use Rattle.segment.specs.Alike.{Alike}
use Rattle.segment.specs.Segment.{SegmentValue, IsSegment}
use Rattle.segment.specs.Parts.{parts_of}
use Rattle.calibration.specs.declared.limits.TheConstants.{MAX_SAMPLES}
use Rattle.segment.proofs.Listing.{bins_again}
use Rattle.segment.proofs.Ready.{long_enough}
use Rattle.lemmas.proofs.Naturals.{few_cases}

-- no count of bins below a number is above it
bins_below : (u : ℕ) (bs : List Bin) (k : ℕ) → All (λ b. b.n < u) bs → count_at k bs ≤ u - 1
bins_below u bs k a = by bs a
  where
    pick : (b : Bool) (x y : ℕ) → x ≤ u - 1 → y ≤ u - 1 → (if b then x else y) ≤ u - 1
    pick true x y h g = h
    pick false x y h g = g

    by : (bs : List Bin) → All (λ b. b.n < u) bs → count_at k bs ≤ u - 1
    by [] a = omega arith
    by (b ∷ bs) a = let n = All-head (λ b. b.n < u) b bs a in pick (k == b.key) b.n (count_at k bs) (omega (arith, n))
        (by bs (All-tail (λ b. b.n < u) b bs a))

side_of_turn : (p x n q : ℕ) → p ≡ q → IsTurn x q n → OnSide p x n
side_of_turn p x n q e h = grind arith

-- the ends of a residue, where the points' ends lie beside it
module _ (k : ℕ) (e : EndPoints) (r : List ℕ) (i : EndsAgree k e r) where
  first_same : ((e.points ≡ 0) ⊎ ((e.points ≡ 1) ⊎ (2 ≤ e.points))) → (ends_of r).first ≡ e.first
  first_same (inl z) = let n = i.short (omega (arith, z)) in none_first r (omega (arith, n, z))
      ∙ sym (ap (λ (v : EndPoints). v.first) (i.none z))
    where
      none_first : (r : List ℕ) → length r ≡ 0 → slice_index r 0 ≡ 0
      none_first [] h = refl
      none_first (x ∷ r) h = absurd (omega (arith, h))
  first_same (inr (inl z)) = sym (ap (λ (v : EndPoints). v.first) (i.one z))
  first_same (inr (inr m)) = sym (i.more m).first_is

  last_same : ((e.points ≡ 0) ⊎ ((e.points ≡ 1) ⊎ (2 ≤ e.points))) → (ends_of r).last ≡ e.last
  last_same (inl z) = let n = i.short (omega (arith, z)) in none_last r (omega (arith, n, z))
      ∙ sym (ap (λ (v : EndPoints). v.last) (i.none z))
    where
      none_last : (r : List ℕ) → length r ≡ 0 → (ends_of r).last ≡ 0
      none_last [] h = refl
      none_last (x ∷ r) h = absurd (omega (arith, h))
  last_same (inr (inl z)) =
      let n = i.short (omega (arith, z)) in sym (last_place r 0 (omega (arith, n, z))) ∙ sym (ap (λ (v : EndPoints). v.last) (i.one z))
  last_same (inr (inr m)) =
      let n = long_enough e.points (length r) m i.short i.long in sym (last_place r (length r - 1) (omega (arith, n)))
      ∙ sym (i.more m).last_is

  pub alike_are : Alike e (ends_of r)
  alike_are = record {
    short = i.short;
    long = λ m. long_enough e.points (length r) m i.short i.long;
    first = first_same (few_cases e.points);
    last = last_same (few_cases e.points);
    second = λ m. let b = i.more m in side_of_turn e.first e.second (slice_index r 1) (slice_index r 0) b.first_is b.second_side;
    before = λ m.
        let b = i.more m in
        let n = long_enough e.points (length r) m i.short i.long in
        subst (OnSide e.last e.before) (before_place r (length r - 2) (omega (arith, n)))
        (side_of_turn e.last e.before (slice_index r (length r - 2)) (slice_index r (length r - 1)) b.last_is b.before_side);
    three = λ z. sym ((i.more (omega (arith, z))).three z).0;
  }

abbrev pub made_of : GridValue → PartsValue → ℕ → Counts → ReducerValue → CrossingsValue → SimpleValue → SegmentValue
made_of g p n t r x c = record {
  grid = g;
  gauge = p.name.gauge;
  from = p.name.from;
  to = p.name.to;
  longest = n;
  used = p.used;
  missing = p.missing;
  refused = p.refused;
  tally = t;
  reducer = r;
  crossings = x;
  simple = c;
}

module _ (g : GridValue) (p : PartsValue) (n : ℕ) (t : Counts) (r : ReducerValue) (x : CrossingsValue) (c : SimpleValue) (grid : IsGrid g)
    (s : AreSegmentParts g p)
    (longest : (1 ≤ n) × (n ≤ MAX_SAMPLES) × (p.name.to - p.name.from ≤ n))
    (cells : t ≡ record { classes = g.classes; room = room_for g.classes n; cells = p.cells })
    (residue : r ≡ record { classes = g.classes; residue = p.residue })
    (x_grid : (x.classes ≡ g.classes) × (x.reference ≡ g.reference)) (crossed : (l : ℕ) → crossing_count x l ≡ count_at l p.crossings)
    (x_ends : HasEnds x p.ends)
    (c_grid : (c.classes ≡ g.classes) × (c.reference ≡ g.reference)) (rules : IsSimple c) (ends : c.ends ≡ p.ends)
    (ranges : (k : ℕ) → range_count c k ≡ count_at k p.ranges) (peaks : (l : ℕ) → peak_count c l ≡ count_at l p.peaks)
    (valleys : (l : ℕ) → valley_count c l ≡ count_at l p.valleys) where
  abbrev made : EndPoints → List ℕ → List Cell → List Bin → List Bin → List Bin → List Bin → PartsValue
  made e r cells a b v k = record {
    name = p.name;
    used = p.used;
    missing = p.missing;
    refused = p.refused;
    ends = e;
    residue = r;
    cells = cells;
    crossings = a;
    peaks = b;
    valleys = v;
    ranges = k;
  }

  same : (e : EndPoints) (r : List ℕ) (cells : List Cell) (a b v k : List Bin) → e ≡ p.ends → r ≡ p.residue → cells ≡ p.cells →
      a ≡ p.crossings → b ≡ p.peaks → v ≡ p.valleys → k ≡ p.ranges
      → made e r cells a b v k ≡ p
  same e r cells a b v k e0 e1 e2 e3 e4 e5 e6 =
      ap (λ y. made y r cells a b v k) e0 ∙ ap (λ y. made p.ends y cells a b v k) e1 ∙ ap (λ y. made p.ends p.residue y a b v k) e2
      ∙ ap (λ y. made p.ends p.residue p.cells y b v k) e3 ∙ ap (λ y. made p.ends p.residue p.cells p.crossings y v k) e4
      ∙ ap (λ y. made p.ends p.residue p.cells p.crossings p.peaks y k) e5
      ∙ ap (λ y. made p.ends p.residue p.cells p.crossings p.peaks p.valleys y) e6

  pub parts_are : parts_of (made_of g p n t r x c) ≡ p
  parts_are =
      let o = s.ordered in
      let f = grid.classes_from in
      let h = grid.reference_to in
      same c.ends r.residue t.cells _ _ _ _ ends (ap (λ (v : ReducerValue). v.residue) residue) (ap (λ (v : Counts). v.cells) cells)
      (bins_again (crossing_count x) 1 g.classes (g.classes - 1) p.crossings o.crossings (omega (arith, f)) (λ k le. crossed k))
      (bins_again (peak_count c) g.reference g.classes (g.classes - g.reference) p.peaks o.peaks (omega (arith, h)) (λ k le. peaks k))
      (bins_again (valley_count c) 0 g.reference g.reference p.valleys o.valleys (omega arith) (λ k le. valleys k))
      (bins_again (range_count c) 1 g.classes (g.classes - 1) p.ranges o.ranges (omega (arith, f)) (λ k le. ranges k))

  pub made_kept : IsSegment (made_of g p n t r x c)
  made_kept =
      let q = s.summed in
      let points = ap (λ (e : EndPoints). e.points) ends in
      record {
        over = record {
          limits = grid;
          tally = ap (λ (v : Counts). v.classes) cells;
          room = ap (λ (v : Counts). v.room) cells;
          reducer = ap (λ (v : ReducerValue). v.classes) residue;
          crossings = x_grid;
          simple = c_grid;
        };
        span = q.span;
        longest = longest;
        readings = omega (arith, q.readings);
        used = omega (arith, points, q.points);
        none = λ z. q.no_points (omega (arith, z, points));
        balance = omega (
          arith,
          points,
          q.cycles,
          ap (λ (v : ReducerValue). length v.residue) residue,
          ap (λ (v : Counts). total_of v.cells) cells,
        );
        crossed = λ l. omega (arith, crossed l, bins_below p.used p.crossings l q.crossings);
        simple = rules;
        ends = subst (HasEnds x) (sym ends) x_ends;
        residue = subst (IsResidue g.classes) (sym (ap (λ (v : ReducerValue). v.residue) residue)) s.residue;
        alike = subst (λ e. Alike e (ends_of r.residue)) (sym ends) (subst (λ l. Alike p.ends (ends_of l))
            (sym (ap (λ (v : ReducerValue). v.residue) residue)) (alike_are g.classes p.ends p.residue s.ended));
      }
