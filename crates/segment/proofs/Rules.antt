-- The rules of a segment are kept.
--   empty_rules    by a segment of no samples
--   taken_rules    where a level is taken
--   joined_rules   where two parts are joined
use Rattle.std.proofs.Common.{◌≡◌, ℕ, zero, suc, ◌+◌, ◌-◌, ◌*◌, ◌<◌, ◌≤◌, Bool, true, false, ◌&&◌, ◌||◌, if◌then◌else◌, [], ◌∷◌, ◌++◌, length, get_or, refl, sym, ap, ◌∙◌, subst, arith}
use Rattle.calibration.specs.declared.limits.TheConstants.{MAX_SAMPLES}
use Rattle.calibration.specs.Grid.{GridValue, IsGrid}
use Rattle.turning_points.specs.Points.{points}
use Rattle.turning_points.specs.EndPoints.{IsEnds, ends_of, ends_push, ends_of_both, only_point}
use Rattle.turning_points.proofs.Zigzag.{one as single}
use Rattle.turning_points.proofs.MeetEnds.{ends_of_both_few}
use Rattle.turning_points.proofs.PushEnds.{list_ends, ends_of_both_none, push_is_meets}
use Rattle.tally.specs.Counts.{Counts, count_of, total_of}
use Rattle.tally.specs.Room.{room_for}
use Rattle.four_point.specs.Residue.{AddsCycles, IsResidue, ReducerValue}
use Rattle.four_point.proofs.Index.{residue_none}
use Rattle.simple_counts.specs.level_crossing.Crossings.{CrossingsValue, joint_crossings, crossing_count, no_crossings}
use Rattle.simple_counts.proofs.on_level_crossing.PushJoin.{none_counted}
use Rattle.simple_counts.proofs.on_level_crossing.OfPoints.{few_added}
use Rattle.simple_counts.specs.Simple.{SimpleValue, IsSimple, nothing}
use Rattle.segment.specs.Alike.{Alike}
use Rattle.segment.specs.Segment.{SegmentValue, IsSegment, empty_at}
use Rattle.segment.proofs.Residues.{left, residue_ends}
use Rattle.segment.proofs.SameEnds.{joined_ends, pushed_ends, some_used}

pub one_alike : (y : ℕ) → Alike (only_point y) (ends_of (y ∷ []))
one_alike y = record {
  short = λ q. refl;
  long = λ q. absurd (omega arith);
  first = refl;
  last = refl;
  second = λ q. absurd (omega arith);
  before = λ q. absurd (omega arith);
  three = λ q. absurd (omega arith);
}

pub one_ends : (k y : ℕ) → y < k → IsEnds k (ends_of (y ∷ []))
one_ends k y h = list_ends k (y ∷ []) (omega arith) single (λ i p. at i p)
  where
    at : (i : ℕ) → i < 1 → get_or (y ∷ []) i 0 < k
    at zero p = h
    at (suc i) p = absurd (omega arith)

crossed_more : (b : Bool) (r l x y n used : ℕ) → (b ≡ true → 1 ≤ used) → n ≤ used - 1 → n + joint_crossings b r l x y ≤ used
crossed_more true r l x y n used f h = let o = f refl in omega (arith, few_added r l x y)
crossed_more false r l x y n used f h = omega arith

pub crossed_both : (a b : Bool) (r l x y m n s t : ℕ) → (a ≡ true → 1 ≤ s) → (b ≡ true → 1 ≤ t) → m ≤ s - 1 → n ≤ t - 1 →
    m + n + joint_crossings (a && b) r l x y ≤ s + t - 1
crossed_both true true r l x y m n s t f g h k = let o = f refl in let p = g refl in omega (arith, few_added r l x y)
crossed_both true false r l x y m n s t f g h k = omega arith
crossed_both false b r l x y m n s t f g h k = omega arith

pub taken_rules : (v : SegmentValue) (y : ℕ) (t : Counts) (q : ReducerValue) (x : CrossingsValue) (z : SimpleValue) → IsSegment v →
    y < v.grid.classes → v.to < MAX_SAMPLES → v.to - v.from < v.longest →
    AddsCycles (points (v.reducer.residue ++ (y ∷ []))) (count_of v.tally.cells) q.residue (count_of t.cells) →
    2 * total_of t.cells + length q.residue ≡ 2 * total_of v.tally.cells + length (points (v.reducer.residue ++ (y ∷ []))) →
    IsResidue q.classes q.residue → q.classes ≡ v.reducer.classes → t.classes ≡ v.tally.classes → t.room ≡ v.tally.room →
    (x.classes ≡ v.crossings.classes) × (x.reference ≡ v.crossings.reference) → x.some ≡ true →
    x.first ≡ (if v.crossings.some then v.crossings.first else y) → x.last ≡ y →
    ((l : ℕ) → crossing_count x l ≡ crossing_count v.crossings l
    + joint_crossings v.crossings.some v.crossings.reference l v.crossings.last y) →
    (z.classes ≡ v.simple.classes) × (z.reference ≡ v.simple.reference) → z.ends ≡ ends_push y v.simple.ends → IsSimple z →
    IsSegment (record {
      grid = v.grid;
      gauge = v.gauge;
      from = v.from;
      to = v.to + 1;
      longest = v.longest;
      used = v.used + 1;
      missing = v.missing;
      refused = v.refused;
      tally = t;
      reducer = q;
      crossings = x;
      simple = z;
    })
taken_rules v y t q x z i h room long j b s qc tc rc xg xs xf xl xn zg ze zc =
    let o = i.over in
    let k = v.grid.classes in
    let g = o.limits.classes_from in
    let w = one_ends k y h in
    let e : IsEnds k v.simple.ends = subst (λ n. IsEnds n v.simple.ends) o.simple.0 i.simple.ends in
    let r = left k v.simple.ends (only_point y) v.reducer.residue (y ∷ []) q.residue _ _ (total_of v.tally.cells) 0 (total_of t.cells) e w
    (residue_ends k v.reducer.residue (omega arith) i.residue) w i.alike (one_alike y) i.residue.own refl i.balance refl j
    (omega (arith, b)) in
    let f = ze ∙ push_is_meets k y v.simple.ends e in
    let p = ap (λ n. n.points) f in
    let a = ends_of_both_few k v.simple.ends (only_point y) e w in
    let c = i.span in
    let d = i.longest in
    record {
      over = record {
        limits = o.limits;
        tally = tc ∙ o.tally;
        room = rc ∙ o.room;
        reducer = qc ∙ o.reducer;
        crossings = (xg.0 ∙ o.crossings.0, xg.1 ∙ o.crossings.1);
        simple = (zg.0 ∙ o.simple.0, zg.1 ∙ o.simple.1);
      };
      span = (omega arith, omega arith);
      longest = (d.0, d.1, omega arith);
      readings = omega (arith, i.readings);
      used = omega (arith, i.used);
      none = λ n. let m = ends_of_both_none k v.simple.ends (only_point y) e w (sym p ∙ n) in absurd (let u = m.1 in omega arith);
      balance = omega (arith, r.balance);
      crossed = λ l. omega (
        arith,
        xn l,
        crossed_more v.crossings.some v.crossings.reference l v.crossings.last y (crossing_count v.crossings l)
            v.used (some_used v.crossings v.simple.ends v.used i.ends i.used) (i.crossed l),
      );
      simple = zc;
      ends = pushed_ends k y v.crossings x v.simple.ends z.ends e w i.ends xs xf xl ze;
      residue = subst (λ n. IsResidue n q.residue) (qc ∙ o.reducer) s;
      alike = subst (λ n. Alike n (ends_of q.residue)) (sym f) r.alike;
    }

pub joined_rules : (v w : SegmentValue) (m t : Counts) (q : ReducerValue) (x : CrossingsValue) (z : SimpleValue) → IsSegment v →
    IsSegment w → v.grid ≡ w.grid → v.to ≡ w.from → (v.to - v.from) + (w.to - w.from) ≤ v.longest →
    total_of m.cells ≡ total_of v.tally.cells + total_of w.tally.cells →
    AddsCycles (points (v.reducer.residue ++ w.reducer.residue)) (count_of m.cells) q.residue (count_of t.cells) →
    2 * total_of t.cells + length q.residue ≡ 2 * total_of m.cells + length (points (v.reducer.residue ++ w.reducer.residue)) →
    IsResidue q.classes q.residue → q.classes ≡ v.reducer.classes → t.classes ≡ v.tally.classes → t.room ≡ v.tally.room →
    (x.classes ≡ v.crossings.classes) × (x.reference ≡ v.crossings.reference) → x.some ≡ (v.crossings.some || w.crossings.some) →
    x.first ≡ (if v.crossings.some then v.crossings.first else w.crossings.first) →
    x.last ≡ (if w.crossings.some then w.crossings.last else v.crossings.last) →
    ((l : ℕ) → crossing_count x l ≡ crossing_count v.crossings l + crossing_count w.crossings l
    + joint_crossings (v.crossings.some && w.crossings.some)
    v.crossings.reference l v.crossings.last w.crossings.first) →
    (z.classes ≡ v.simple.classes) × (z.reference ≡ v.simple.reference) → z.ends ≡ ends_of_both v.simple.ends w.simple.ends → IsSimple z →
    IsSegment (record {
      grid = v.grid;
      gauge = v.gauge;
      from = v.from;
      to = w.to;
      longest = v.longest;
      used = v.used + w.used;
      missing = v.missing + w.missing;
      refused = v.refused + w.refused;
      tally = t;
      reducer = q;
      crossings = x;
      simple = z;
    })
joined_rules v w m t q x z i j n next long tt y b s qc tc rc xg xs xf xl xn zg ze zc =
    let o = i.over in
    let k = v.grid.classes in
    let u : w.grid.classes ≡ k = ap (λ g. g.classes) (sym n) in
    let g = o.limits.classes_from in
    let e : IsEnds k v.simple.ends = subst (λ a. IsEnds a v.simple.ends) o.simple.0 i.simple.ends in
    let f : IsEnds k w.simple.ends = subst (λ a. IsEnds a w.simple.ends) (j.over.simple.0 ∙ u) j.simple.ends in
    let h : IsResidue k w.reducer.residue = subst (λ a. IsResidue a w.reducer.residue) u j.residue in
    let r = left k v.simple.ends w.simple.ends v.reducer.residue w.reducer.residue q.residue _ _ (total_of v.tally.cells)
    (total_of w.tally.cells) (total_of t.cells) e f (residue_ends k v.reducer.residue (omega arith) i.residue)
    (residue_ends k w.reducer.residue (omega arith) h) i.alike j.alike i.residue.own j.residue.own i.balance j.balance y
    (omega (arith, b, tt)) in
    let p = ap (λ c. c.points) ze in
    let a = ends_of_both_few k v.simple.ends w.simple.ends e f in
    let c = i.span in
    let d = j.span in
    let l = i.longest in
    record {
      over = record {
        limits = o.limits;
        tally = tc ∙ o.tally;
        room = rc ∙ o.room;
        reducer = qc ∙ o.reducer;
        crossings = (xg.0 ∙ o.crossings.0, xg.1 ∙ o.crossings.1);
        simple = (zg.0 ∙ o.simple.0, zg.1 ∙ o.simple.1);
      };
      span = (omega arith, d.1);
      longest = (l.0, l.1, omega arith);
      readings = omega (arith, i.readings, j.readings);
      used = omega (arith, i.used, j.used);
      none = λ e0. let k0 = ends_of_both_none k v.simple.ends w.simple.ends e f (sym p ∙ e0) in omega (arith, i.none k0.0, j.none k0.1);
      balance = omega (arith, r.balance);
      crossed = λ l0. omega (
        arith,
        xn l0,
        crossed_both v.crossings.some w.crossings.some v.crossings.reference l0 v.crossings.last
            w.crossings.first (crossing_count v.crossings l0) (crossing_count w.crossings l0) v.used w.used
            (some_used v.crossings v.simple.ends v.used i.ends i.used) (some_used w.crossings w.simple.ends w.used j.ends j.used)
            (i.crossed l0) (j.crossed l0),
      );
      simple = zc;
      ends = joined_ends k v.crossings w.crossings x v.simple.ends w.simple.ends z.ends e f i.ends j.ends xs xf xl ze;
      residue = subst (λ a0. IsResidue a0 q.residue) (qc ∙ o.reducer) s;
      alike = subst (λ a0. Alike a0 (ends_of q.residue)) (sym ze) r.alike;
    }

pub empty_rules : (grid : GridValue) (gauge from longest : ℕ) (z : SimpleValue) → IsGrid grid → from ≤ MAX_SAMPLES → 1 ≤ longest →
    longest ≤ MAX_SAMPLES → z ≡ nothing grid.classes grid.reference → IsSimple z → IsSegment (empty_at grid gauge from longest)
empty_rules grid gauge from longest z l f o m e c = record {
  over = record { limits = l; tally = refl; room = refl; reducer = refl; crossings = (refl, refl); simple = (refl, refl) };
  span = (omega arith, f);
  longest = (o, m, omega arith);
  readings = omega arith;
  used = omega arith;
  none = λ n. refl;
  balance = omega arith;
  crossed = λ n. omega (arith, none_counted (no_crossings grid.classes grid.reference) _ _ refl n);
  simple = subst IsSimple e c;
  ends = (refl, refl, refl);
  residue = residue_none grid.classes;
  alike = record {
    short = λ q. refl;
    long = λ q. absurd (omega arith);
    first = refl;
    last = refl;
    second = λ q. absurd (omega arith);
    before = λ q. absurd (omega arith);
    three = λ q. absurd (omega arith);
  };
}

same_parts : (v : SegmentValue) (grid : GridValue) (gauge from longest : ℕ) (t : Counts) (q : ReducerValue) (x : CrossingsValue)
    (z : SimpleValue) → t ≡ record { classes = grid.classes; room = room_for grid.classes longest; cells = [] } →
    q ≡ record { classes = grid.classes; residue = [] } → x ≡ no_crossings grid.classes grid.reference →
    z ≡ nothing grid.classes grid.reference →
    ◌≡◌ {A = SegmentValue} (empty_at grid gauge from longest) (record {
      grid = grid;
      gauge = gauge;
      from = from;
      to = from;
      longest = longest;
      used = 0;
      missing = 0;
      refused = 0;
      tally = t;
      reducer = q;
      crossings = x;
      simple = z;
    })
same_parts v grid gauge from longest t q x z a b c d = cc

tally_none : (k l r s : ℕ) → k ≡ l → r ≡ s →
    ◌≡◌ {A = Counts} (record { classes = k; room = r; cells = [] }) (record { classes = l; room = s; cells = [] })
tally_none k l r s a b = cc

pub cleared_rules : (v : SegmentValue) (gauge from : ℕ) (t : Counts) (q : ReducerValue) (x : CrossingsValue) (z : SimpleValue) →
    IsSegment v → from ≤ MAX_SAMPLES → t ≡ record { classes = v.tally.classes; room = v.tally.room; cells = [] } →
    q ≡ record { classes = v.reducer.classes; residue = [] } → x ≡ no_crossings v.crossings.classes v.crossings.reference →
    z ≡ nothing v.simple.classes v.simple.reference → IsSimple z →
    IsSegment (record {
      grid = v.grid;
      gauge = gauge;
      from = from;
      to = from;
      longest = v.longest;
      used = 0;
      missing = 0;
      refused = 0;
      tally = t;
      reducer = q;
      crossings = x;
      simple = z;
    })
cleared_rules v gauge from t q x z i f a b c d n =
    let o = i.over in
    let a' = a ∙ tally_none v.tally.classes v.grid.classes v.tally.room (room_for v.grid.classes v.longest) o.tally o.room in
    let b' = b ∙ ap (λ k. record { classes = k; residue = [] }) o.reducer in
    let c' = c ∙ ap (λ k. no_crossings k v.crossings.reference) o.crossings.0 ∙ ap (λ k. no_crossings v.grid.classes k) o.crossings.1 in
    let d' = d ∙ ap (λ k. nothing k v.simple.reference) o.simple.0 ∙ ap (λ k. nothing v.grid.classes k) o.simple.1 in
    subst IsSegment (same_parts v v.grid gauge from v.longest t q x z a' b' c' d')
    (empty_rules v.grid gauge from v.longest z o.limits f i.longest.0 i.longest.1 d' n)
