-- A segment with the counts of a list of points.
use Rattle.std.proofs.Common.{◌≡◌, ℕ, ℤ, ◌+◌, ◌*◌, ◌<◌, ◌≤◌, List, [], ◌∷◌, length, refl, sym, ap, ◌∙◌, subst, arith}
use Rattle.std.specs.Prelude.{All}
use Rattle.calibration.specs.declared.limits.TheConstants.{MAX_SAMPLES}
use Rattle.calibration.specs.Gain.{GainValue}
use Rattle.calibration.specs.Grid.{GridValue}
use Rattle.calibration.specs.History.{history}
use Rattle.turning_points.specs.Points.{points}
use Rattle.turning_points.specs.EndPoints.{EndPoints, IsEnds, ends_of, last_point}
use Rattle.turning_points.proofs.Over.{zig_own}
use Rattle.turning_points.proofs.PushEnds.{list_ends}
use Rattle.tally.specs.Counts.{Counts, count_of, total_of}
use Rattle.four_point.specs.Reduction.{IsFourPointResult}
use Rattle.four_point.specs.Residue.{AddsCycles, IsResidue, ReducerValue}
use Rattle.four_point.proofs.Unique.{chain_of}
use Rattle.calibration.proofs.HistoryBelow.{history_below}
use Rattle.turning_points.proofs.Levels.{All-points}
use Rattle.simple_counts.specs.level_crossing.Crossings.{CrossingsValue, crossing_count, crossings, start_level, has_level}
use Rattle.simple_counts.proofs.on_level_crossing.OfPoints.{crossings_few}
use Rattle.simple_counts.specs.Simple.{SimpleValue, IsSimple}
use Rattle.simple_counts.proofs.OfPoints.{level_below}
use Rattle.segment.specs.Alike.{Alike}
use Rattle.segment.specs.Segment.{SegmentValue, IsSegment}
use Rattle.turning_points.proofs.Put.{side_self}
use Rattle.segment.proofs.Deleted.{chain_alike}
use Rattle.segment.proofs.SameEnds.{listed_ends}

self_alike : (k : ℕ) (e : EndPoints) → IsEnds k e → Alike e e
self_alike k e i = record {
  short = λ q. refl;
  long = λ q. q;
  first = refl;
  last = refl;
  second = λ q. side_self e.first e.second
      (i.differ q).0;
  before = λ q. side_self e.last e.before (λ p. (i.differ q).1 (sym p));
  three = λ q. refl;
}

pub block_rules : (v : SegmentValue) (p : List ℕ) (u m f : ℕ) (t : Counts) (q : ReducerValue) (x : CrossingsValue) (z : SimpleValue) →
    IsSegment v → points p ≡ p → All (λ l. l < v.grid.classes) p → length p ≤ u → (length p ≡ 0 → u ≡ 0) →
    v.from + (u + m + f) ≤ MAX_SAMPLES → u + m + f ≤ v.longest →
    AddsCycles p (λ lo hi. 0) q.residue (count_of t.cells) → 2 * total_of t.cells + length q.residue ≡ length p →
    IsResidue q.classes q.residue → q.classes ≡ v.reducer.classes → t.classes ≡ v.tally.classes → t.room ≡ v.tally.room →
    (x.classes ≡ v.crossings.classes) × (x.reference ≡ v.crossings.reference) → x.some ≡ has_level p → x.first ≡ start_level p →
    x.last ≡ last_point p → ((l : ℕ) → crossing_count x l ≡ crossings v.crossings.reference l p) →
    (z.classes ≡ v.simple.classes) × (z.reference ≡ v.simple.reference) → z.ends ≡ ends_of p → IsSimple z →
    IsSegment (record {
      grid = v.grid;
      gauge = v.gauge;
      from = v.from;
      to = v.from + (u + m + f);
      longest = v.longest;
      used = u;
      missing = m;
      refused = f;
      tally = t;
      reducer = q;
      crossings = x;
      simple = z;
    })
block_rules v p u m f t q x z i own_p below few none room long s b r qc tc rc xg xs xf xl xn zg ze zc =
    let o = i.over in
    let k = v.grid.classes in
    let g = o.limits.classes_from in
    let y = zig_own p own_p in
    let e = list_ends k p (omega arith) y (λ j h. level_below k p j below h) in
    let a = chain_alike (ends_of p) y (chain_of s.pairs y s.by) (self_alike k (ends_of p) e) in
    let n = ap (λ w. w.points) ze in
    let c = i.longest in
    record {
      over = record {
        limits = o.limits;
        tally = tc ∙ o.tally;
        room = rc ∙ o.room;
        reducer = qc ∙ o.reducer;
        crossings = (xg.0 ∙ o.crossings.0, xg.1 ∙ o.crossings.1);
        simple = (zg.0 ∙ o.simple.0, zg.1 ∙ o.simple.1);
      };
      span = (omega arith, room);
      longest = (c.0, c.1, omega arith);
      readings = omega arith;
      used = omega arith;
      none = λ w. none (sym n ∙ w);
      balance = omega arith;
      crossed = λ l. omega (arith, xn l, crossings_few v.crossings.reference l p);
      simple = zc;
      ends = listed_ends p x z.ends xs xf xl ze;
      residue = subst (λ w. IsResidue w q.residue) (qc ∙ o.reducer) r;
      alike = subst (λ w. Alike w (ends_of q.residue)) (sym ze) a;
    }

pub closes_result : (p r : List ℕ) (c : ℕ → ℕ → ℕ) (k : ℕ) → AddsCycles p (λ lo hi. 0) r c → IsResidue k r → IsFourPointResult p c r
closes_result p r c k s i =
    record { pairs = s.pairs; by = s.by; counts = λ lo hi. omega (arith, s.counts lo hi); irreducible = i.irreducible }

pub points_below : (grid : GridValue) (gain : GainValue) (w : List ℤ) (p : List ℕ) (k : ℕ) → p ≡ points (history grid gain w) →
    grid.classes ≡ k → All (λ l. l < k) p
points_below grid gain w p k e n = subst (λ j. All (λ l. l < j) p) n (subst (All (λ l. l < grid.classes)) (sym e)
    (All-points (λ l. l < grid.classes) (history grid gain w) (history_below grid gain w)))

pub no_points : (h p : List ℕ) → p ≡ points h → length p ≡ 0 → length h ≡ 0
no_points [] p e n = refl
no_points (x ∷ h) p e n = absurd (omega (arith, ap length e))
