-- What a list of segments holds does not change where its first two are replaced by their joint.
use Rattle.std.proofs.Common.{◌≡◌, ℕ, ◌+◌, ◌*◌, List, [], ◌∷◌, ◌++◌, refl, ap, arith, append_assoc}
use Rattle.std.specs.Prelude.{sum_by}
use Rattle.std.proofs.lemmas.List.Sums.{sum_by-cons}
use Rattle.turning_points.specs.Points.{points}
use Rattle.turning_points.specs.three_point.Run.{three_point}
use Rattle.tally.specs.Counts.{count_of}
use Rattle.four_point.specs.Reduction.{count_in}
use Rattle.four_point.specs.Residue.{AddsCycles, IsResidue}
use Rattle.four_point.proofs.on_residue_join.HalfUnits.{takes_half_units}
use Rattle.segment.specs.Segment.{SegmentValue}
use Rattle.segment.specs.Figures.{SameKept, residues, last_end}

-- the residue for the two residues, where the cycles gained count two half units
pub joined_halves : (r s n : List ℕ) (k : ℕ) (c m : ℕ → ℕ → ℕ) → AddsCycles (points (r ++ s)) c n m → IsResidue k n →
    (q : List ℕ) (lo hi : ℕ) → 2 * m lo hi + three_point (n ++ q) lo hi ≡ 2 * c lo hi + three_point (r ++ (s ++ q)) lo hi
joined_halves r s n k c m u i q lo hi =
    let t = takes_half_units [] (r ++ s) q (λ a b. count_in a b u.pairs) n
    (record { pairs = u.pairs; by = u.by; counts = λ a b. refl; irreducible = i.irreducible }) lo hi in
    omega (arith, t, u.counts lo hi, ap (λ l. three_point l lo hi) (append_assoc r s q))

two_last : (x v w : SegmentValue) (l : List SegmentValue) → x.to ≡ w.to → last_end (x ∷ l) ≡ last_end (v ∷ w ∷ l)
two_last x v w [] e = e
two_last x v w (y ∷ l) e = refl

two_sums : (f : SegmentValue → ℕ) (x v w : SegmentValue) (l : List SegmentValue) → f x ≡ f v + f w → sum_by f (x ∷ l) ≡ sum_by f (v ∷ w ∷ l)
two_sums f x v w l e = omega (arith, e, sum_by-cons f x l, sum_by-cons f v (w ∷ l), sum_by-cons f w l)

pub same_kept : (x v w : SegmentValue) → x.to ≡ w.to → x.used ≡ v.used + w.used → x.missing ≡ v.missing + w.missing →
    x.refused ≡ v.refused + w.refused →
    ((q : List ℕ) (lo hi : ℕ) → 2 * count_of x.tally.cells lo hi + three_point (x.reducer.residue ++ q) lo hi ≡ 2 *
    (count_of v.tally.cells lo hi + count_of w.tally.cells lo hi) + three_point (v.reducer.residue ++ (w.reducer.residue ++ q)) lo hi) →
    (l : List SegmentValue) → SameKept (x ∷ l) (v ∷ w ∷ l)
same_kept x v w a b c d f l = record {
  last = two_last x v w l a;
  used = two_sums (λ y. y.used) x v w l b;
  missing = two_sums (λ y. y.missing) x v w l c;
  refused = two_sums (λ y. y.refused) x v w l d;
  halves = λ lo hi. omega (arith, f (residues l) lo hi);
}
