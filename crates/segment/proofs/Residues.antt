-- The residue that pushes leave, beside the points of two parts.
--   residue_ends   the ends of a residue are ends
--   left           the residue's ends are alike to those of the points of both, and the balance holds
--   recounted      a result with equal counts
use Rattle.std.proofs.Common.{◌≡◌, ℕ, ◌+◌, ◌*◌, ◌≤◌, List, ◌++◌, length, ap, ◌∙◌, subst, sym, arith}
use Rattle.turning_points.specs.Points.{points}
use Rattle.turning_points.specs.EndPoints.{EndPoints, IsEnds, ends_of, ends_of_both}
use Rattle.turning_points.proofs.Zigzag.{zig_points}
use Rattle.turning_points.proofs.Over.{zig_own}
use Rattle.turning_points.proofs.MeetEnds.{ends_of_both_histories}
use Rattle.turning_points.proofs.PushEnds.{list_ends}
use Rattle.four_point.specs.Reduction.{IsFourPointResult}
use Rattle.four_point.specs.Residue.{AddsCycles, IsResidue}
use Rattle.four_point.proofs.Unique.{chain_of}
use Rattle.simple_counts.proofs.OfPoints.{level_below}
use Rattle.segment.specs.Alike.{Alike}
use Rattle.segment.proofs.Alikeness.{ends_of_both_alike}
use Rattle.segment.proofs.Deleted.{chain_alike}

pub residue_ends : (k : ℕ) (l : List ℕ) → 1 ≤ k → IsResidue k l → IsEnds k (ends_of l)
residue_ends k l o r = list_ends k l o (zig_own l r.own) (λ i h. level_below k l i r.within h)

pub record Left (e f : EndPoints) (r : List ℕ) (u : ℕ) : Type 0 where
  pub alike : Alike (ends_of_both e f) (ends_of r)
  pub balance : length r + 2 * u ≡ (ends_of_both e f).points

pub left : (K : ℕ) (e f : EndPoints) (r s n : List ℕ) (c d : ℕ → ℕ → ℕ) (t u v : ℕ) → IsEnds K e → IsEnds K f → IsEnds K (ends_of r) →
    IsEnds K (ends_of s) → Alike e (ends_of r) → Alike f (ends_of s) → points r ≡ r → points s ≡ s → length r + 2 * t ≡ e.points →
    length s + 2 * u ≡ f.points → AddsCycles (points (r ++ s)) c n d → 2 * v + length n ≡ 2 * (t + u) + length (points (r ++ s)) →
    Left e f n v
left K e f r s n c d t u v ie jf ir js a b p q x y j o =
    let m = ends_of_both_alike K e (ends_of r) f (ends_of s) ie ir jf js a b in
    let h = ends_of_both_histories r s (ends_of r) (ends_of s) (ap ends_of (sym p)) (ap ends_of (sym q)) in
    let k = subst (Alike (ends_of_both e f)) h m.alike in
    let z = zig_points (r ++ s) in
    let w = ap (λ g. g.points) h in
    record {
      alike = chain_alike (ends_of_both e f) z (chain_of j.pairs z j.by) k;
      balance = omega (arith, m.balance);
    }

pub recounted : {p r : List ℕ} {c d : ℕ → ℕ → ℕ} → IsFourPointResult p c r → ((lo hi : ℕ) → d lo hi ≡ c lo hi) → IsFourPointResult p d r
recounted x e = record { pairs = x.pairs; by = x.by; counts = λ lo hi. e lo hi ∙ x.counts lo hi; irreducible = x.irreducible }
