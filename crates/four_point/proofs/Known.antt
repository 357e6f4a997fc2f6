-- A result that is only known to be there is found again from the points: nothing else has a say in it.
use Rattle.std.proofs.Common.{◌≡◌, ℕ, List, refl, sym, subst}
use Rattle.std.proofs.Props.{props}
use mathlib.Core.Logic.{∥∥₁_elim}
use Rattle.turning_points.specs.Points.{points}
use Rattle.turning_points.proofs.Zigzag.{IsZigzag, zig_points}
use Rattle.four_point.specs.Reduction.{Reduces, IsIrreducible, IsFourPointResult, count_in}
use Rattle.four_point.proofs.HasNoCycle.{IsIrreducible-from_no_cycle}
use Rattle.four_point.proofs.Unique.{one_result}
use Rattle.four_point.proofs.Reach.{Reaches, reach}
use Rattle.four_point.proofs.Histories.{reduces_of}

found : (p : List ℕ) (r : Reaches p) → IsFourPointResult p (λ lo hi. count_in lo hi r.pairs) r.residue
found p r = record {
  pairs = r.pairs;
  by = reduces_of r.by;
  counts = λ lo hi. refl;
  irreducible = IsIrreducible-from_no_cycle r.residue r.no_cycle;
}

pub result_known : (p : List ℕ) (count : ℕ → ℕ → ℕ) (residue : List ℕ) → points p ≡ p
    → ∥ IsFourPointResult p count residue ∥₁ → IsFourPointResult p count residue
result_known p count residue own known =
    let r = reach p (subst IsZigzag own (zig_points p)) in
    let c : ℕ → ℕ → ℕ = λ lo hi. count_in lo hi r.pairs in
    let one_left : IsProp (r.residue ≡ residue) = hlevel props in
    let left : r.residue ≡ residue =
    ∥∥₁_elim known one_left (λ k. (one_result p c count r.residue residue own (found p r) k).0) in
    let same : (lo hi : ℕ) → c lo hi ≡ count lo hi = λ lo hi.
    let one_count : IsProp (c lo hi ≡ count lo hi) = hlevel props in
    ∥∥₁_elim known one_count (λ k. (one_result p c count r.residue residue own (found p r) k).1 lo hi) in
    record {
      pairs = r.pairs;
      by = subst (λ l. Reduces p r.pairs l) left (reduces_of r.by);
      counts = λ lo hi. sym (same lo hi);
      irreducible = subst IsIrreducible left (found p r).irreducible;
    }
