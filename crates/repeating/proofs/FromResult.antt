-- The cycles of a repeating history by a four-point result alone.
--   closes_from_result   the law
--   residue_again        what is left of a residue put behind itself
--   cycles_of            the cycles, where those that the residue closes are added to those of the history
use Rattle.std.proofs.Common.{◌≡◌, ℕ, List, [], ◌++◌, refl, ap, arith, append-nil}
use Rattle.turning_points.specs.Points.{points}
use Rattle.turning_points.proofs.Zigzag.{zig_points}
use Rattle.turning_points.proofs.Over.{zig_own}
use Rattle.turning_points.specs.three_point.Run.{three_point}
use Rattle.four_point.specs.Reduction.{IsFourPointResult, IsIrreducible, count_in}
use Rattle.four_point.specs.Residue.{AddsCycles}
use Rattle.four_point.proofs.Chain.{one}
use Rattle.four_point.proofs.Unique.{chain_of, stays_of}
use Rattle.four_point.proofs.HasNoCycle.{HasNoCycle-from_irreducible}
use Rattle.four_point.proofs.Reach.{zig_chain}
use Rattle.four_point.proofs.on_residue_join.HalfUnits.{takes_half_units}
use Rattle.repeating.specs.Repeating.{ClosesFromResult, repeating_cycles}
use Rattle.repeating.proofs.Turned.{adds_its_cycles}
use Rattle.repeating.proofs.Again.{again}

pub closes_from_result : ClosesFromResult
closes_from_result h c d r q u v =
    let k = chain_of u.pairs (zig_points h) u.by in
    let a = again r (HasNoCycle-from_irreducible r u.irreducible) (zig_chain (zig_points h) k) in
    let e = one (chain_of v.pairs (zig_points (r ++ r)) v.by) a.by (stays_of v.irreducible) (stays_of u.irreducible) in (
      e.0,
      λ lo hi.
          let first = takes_half_units [] h h c r u lo hi in
          let second = takes_half_units r h [] c r u lo hi in
          let third = takes_half_units [] (r ++ r) [] d q v lo hi in
          let alone = takes_half_units [] h [] c r u lo hi in
          let n = λ (l : List ℕ). ap (λ s. three_point s lo hi) (append-nil l) in
          let m = ap (λ s. three_point (r ++ s) lo hi) (append-nil h) in
          let o = ap (λ s. three_point (r ++ s) lo hi) (append-nil r) in
          let p = ap (λ s. three_point s lo hi) e.0 in
          omega (arith, first, second, third, alone, n h, n r, n q, n (r ++ r), m, o, p, adds_its_cycles h lo hi),
    )

pub residue_again : (f g : ℕ → ℕ → ℕ) (r q : List ℕ) → points r ≡ r → IsIrreducible r → AddsCycles (points (r ++ r)) f q g →
    IsIrreducible q → q ≡ r
residue_again f g r q own s w t =
    let a = again r (HasNoCycle-from_irreducible r s) (zig_own r own) in
    (one (chain_of w.pairs (zig_points (r ++ r)) w.by) a.by (stays_of t) (stays_of s)).0

pub cycles_of : (h : List ℕ) (f g : ℕ → ℕ → ℕ) (r q : List ℕ) → IsFourPointResult (points h) f r → AddsCycles (points (r ++ r)) f q g →
    IsIrreducible q → (lo hi : ℕ) → g lo hi ≡ repeating_cycles h lo hi
cycles_of h f g r q u w t lo hi =
    let v : IsFourPointResult (points (r ++ r)) (λ a b. count_in a b w.pairs) q = record {
      pairs = w.pairs;
      by = w.by;
      counts = λ a b. refl;
      irreducible = t;
    } in
    let e = (closes_from_result h f (λ a b. count_in a b w.pairs) r q u v).1 lo hi in
    omega (arith, e, w.counts lo hi)
