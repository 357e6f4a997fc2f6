-- The three-point count of a history is twice the cycles of any part and the count of the history with the part's residue in its place.
--   all_deletions       a chain of deletions takes two half units for each pair that it gives
--   takes_half_units    the law for a part of a history: the deletions of the part are deletions of the points of the whole
--   own_residue         what a history is reduced to is its own list of points
--   counts_its_result   the law for a whole history and the neighbours in its residue
use Rattle.std.proofs.Common.{◌≡◌, ℕ, ◌+◌, ◌*◌, List, [], ◌++◌, ap, ◌∙◌, arith, append-nil}
use Rattle.turning_points.specs.Pairs.{Pair}
use Rattle.turning_points.specs.Points.{points}
use Rattle.turning_points.proofs.Zigzag.{IsZigzag, zig_points}
use Rattle.turning_points.proofs.Over.{own, points_inside}
use Rattle.turning_points.specs.three_point.Run.{run, half_units_of_pair, three_point}
use Rattle.four_point.specs.Reduction.{IsFourPointResult, count_in}
use Rattle.four_point.proofs.Chain.{Chain, done, more as step}
use Rattle.four_point.proofs.Unique.{zig_drops, chain_of}
use Rattle.four_point.proofs.Inside.{chain_inside}
use Rattle.four_point.proofs.Reach.{zig_chain}
use Rattle.four_point.proofs.HasNoCycle.{HasNoCycle-from_irreducible}
use Rattle.four_point.specs.residue_join.HalfUnits.{TakesHalfUnits, CountsItsNeighbours, CountsItsResult}
use Rattle.four_point.proofs.on_residue_join.Live.{no_point}
use Rattle.four_point.proofs.on_residue_join.OneDeletion.{onto_nothing, one_deletion}
use Rattle.four_point.proofs.on_residue_join.Neighbours.{residue_counts}

pub all_deletions : {l m : List ℕ} {xs : List Pair} (lo hi : ℕ) → IsZigzag l → Chain l xs m →
    half_units_of_pair lo hi (run [] l) ≡ 2 * count_in lo hi xs + half_units_of_pair lo hi (run [] m)
all_deletions lo hi z done = omega arith
all_deletions lo hi z (step d c) =
    let e = one_deletion lo hi [] no_point (onto_nothing z) d in
    omega (arith, e, all_deletions lo hi (zig_drops d z) c)

pub takes_half_units : TakesHalfUnits
takes_half_units p w q c r u lo hi =
    let k = chain_of u.pairs (zig_points w) u.by in
    let e = all_deletions lo hi (zig_points (p ++ (points w ++ q))) (chain_inside p q k) in
    let f = ap (λ s. half_units_of_pair lo hi (run [] s)) (points_inside p w q) in
    omega (arith, e, f, u.counts lo hi)

-- a list of points to which no deletion applies
pub counts_its_neighbours : CountsItsNeighbours
counts_its_neighbours r e s lo hi =
    ap (λ l. half_units_of_pair lo hi (run [] l)) e ∙ residue_counts lo hi r (HasNoCycle-from_irreducible r s)

pub own_residue : (h : List ℕ) (count : ℕ → ℕ → ℕ) (r : List ℕ) → IsFourPointResult (points h) count r → points r ≡ r
own_residue h count r u = own (zig_chain (zig_points h) (chain_of u.pairs (zig_points h) u.by))

pub counts_its_result : CountsItsResult
counts_its_result h count r u lo hi =
    let e = takes_half_units [] h [] count r u lo hi in
    let f = ap (λ l. three_point l lo hi) (append-nil h) in
    let g = ap (λ l. three_point l lo hi) (append-nil r) in
    omega (arith, e, f, g, counts_its_neighbours r (own_residue h count r u) u.irreducible lo hi)
