-- The three-point count over a list of points, cut at a greatest level.
--   chain_first       deletions leave the first level
--   before_greatest   a range that ends in the greatest level counts by itself, before a list that begins there
--   less_from_fits, zig_from_fits, tail_is   what is so of points that may be read
--   cut               what is counted up to the greatest level, and what is counted from it on
use Rattle.std.proofs.Common.{◌≡◌, ℕ, suc, ◌+◌, ◌*◌, ◌<◌, ◌≤◌, ◌⊎◌, inl, inr, List, [], ◌∷◌, ◌++◌, refl, sym, ap, ◌∙◌, subst, arith}
use Rattle.std.specs.Prelude.{All}
use Rattle.std.proofs.lemmas.List.Elements.{All-head, All-tail}
use Rattle.turning_points.specs.Pairs.{Pair, pair, range}
use Rattle.turning_points.proofs.Zigzag.{IsZigzag, two, inner, zig_tail}
use Rattle.turning_points.specs.three_point.Run.{live_after, run, half_units_of_pair}
use Rattle.turning_points.proofs.on_three_point.Steps.{live_after_half, live_after_cycle}
use Rattle.turning_points.proofs.on_three_point.Bounds.{All-live_after}
use Rattle.four_point.proofs.Drops.{here, past}
use Rattle.four_point.proofs.Chain.{Chain, done, more}
use Rattle.four_point.proofs.Unique.{ordered, zig_drops}
use Rattle.four_point.proofs.HasNoCycle.{IsNoCycle, HasNoCycle, three_points, inner_stay, HasNoCycle-tail}
use Rattle.four_point.proofs.Reach.{reach, chain_past, zig_chain, no_cycle_or_cycle}
use Rattle.four_point.specs.residue_join.HalfUnits.{neighbours}
use Rattle.four_point.proofs.on_residue_join.Live.{Live, no_point, live_tail, Onto, turns, onto_deeper, strict}
use Rattle.four_point.proofs.on_residue_join.OneDeletion.{Fits, onto_nothing, onto_one, onto_more, read, run_step, one_deletion, onto_of, one_of_pair, pair_swap}
use Rattle.four_point.proofs.on_residue_join.Neighbours.{residue_counts}
use Rattle.four_point.proofs.on_residue_join.HalfUnits.{all_deletions}
use Rattle.repeating.proofs.Below.{All-chain}

-- the first level stays
pub chain_first : {a : ℕ} {l m : List ℕ} {xs : List Pair} → Chain (a ∷ l) xs m → (t : List ℕ) × (m ≡ a ∷ t)
chain_first {l} done = (l, refl)
chain_first (more (here p) c) = chain_first c
chain_first (more (past h e) c) = chain_first c

module _ (lo hi : ℕ) where
  tie : (y m a d : ℕ) (t : List ℕ) → d ≡ m →
      half_units_of_pair lo hi (run [] (y ∷ m ∷ a ∷ d ∷ t)) ≡ 2 * one_of_pair lo hi (pair m a)
      + half_units_of_pair lo hi (run [] (y ∷ d ∷ t)) →
      half_units_of_pair lo hi (run [] (y ∷ m ∷ t)) ≡ one_of_pair lo hi (pair y m) + half_units_of_pair lo hi (neighbours (m ∷ t)) →
      half_units_of_pair lo hi (run [] (y ∷ m ∷ a ∷ d ∷ t)) ≡ one_of_pair lo hi (pair y m)
      + half_units_of_pair lo hi (neighbours (m ∷ a ∷ d ∷ t))
  tie y m a d t e h k =
      let p = ap (λ n. half_units_of_pair lo hi (run [] (y ∷ n ∷ t))) e in
      let q = ap (λ n. half_units_of_pair lo hi (neighbours (n ∷ t))) e in
      let r = ap (λ n. one_of_pair lo hi (pair a n)) e in
      let s = ap (one_of_pair lo hi) (pair_swap a m) in
      omega (arith, h, k, p, q, r, s)

  fits_top : {y m a d : ℕ} {t : List ℕ} → IsZigzag (y ∷ m ∷ a ∷ d ∷ t) → y < m → d ≤ m → range m a ≤ range y m → range m a ≤ range a d →
      (d ≡ m) × (y ≤ a) × (a < m) × (m ≤ d)
  fits_top (inner t (inner u g)) h k p q = grind arith

  -- a range that ends in the greatest level counts by itself, before a residue
  before_pick : (y m a d : ℕ) (t : List ℕ) → IsZigzag (y ∷ m ∷ a ∷ d ∷ t) → HasNoCycle (m ∷ a ∷ d ∷ t) → d ≤ m → y < m →
      (IsNoCycle y m a d ⊎ ((range m a ≤ range y m) × (range m a ≤ range a d))) →
      (IsZigzag (y ∷ m ∷ t) → HasNoCycle (m ∷ t) →
      half_units_of_pair lo hi (run [] (y ∷ m ∷ t)) ≡ one_of_pair lo hi (pair y m) + half_units_of_pair lo hi (neighbours (m ∷ t))) →
      half_units_of_pair lo hi (run [] (y ∷ m ∷ a ∷ d ∷ t)) ≡ one_of_pair lo hi (pair y m)
      + half_units_of_pair lo hi (neighbours (m ∷ a ∷ d ∷ t))
  before_pick y m a d t g c k h (inl u) next = omega (arith, residue_counts lo hi (y ∷ m ∷ a ∷ d ∷ t) (inner_stay u c))
  before_pick y m a d t g c k h (inr f) next =
      let q = fits_top g h k f.0 f.1 in
      let e = ordered [] y m a d t g f.0 f.1 in
      let z = subst (λ n. IsZigzag (y ∷ n ∷ t)) q.0 (zig_drops e g) in
      let w = subst (λ n. HasNoCycle (n ∷ t)) q.0 (HasNoCycle-tail (HasNoCycle-tail c)) in
      tie y m a d t q.0 (one_deletion lo hi [] no_point (onto_nothing g) e) (next z w)

  before_residue : (y m : ℕ) (t : List ℕ) → IsZigzag (y ∷ m ∷ t) → HasNoCycle (m ∷ t) → All (λ y. y < suc m) t → y < m →
      half_units_of_pair lo hi (run [] (y ∷ m ∷ t)) ≡ one_of_pair lo hi (pair y m) + half_units_of_pair lo hi (neighbours (m ∷ t))
  before_residue y m [] g c b h = omega arith
  before_residue y m (a ∷ []) g c b h = omega (arith, residue_counts lo hi (y ∷ m ∷ a ∷ []) three_points)
  before_residue y m (a ∷ d ∷ t) g c b h =
      let rest = All-tail (λ y. y < suc m) a (d ∷ t) b in
      let low : d < suc m = All-head (λ y. y < suc m) d t rest in
      before_pick y m a d t g c (omega arith) h (no_cycle_or_cycle y m a d)
      (λ z w. before_residue y m t z w (All-tail (λ y. y < suc m) d t rest) h)

  -- the same before any list of points that begins with its greatest level
  pub before_greatest : (y m : ℕ) (t : List ℕ) → IsZigzag (y ∷ m ∷ t) → All (λ y. y < suc m) (m ∷ t) → y < m →
      half_units_of_pair lo hi (run [] (y ∷ m ∷ t)) ≡ one_of_pair lo hi (pair y m) + half_units_of_pair lo hi (run [] (m ∷ t))
  before_greatest y m t g b h =
      let r = reach (m ∷ t) (zig_tail g) in
      let f = chain_first r.by in
      let c : Chain (m ∷ t) r.pairs (m ∷ f.0) = subst (λ k. Chain (m ∷ t) r.pairs k) f.1 r.by in
      let k : HasNoCycle (m ∷ f.0) = subst HasNoCycle f.1 r.no_cycle in
      let d = chain_past y c in
      let e = all_deletions lo hi (zig_tail g) c in
      let i = all_deletions lo hi g d in
      let j = before_residue y m f.0 (zig_chain g d) k (All-tail (λ y. y < suc m) m f.0 (All-chain (λ y. y < suc m) c b)) h in
      omega (arith, e, i, j, residue_counts lo hi (m ∷ f.0) k)

-- a greatest level closes all live ranges but the last
record Topped (m : ℕ) (v : List ℕ) : Type 0 where
  y : ℕ
  is : live_after m v ≡ m ∷ y ∷ []
  low : y < m

topped : (m a : ℕ) (v : List ℕ) → a < m → Live (a ∷ v) → Onto a m v → All (λ y. y < suc m) v → Topped m (a ∷ v)
topped m a [] h l k b = record { y = a; is = refl; low = h }
topped m a (x ∷ []) h l (turns s) b =
    let p : x < suc m = All-head (λ y. y < suc m) x [] b in
    record { y = a; is = live_after_half m a x (omega arith); low = h }
topped m a (x ∷ w ∷ v) h l (turns s) b =
    let p : x < suc m = All-head (λ y. y < suc m) x (w ∷ v) b in
    let c = All-tail (λ y. y < suc m) x (w ∷ v) b in
    let q : w < suc m = All-head (λ y. y < suc m) w v c in
    let t = strict l in
    let r = topped m w v (omega arith) (live_tail (live_tail l)) (onto_deeper s l) (All-tail (λ y. y < suc m) w v c) in
    record { y = r.y; is = live_after_cycle m a x w v (omega arith) ∙ r.is; low = r.low }

pub less_from_fits : {m a : ℕ} {v t : List ℕ} → Fits (a ∷ v) (m ∷ t) → a < suc m → a < m
less_from_fits (onto_one (two n)) h = omega arith
less_from_fits (onto_one (inner u g)) h = grind arith
less_from_fits (onto_more (inner u g)) h = grind arith

pub zig_from_fits : {m y : ℕ} {t : List ℕ} → Fits (m ∷ y ∷ []) t → IsZigzag (y ∷ m ∷ t)
zig_from_fits (onto_more g) = g

pub tail_is : {m : ℕ} {s t : List ℕ} → m ∷ s ≡ m ∷ t → s ≡ t
tail_is e = cc

module _ (lo hi : ℕ) where
  cut_here : (m a : ℕ) (v t : List ℕ) → Live (a ∷ v) → Fits (a ∷ v) (m ∷ t) → All (λ y. y < suc m) (a ∷ v) → All (λ y. y < suc m) (m ∷ t) →
      half_units_of_pair lo hi (run (a ∷ v) (m ∷ t)) ≡ half_units_of_pair lo hi (run (a ∷ v) (m ∷ [])) + half_units_of_pair lo hi
      (run [] (m ∷ t))
  cut_here m a v t l f b c =
      let h = less_from_fits f (All-head (λ y. y < suc m) a v b) in
      let top = topped m a v h l (onto_of f) (All-tail (λ y. y < suc m) a v b) in
      let w = read l f in
      let o = tail_is (sym w.is ∙ top.is) in
      let z = zig_from_fits (subst (λ k. Fits (m ∷ k) t) o w.fits) in
      let e = before_greatest lo hi top.y m t z c top.low in
      let i = run_step lo hi m (a ∷ v) t in
      let j = run_step lo hi m (a ∷ v) [] in
      let q = ap (λ k. half_units_of_pair lo hi (run k t)) top.is in
      let r = ap (λ k. half_units_of_pair lo hi (run k [])) top.is in
      let s = ap (one_of_pair lo hi) (pair_swap top.y m) in
      omega (arith, e, i, j, q, r, s)

  -- what is counted before a greatest level, and what is counted from it on
  pub cut : (m : ℕ) (v l t : List ℕ) → Live v → Fits v (l ++ (m ∷ t)) → All (λ y. y < suc m) v → All (λ y. y < suc m) (l ++ (m ∷ t)) →
      half_units_of_pair lo hi (run v (l ++ (m ∷ t))) ≡ half_units_of_pair lo hi (run v (l ++ (m ∷ []))) + half_units_of_pair lo hi
      (run [] (m ∷ t))
  cut m [] [] t k f b c = omega arith
  cut m (a ∷ v) [] t k f b c = cut_here m a v t k f b c
  cut m v (z ∷ l) t k f b c =
      let w = read k f in
      let p = All-head (λ y. y < suc m) z (l ++ (m ∷ t)) c in
      let d = subst (All (λ y. y < suc m)) w.is (All-live_after (λ y. y < suc m) z v p b) in
      let i = cut m (z ∷ w.older) l t w.live w.fits d (All-tail (λ y. y < suc m) z (l ++ (m ∷ t)) c) in
      let x = run_step lo hi z v (l ++ (m ∷ t)) in
      let y = run_step lo hi z v (l ++ (m ∷ [])) in
      let q = ap (λ k. half_units_of_pair lo hi (run k (l ++ (m ∷ t)))) w.is in
      let r = ap (λ k. half_units_of_pair lo hi (run k (l ++ (m ∷ [])))) w.is in
      omega (arith, i, x, y, q, r)
