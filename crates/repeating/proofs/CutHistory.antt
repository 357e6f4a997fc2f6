-- The three-point count of a history, cut at a greatest level.
use Rattle.std.proofs.Common.{◌≡◌, ℕ, suc, ◌+◌, ◌<◌, ◌≤◌, ◌⊎◌, inl, inr, List, [], ◌∷◌, ◌++◌, refl, ap, ◌∙◌, subst, arith}
use Rattle.std.proofs.lemmas.Bool.{cases_lt}
use Rattle.std.specs.Prelude.{All}
use Rattle.std.proofs.lemmas.List.Elements.{All-nil, All-cons, All-head, All-tail, All-append}
use Rattle.turning_points.specs.Points.{turns as turns_of, changes, IsTurn}
use Rattle.turning_points.proofs.Zigzag.{add, add_equal, IsZigzag, one, two, inner, zig_points}
use Rattle.turning_points.proofs.Over.{over, over_points, zig_over}
use Rattle.turning_points.proofs.Joining.{Side, at, away, before, add_away, add_before, add_two}
use Rattle.turning_points.proofs.Levels.{All-points}
use Rattle.turning_points.specs.three_point.Run.{run, half_units_of_pair, three_point}
use Rattle.four_point.proofs.on_residue_join.Live.{no_point}
use Rattle.four_point.proofs.on_residue_join.OneDeletion.{onto_nothing}
use Rattle.repeating.proofs.Cut.{cut}
use Rattle.four_point.proofs.Inside.{side}

-- the part before a greatest level and the part from it on share that point
record Joined (m : ℕ) (t u : List ℕ) : Type 0 where
  front : List ℕ
  whole : over u (m ∷ t) ≡ front ++ (m ∷ t)
  left : over u (m ∷ []) ≡ front ++ (m ∷ [])

join_kept : {m x : ℕ} {t u : List ℕ} (f g : List ℕ) → over u (m ∷ t) ≡ f ++ (m ∷ t) → over u (m ∷ []) ≡ f ++ (m ∷ []) →
    add x (f ++ (m ∷ t)) ≡ g ++ (m ∷ t) → add x (f ++ (m ∷ [])) ≡ g ++ (m ∷ []) → Joined m t (x ∷ u)
join_kept {x} f g p q r s = record { front = g; whole = ap (add x) p ∙ r; left = ap (add x) q ∙ s }

below_top : (m y z : ℕ) → y < suc m → IsTurn m y z → y < m
below_top m y z p u = grind arith

add_top : (x m : ℕ) (t : List ℕ) → IsZigzag (m ∷ t) → All (λ y. y < suc m) t → x < m → add x (m ∷ t) ≡ x ∷ m ∷ t
add_top x m t one b h = add_two x m (omega arith)
add_top x m t (two {y = y} n) b h = let p : y < suc m = All-head (λ y. y < suc m) y [] b in add_away x m y [] (inl (h, omega arith))
add_top x m t (inner {y = y} {z = z} {l = l} u g) b h =
    let p : y < suc m = All-head (λ y. y < suc m) y (z ∷ l) b in add_away x m y (z ∷ l) (inl (h, below_top m y z p u))

join_first : {m x : ℕ} {t u : List ℕ} → IsZigzag (m ∷ t) → All (λ y. y < suc m) t → over u (m ∷ t) ≡ m ∷ t → over u (m ∷ []) ≡ m ∷ [] →
    ((x < m) ⊎ (m ≤ x)) → x ≤ m → Joined m t (x ∷ u)
join_first {m} {x} {t} g b p q (inl h) k = join_kept [] (x ∷ []) p q (add_top x m t g b h) (add_top x m [] one (All-nil (λ y. y < suc m)) h)
join_first {m} {x} {t} g b p q (inr h) k = join_kept [] [] p q (add_equal x m t (omega arith)) (add_equal x m [] (omega arith))

join_second : {m x : ℕ} {t u : List ℕ} (a : ℕ) → over u (m ∷ t) ≡ a ∷ m ∷ t → over u (m ∷ []) ≡ a ∷ m ∷ [] → Side x a m → Joined m t (x ∷ u)
join_second {m} {x} {t} a p q (at e) = join_kept (a ∷ []) (a ∷ []) p q (add_equal x a _ e) (add_equal x a _ e)
join_second {m} {x} {t} a p q (away s) = join_kept (a ∷ []) (x ∷ a ∷ []) p q (add_away x a m t s) (add_away x a m [] s)
join_second {m} {x} {t} a p q (before s) = join_kept (a ∷ []) (x ∷ []) p q (add_before x a m t s) (add_before x a m [] s)

join_more : {m x : ℕ} {t u : List ℕ} (a b : ℕ) (f : List ℕ) → over u (m ∷ t) ≡ a ∷ b ∷ (f ++ (m ∷ t)) →
    over u (m ∷ []) ≡ a ∷ b ∷ (f ++ (m ∷ [])) → Side x a b → Joined m t (x ∷ u)
join_more {m} {x} {t} a b f p q (at e) = join_kept (a ∷ b ∷ f) (a ∷ b ∷ f) p q (add_equal x a _ e) (add_equal x a _ e)
join_more {m} {x} {t} a b f p q (away s) = join_kept (a ∷ b ∷ f) (x ∷ a ∷ b ∷ f) p q (add_away x a b _ s) (add_away x a b _ s)
join_more {m} {x} {t} a b f p q (before s) = join_kept (a ∷ b ∷ f) (x ∷ b ∷ f) p q (add_before x a b _ s) (add_before x a b _ s)

join_step : (m x : ℕ) (t u f : List ℕ) → x ≤ m → IsZigzag (m ∷ t) → All (λ y. y < suc m) t → IsZigzag (f ++ (m ∷ t)) →
    over u (m ∷ t) ≡ f ++ (m ∷ t) → over u (m ∷ []) ≡ f ++ (m ∷ []) → Joined m t (x ∷ u)
join_step m x t u [] h g b z p q = join_first g b p q (cases_lt x m) h
join_step m x t u (a ∷ []) h g b z p q = join_second a p q (side x z)
join_step m x t u (a ∷ c ∷ f) h g b z p q = join_more a c f p q (side x z)

joined : (m : ℕ) (t u : List ℕ) → All (λ y. y < suc m) u → IsZigzag (m ∷ t) → All (λ y. y < suc m) t → Joined m t u
joined m t [] c g b = record { front = []; whole = refl; left = refl }
joined m t (x ∷ u) c g b =
    let h : x < suc m = All-head (λ y. y < suc m) x u c in
    let j = joined m t u (All-tail (λ y. y < suc m) x u c) g b in
    join_step m x t u j.front (omega arith) g b (subst IsZigzag j.whole (zig_over u (m ∷ t) g)) j.whole j.left

-- the three-point count of a history, cut at a greatest level
pub cut_history : (lo hi m : ℕ) (u v : List ℕ) → All (λ y. y < suc m) u → All (λ y. y < suc m) v →
    three_point (u ++ (m ∷ v)) lo hi ≡ three_point (u ++ (m ∷ [])) lo hi + three_point (m ∷ v) lo hi
cut_history lo hi m u v b c =
    let t = turns_of m (changes m v) in
    let g = zig_points (m ∷ v) in
    let d = All-points (λ y. y < suc m) (m ∷ v) (All-cons (λ y. y < suc m) m v (omega arith) c) in
    let j = joined m t u b g (All-tail (λ y. y < suc m) m t d) in
    let e = over_points u (m ∷ v) ∙ j.whole in
    let f = over_points u (m ∷ []) ∙ j.left in
    let z = subst IsZigzag e (zig_points (u ++ (m ∷ v))) in
    let w = subst (All (λ y. y < suc m)) e (All-points (λ y. y < suc m) (u ++ (m ∷ v))
    (All-append (λ y. y < suc m) u (m ∷ v) b (All-cons (λ y. y < suc m) m v (omega arith) c))) in
    let k = cut lo hi m [] j.front t no_point (onto_nothing z) (All-nil (λ y. y < suc m)) w in
    let p = ap (λ l. half_units_of_pair lo hi (run [] l)) e in
    let q = ap (λ l. half_units_of_pair lo hi (run [] l)) f in
    omega (arith, k, p, q)
