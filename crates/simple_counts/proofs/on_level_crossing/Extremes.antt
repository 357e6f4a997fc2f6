-- The extremes of a list of points in the tables of its inner points.
use Rattle.std.proofs.Common.{◌≡◌, ℕ, zero, suc, ◌+◌, ◌-◌, ◌<◌, ◌≤◌, Bool, true, false, cond, leb, ltb, List, [], ◌∷◌, length, take, get_or, refl, ap, subst, arith}
use Rattle.std.proofs.lemmas.Bool.Decides.{nat_tests}
use Rattle.std.proofs.lemmas.List.{take_all}
use Rattle.turning_points.proofs.Zigzag.{IsZigzag}
use Rattle.tally.specs.tables.Tables.{raise, is_at}
use Rattle.tally.proofs.on_tables.Counting.{raise_at}
use Rattle.simple_counts.specs.level_crossing.Extremes.{extremes_at, is_extreme}
use Rattle.simple_counts.specs.level_crossing.Halves.{HasExtremes}
use Rattle.simple_counts.proofs.on_level_crossing.Steps.{turn_here, bottom_is, top_is}

extremes_more : (r k : ℕ) (p : List ℕ) (i : ℕ) → i + 2 < length p → extremes_at r k (take (suc (suc (suc i))) p)
    ≡ extremes_at r k (take (suc (suc i)) p) + cond (is_extreme r (get_or p i 0) (get_or p (suc i) 0) (get_or p (suc (suc i)) 0))
    (is_at k (get_or p (suc i) 0)) 0
extremes_more r k [] i h = absurd (omega arith)
extremes_more r k (x ∷ []) i h = absurd (omega arith)
extremes_more r k (x ∷ y ∷ []) i h = absurd (omega arith)
extremes_more r k (x ∷ y ∷ z ∷ p) zero h = omega arith
extremes_more r k (x ∷ y ∷ z ∷ p) (suc i) h = omega (arith, extremes_more r k (y ∷ z ∷ p) i (omega arith))

extreme_at : (r k : ℕ) (p : List ℕ) (i j : ℕ) → i ≡ suc j → i + 1 < length p → extremes_at r k (take (i + 1 + 1) p)
    ≡ extremes_at r k (take (i + 1) p) + cond (is_extreme r (get_or p (i - 1) 0) (get_or p i 0) (get_or p (i + 1) 0))
    (is_at k (get_or p i 0)) 0
extreme_at r k p i j e h =
    let a : i - 1 ≡ j = omega arith in
    let b : i + 1 ≡ suc (suc j) = omega arith in
    let c : i + 1 + 1 ≡ suc (suc (suc j)) = omega arith in
    omega (
      arith,
      extremes_more r k p j (omega arith),
      ap (λ n. extremes_at r k (take n p)) b,
      ap (λ n. extremes_at r k (take n p)) c,
      ap (λ n. cond (is_extreme r (get_or p n 0) (get_or p i 0) (get_or p (i + 1) 0)) (is_at k (get_or p i 0)) 0) a,
      ap (λ n. cond (is_extreme r (get_or p j 0) (get_or p n 0) (get_or p (i + 1) 0)) (is_at k (get_or p n 0)) 0) e,
      ap (λ n. cond (is_extreme r (get_or p j 0) (get_or p (suc j) 0) (get_or p n 0)) (is_at k (get_or p (suc j) 0)) 0) b,
    )

bottom_counts : (r k y x z : ℕ) → x < y → x < z → cond (leb r k) 0 (is_at (k + 1) (x + 1)) ≡ cond (is_extreme r y x z) (is_at k x) 0
bottom_counts r k y x z h g = grind (arith, nat_tests)

top_counts : (r k y x z : ℕ) → y < x → z < x → cond (leb r k) (is_at (k + 1) (x + 1)) 0 ≡ cond (is_extreme r y x z) (is_at k x) 0
top_counts r k y x z h g = grind (arith, nat_tests)

bottom_raised : (b s b' s' : List ℕ) (place n : ℕ) (q : Bool) → place < length b → b' ≡ raise b place → s' ≡ s →
    get_or (cond q s' b') n 0 ≡ get_or (cond q s b) n 0 + cond q 0 (is_at n place)
bottom_raised b s b' s' place n true h e f = omega (arith, ap (λ t. get_or t n 0) f)
bottom_raised b s b' s' place n false h e f = omega (arith, ap (λ t. get_or t n 0) e, raise_at b place n h)

top_raised : (b s b' s' : List ℕ) (place n : ℕ) (q : Bool) → place < length s → b' ≡ b → s' ≡ raise s place →
    get_or (cond q s' b') n 0 ≡ get_or (cond q s b) n 0 + cond q (is_at n place) 0
top_raised b s b' s' place n true h e f = omega (arith, ap (λ t. get_or t n 0) f, raise_at s place n h)
top_raised b s b' s' place n false h e f = omega (arith, ap (λ t. get_or t n 0) e)

module _ (r : ℕ) (p b s b' s' : List ℕ) (i place : ℕ) (z : IsZigzag p) (o : 1 ≤ i) (more : i + 1 < length p) (lb : place < length b)
    (ls : place < length s) (e : place ≡ get_or p i 0 + 1) (g : HasExtremes r b s (take (i + 1) p)) where
  bottom : ltb (get_or p i 0) (get_or p (i - 1) 0) ≡ true → b' ≡ raise b place → s' ≡ s → HasExtremes r b' s' (take (i + 1 + 1) p)
  bottom t q w = λ k.
      let d = bottom_is _ _ _ (turn_here p i z o more) t in
      omega (
        arith,
        g k,
        extreme_at r k p i (i - 1) (omega arith) more,
        bottom_raised b s b' s' place (k + 1) (leb r k) lb q w,
        ap (λ n. cond (leb r k) 0 (is_at (k + 1) n)) e,
        bottom_counts r k _ _ _ d.0 d.1,
      )

  top : ltb (get_or p i 0) (get_or p (i - 1) 0) ≡ false → b' ≡ b → s' ≡ raise s place → HasExtremes r b' s' (take (i + 1 + 1) p)
  top t q w = λ k.
      let d = top_is _ _ _ (turn_here p i z o more) t in
      omega (
        arith,
        g k,
        extreme_at r k p i (i - 1) (omega arith) more,
        top_raised b s b' s' place (k + 1) (leb r k) ls q w,
        ap (λ n. cond (leb r k) (is_at (k + 1) n) 0) e,
        top_counts r k _ _ _ d.0 d.1,
      )

  pub extremes_step : (t : Bool) → ltb (get_or p i 0) (get_or p (i - 1) 0) ≡ t → b' ≡ cond t (raise b place) b →
      s' ≡ cond t s (raise s place) → HasExtremes r b' s' (take (i + 1 + 1) p)
  extremes_step true t q w = bottom t q w
  extremes_step false t q w = top t q w

pub none_of_two : (r k : ℕ) (p : List ℕ) → extremes_at r k (take 2 p) ≡ 0
none_of_two r k [] = refl
none_of_two r k (x ∷ []) = refl
none_of_two r k (x ∷ y ∷ p) = refl

either : (q : Bool) (b s : List ℕ) (n : ℕ) → get_or b n 0 ≡ 0 → get_or s n 0 ≡ 0 → get_or (cond q s b) n 0 ≡ 0
either true b s n f g = g
either false b s n f g = f

pub no_extremes : (r : ℕ) (p b s : List ℕ) → ((k : ℕ) → get_or b k 0 ≡ 0) → ((k : ℕ) → get_or s k 0 ≡ 0) → HasExtremes r b s (take 2 p)
no_extremes r p b s f g = λ k. omega (arith, either (leb r k) b s (k + 1) (f (k + 1)) (g (k + 1)), none_of_two r k p)

pub all_extremes : (r : ℕ) (b s p : List ℕ) (i : ℕ) → HasExtremes r b s (take (i + 1) p) → length p ≤ i + 1 → HasExtremes r b s p
all_extremes r b s p i g h = subst (HasExtremes r b s) (take_all (i + 1) p h) g
