-- A list of points is counted point by point.
use Rattle.std.proofs.Common.{◌≡◌, ◌≢◌, ℕ, zero, suc, ◌+◌, ◌-◌, ◌<◌, ◌≤◌, Bool, true, false, cond, ltb, List, [], ◌∷◌, length, take, sum, get_or, refl, ap, ◌∙◌, subst, arith, length-set}
use Rattle.std.specs.Prelude.{All}
use Rattle.std.proofs.lemmas.List.Elements.{All-head, All-tail}
use Rattle.std.proofs.lemmas.Bool.Decides.{nat_tests}
use mir.Val.{bool_byte}
use Rattle.turning_points.proofs.Zigzag.{IsZigzag, ends_differ, turn_at}
use Rattle.tally.specs.tables.Tables.{raise, is_at}
use Rattle.tally.proofs.on_tables.Counting.{raise_at, sum_cons}
use Rattle.simple_counts.specs.level_crossing.Crossings.{step_crossings, crossings}
use Rattle.simple_counts.specs.level_crossing.Halves.{below_at, from_at, last_begin, last_stop, IsOpen}
use Rattle.simple_counts.proofs.on_level_crossing.PushJoin.{sum_take_raise}
use Rattle.simple_counts.proofs.on_level_crossing.Halves.{halves, at_bottom, at_top, one_more, none_at}
use Rattle.turning_points.specs.Points.{IsTurn}

crossings_more : (r l : ℕ) (p : List ℕ) (i : ℕ) → i + 1 < length p →
    crossings r l (take (suc (suc i)) p) ≡ crossings r l (take (suc i) p) + step_crossings r l (get_or p i 0) (get_or p (suc i) 0)
crossings_more r l [] i h = absurd (omega arith)
crossings_more r l (x ∷ []) i h = absurd (omega arith)
crossings_more r l (x ∷ y ∷ p) zero h = omega arith
crossings_more r l (x ∷ y ∷ p) (suc i) h = omega (arith, crossings_more r l (y ∷ p) i (omega arith))

crossings_next : (r l : ℕ) (p : List ℕ) (i j : ℕ) → i ≡ suc j → i + 1 < length p →
    crossings r l (take (i + 1 + 1) p) ≡ crossings r l (take (i + 1) p) + step_crossings r l (get_or p i 0) (get_or p (i + 1) 0)
crossings_next r l p i j e h =
    let a : i + 1 ≡ suc i = omega arith in
    let b : i + 1 + 1 ≡ suc (suc i) = omega arith in
    omega (
      arith,
      crossings_more r l p i h,
      ap (λ k. crossings r l (take k p)) a,
      ap (λ k. crossings r l (take k p)) b,
      ap (λ k. step_crossings r l (get_or p i 0) (get_or p k 0)) a,
    )

pub turn_here : (p : List ℕ) (i : ℕ) → IsZigzag p → 1 ≤ i → i + 1 < length p →
    IsTurn (get_or p (i - 1) 0) (get_or p i 0) (get_or p (i + 1) 0)
turn_here p i z o h =
    let t = turn_at p (i - 1) z (omega arith) in
    let a : suc (i - 1) ≡ i = omega arith in
    let b : suc (suc (i - 1)) ≡ i + 1 = omega arith in
    subst (λ k. IsTurn (get_or p (i - 1) 0) (get_or p i 0) (get_or p k 0)) b
    (subst (λ k. IsTurn (get_or p (i - 1) 0) (get_or p k 0) (get_or p (suc (suc (i - 1))) 0)) a t)

pub bottom_is : (y x z : ℕ) → IsTurn y x z → ltb x y ≡ true → (x < y) × (x < z)
bottom_is y x z t e = (grind (arith, nat_tests), grind (arith, nat_tests))

pub top_is : (y x z : ℕ) → IsTurn y x z → ltb x y ≡ false → (y < x) × (z < x)
top_is y x z t e = (grind (arith, nat_tests), grind (arith, nat_tests))

no_stop : (r l y x : ℕ) → x < y → last_stop r l y x ≡ 0
no_stop r l y x h = grind (arith, nat_tests)

no_begin : (r l y x : ℕ) → y < x → last_begin r l y x ≡ 0
no_begin r l y x h = grind (arith, nat_tests)

module _ (r : ℕ) (p b s b' s' : List ℕ) (nb i k place : ℕ) (z : IsZigzag p) (o : 1 ≤ i) (more : i + 1 < length p) (lb : place < length b)
    (ls : place < length s) (e : place ≡ get_or p i 0 + 1) (some : nb + 1 ≤ i) (g : IsOpen r b s nb (i - 1 - nb) p i) where
  same_end : (l : ℕ) → (last_begin r l (get_or p (i + 1 - 1) 0) (get_or p (i + 1) 0) ≡ last_begin r l (get_or p i 0) (get_or p (i + 1) 0))
      × (last_stop r l (get_or p (i + 1 - 1) 0) (get_or p (i + 1) 0) ≡ last_stop r l (get_or p i 0) (get_or p (i + 1) 0))
  same_end l = let a : i + 1 - 1 ≡ i = omega arith in (
    ap (λ j. last_begin r l (get_or p j 0) (get_or p (i + 1) 0)) a,
    ap (λ j. last_stop r l (get_or p j 0) (get_or p (i + 1) 0)) a,
  )

  next : (l : ℕ) → crossings r l (take (i + 1 + 1) p) ≡ crossings r l (take (i + 1) p) + step_crossings r l (get_or p i 0)
      (get_or p (i + 1) 0)
  next l = crossings_next r l p i (i - 1) (omega arith) more

  bottom : ltb (get_or p i 0) (get_or p (i - 1) 0) ≡ true → b' ≡ raise b place → s' ≡ s → k ≡ 1 →
      IsOpen r b' s' (nb + k) (i + 1 - 1 - (nb + k)) p (i + 1)
  bottom t q w n = λ l.
      let d = bottom_is _ _ _ (turn_here p i z o more) t in
      let m : i + 1 - 1 - (nb + k) ≡ i - 1 - nb = omega arith in
      omega (
        arith,
        g l,
        next l,
        same_end l,
        at_bottom r l _ _ _ d.0 d.1,
        no_stop r l _ _ d.0,
        ap (λ c. sum (take (l + 1) c)) q,
        sum_take_raise b place (l + 1) lb,
        ap (λ c. sum (take (l + 1) c)) w,
        ap (λ c. below_at c (l + 1)) e,
        ap (λ c. from_at r (nb + c) (l + 1)) n,
        one_more r nb l,
        ap (λ c. from_at r c (l + 1)) m,
      )

  top : ltb (get_or p i 0) (get_or p (i - 1) 0) ≡ false → b' ≡ b → s' ≡ raise s place → k ≡ 0 →
      IsOpen r b' s' (nb + k) (i + 1 - 1 - (nb + k)) p (i + 1)
  top t q w n = λ l.
      let d = top_is _ _ _ (turn_here p i z o more) t in
      let m : i + 1 - 1 - (nb + k) ≡ (i - 1 - nb) + 1 = omega arith in
      let h : nb + k ≡ nb = omega arith in
      omega (
        arith,
        g l,
        next l,
        same_end l,
        at_top r l _ _ _ d.0 d.1,
        no_begin r l _ _ d.0,
        ap (λ c. sum (take (l + 1) c)) q,
        sum_take_raise s place (l + 1) ls,
        ap (λ c. sum (take (l + 1) c)) w,
        ap (λ c. below_at c (l + 1)) e,
        ap (λ c. from_at r c (l + 1))
            h,
        one_more r (i - 1 - nb) l,
        ap (λ c. from_at r c (l + 1)) m,
      )

  pub inner_step : (t : Bool) → ltb (get_or p i 0) (get_or p (i - 1) 0) ≡ t → b' ≡ cond t (raise b place) b →
      s' ≡ cond t s (raise s place) → k ≡ bool_byte t → IsOpen r b' s' (nb + k) (i + 1 - 1 - (nb + k)) p (i + 1)
  inner_step true t q w n = bottom t q w n
  inner_step false t q w n = top t q w n

pub at_few : (k i : ℕ) → is_at k i ≤ 1
at_few k i = grind (arith, nat_tests)

pub few_yes : (b b' : List ℕ) (place n : ℕ) (t : Bool) → place < length b → b' ≡ cond t (raise b place) b → ((k : ℕ) → get_or b k 0 ≤ n) →
    (k : ℕ) → get_or b' k 0 ≤ n + 1
few_yes b b' place n true h e f k = omega (arith, ap (λ c. get_or c k 0) e, raise_at b place k h, at_few k place, f k)
few_yes b b' place n false h e f k = omega (arith, ap (λ c. get_or c k 0) e, f k)

pub few_no : (b b' : List ℕ) (place n : ℕ) (t : Bool) → place < length b → b' ≡ cond t b (raise b place) → ((k : ℕ) → get_or b k 0 ≤ n) →
    (k : ℕ) → get_or b' k 0 ≤ n + 1
few_no b b' place n false h e f k = omega (arith, ap (λ c. get_or c k 0) e, raise_at b place k h, at_few k place, f k)
few_no b b' place n true h e f k = omega (arith, ap (λ c. get_or c k 0) e, f k)

pub length_yes : (b b' : List ℕ) (place : ℕ) (t : Bool) → b' ≡ cond t (raise b place) b → length b' ≡ length b
length_yes b b' place true e = ap length e ∙ length-set b place _
length_yes b b' place false e = ap length e

pub length_no : (b b' : List ℕ) (place : ℕ) (t : Bool) → b' ≡ cond t b (raise b place) → length b' ≡ length b
length_no b b' place false e = ap length e ∙ length-set b place _
length_no b b' place true e = ap length e

pub some_more : (nb i k : ℕ) (t : Bool) → k ≡ bool_byte t → nb + 1 ≤ i → nb + k + 1 ≤ i + 1
some_more nb i k true e h = omega arith
some_more nb i k false e h = omega arith

-- a prefix's sum after one more, where it is asked for
pub sum_yes : (b b' : List ℕ) (place i : ℕ) (t : Bool) → place < length b → b' ≡ cond t (raise b place) b →
    sum (take i b') ≡ sum (take i b) + cond t (below_at place i) 0
sum_yes b b' place i true h e = ap (λ c. sum (take i c)) e ∙ sum_take_raise b place i h
sum_yes b b' place i false h e = omega (arith, ap (λ c. sum (take i c)) e)

pub sum_no : (b b' : List ℕ) (place i : ℕ) (t : Bool) → place < length b → b' ≡ cond t b (raise b place) →
    sum (take i b') ≡ sum (take i b) + cond t 0 (below_at place i)
sum_no b b' place i false h e = ap (λ c. sum (take i c)) e ∙ sum_take_raise b place i h
sum_no b b' place i true h e = omega (arith, ap (λ c. sum (take i c)) e)

-- tables of nothing
pub sum_zero : (t : List ℕ) (i : ℕ) → ((k : ℕ) → get_or t k 0 ≡ 0) → sum (take i t) ≡ 0
sum_zero [] zero f = refl
sum_zero [] (suc i) f = refl
sum_zero (x ∷ t) zero f = refl
sum_zero (x ∷ t) (suc i) f = omega (arith, f 0, sum_cons x (take i t), sum_zero t i (λ k. f (suc k)))

two_differ : (p : List ℕ) → IsZigzag p → 2 ≤ length p → get_or p 0 0 ≢ get_or p 1 0
two_differ [] z h = absurd (omega arith)
two_differ (x ∷ []) z h = absurd (omega arith)
two_differ (x ∷ y ∷ l) z h = ends_differ z

two_crossed : (r l : ℕ) (p : List ℕ) → 2 ≤ length p → crossings r l (take 2 p) ≡ step_crossings r l (get_or p 0 0) (get_or p 1 0)
two_crossed r l [] h = absurd (omega arith)
two_crossed r l (x ∷ []) h = absurd (omega arith)
two_crossed r l (x ∷ y ∷ q) h = omega arith

-- nothing counted is the first step but for its halves
pub opened : (r : ℕ) (p b s : List ℕ) → IsZigzag p → 2 ≤ length p → ((k : ℕ) → get_or b k 0 ≡ 0) → ((k : ℕ) → get_or s k 0 ≡ 0) →
    IsOpen r b s 0 0 p 1
opened r p b s z h f g = λ l.
    omega (
      arith,
      sum_zero b (l + 1) f,
      sum_zero s (l + 1) g,
      halves r l (get_or p 0 0) (get_or p 1 0) (two_differ p z h),
      two_crossed r l p h,
      none_at r l,
    )

-- the place behind each level
pub place_within : (n : ℕ) (p : List ℕ) (i : ℕ) → All (λ x. x + 1 < n) p → i < length p → get_or p i 0 + 1 < n
place_within n [] i a h = absurd (omega arith)
place_within n (x ∷ p) zero a h = All-head (λ y. y + 1 < n) x p a
place_within n (x ∷ p) (suc i) a h = place_within n p i (All-tail (λ y. y + 1 < n) x p a) (omega arith)

pub open_at : (r : ℕ) (b s : List ℕ) (nb : ℕ) (p : List ℕ) (i : ℕ) → IsOpen r b s nb (i - 1 - nb) p i → i ≡ length p - 1 →
    IsOpen r b s nb (length p - 2 - nb) p (length p - 1)
open_at r b s nb p i g e =
    let n : i - 1 - nb ≡ length p - 2 - nb = omega arith in
    subst (λ k. IsOpen r b s nb (length p - 2 - nb) p k) e (subst (λ k. IsOpen r b s nb k p i) n g)
