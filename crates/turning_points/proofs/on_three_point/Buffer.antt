-- Live points at the first n places of a buffer, the newest last, and what the steps of the standard do to them. The point z is read.
--   newest_two                   the two newest apart
--   cycle_live, cycle_counted    X >= Y, and Y doesn't contain the starting point: its two points are dropped, and Y is counted
--   open_live, open_counted      X < Y, or there are fewer than three points: the point is live, and nothing is counted
--   All-first_few                what holds of each live point
use Rattle.std.proofs.Common.{◌≡◌, ℕ, ◌+◌, ◌-◌, ◌<◌, ◌≤◌, ◌⊎◌, inl, inr, List, [], ◌∷◌, length, take, set, get_or, reverse, sym, ap, ◌∙◌, arith, get_or-take}
use Rattle.std.specs.Prelude.{All}
use Rattle.std.proofs.lemmas.List.{take_more_set, reverse-append, length-reverse, length-take, length-take-le}
use Rattle.std.proofs.lemmas.Bool.{cases_lt}
use Rattle.std.proofs.Math.Nat.{lt_of_not-le}
use Rattle.lemmas.proofs.Lists.{take_by_last_two}
use Rattle.turning_points.specs.Pairs.{range}
use Rattle.turning_points.specs.three_point.Run.{counted_range, live_after, ranges_counted}
use Rattle.turning_points.proofs.on_three_point.Steps.{live_after_cycle, ranges_counted_cycle, live_after_less, live_after_few, ranges_counted_less, ranges_counted_few}

pub newest_two : (s : List ℕ) (n : ℕ) → 2 ≤ n → n ≤ length s →
    reverse (take n s) ≡ get_or s (n - 1) 0 ∷ get_or s (n - 2) 0 ∷ reverse (take (n - 2) s)
newest_two s n h r = ap reverse (take_by_last_two s n h r) ∙ reverse-append (take (n - 2) s) (get_or s (n - 2) 0 ∷ get_or s (n - 1) 0 ∷ [])

live_after_more : (z y x : ℕ) (v : List ℕ) → 0 < length v → range x y ≤ range y z → live_after z (y ∷ x ∷ v) ≡ live_after z v
live_after_more z y x [] f h = absurd (omega arith)
live_after_more z y x (w ∷ v) f h = live_after_cycle z y x w v h

ranges_counted_more : (z y x : ℕ) (v : List ℕ) → 0 < length v → range x y ≤ range y z →
    ranges_counted z (y ∷ x ∷ v) ≡ counted_range x y 2 ∷ ranges_counted z v
ranges_counted_more z y x [] f h = absurd (omega arith)
ranges_counted_more z y x (w ∷ v) f h = ranges_counted_cycle z y x w v h

module _ (s : List ℕ) (n z : ℕ) (room : n ≤ length s) where
  older : 2 < n → 0 < length (reverse (take (n - 2) s))
  older h = omega (arith, length-reverse (take (n - 2) s), length-take (n - 2) s)

  pub cycle_live : 2 < n → range (get_or s (n - 2) 0) (get_or s (n - 1) 0) ≤ range (get_or s (n - 1) 0) z →
      live_after z (reverse (take (n - 2) s)) ≡ live_after z (reverse (take n s))
  cycle_live h r = sym (ap (live_after z) (newest_two s n (omega arith) room) ∙ live_after_more z _ _
      (reverse (take (n - 2) s)) (older h) r)

  pub cycle_counted : 2 < n → range (get_or s (n - 2) 0) (get_or s (n - 1) 0) ≤ range (get_or s (n - 1) 0) z →
      ranges_counted z (reverse (take n s)) ≡ counted_range (get_or s (n - 2) 0) (get_or s (n - 1) 0) 2 ∷ ranges_counted z
      (reverse (take (n - 2) s))
  cycle_counted h r = ap (ranges_counted z) (newest_two s n (omega arith) room) ∙ ranges_counted_more z _ _
      (reverse (take (n - 2) s)) (older h) r

  pub open_live : n < length s → (2 ≤ n → range (get_or s (n - 2) 0) (get_or s (n - 1) 0) ≤ range (get_or s (n - 1) 0) z → ⊥) →
      reverse (take (n + 1) (set s n z)) ≡ live_after z (reverse (take n s))
  open_live inside g = ap reverse (take_more_set s n z inside) ∙ reverse-append (take n s) (z ∷ []) ∙ sym (stays (cases_lt n 2))
    where
      stays : ((n < 2) ⊎ (2 ≤ n)) → live_after z (reverse (take n s)) ≡ z ∷ reverse (take n s)
      stays (inl h) = live_after_few z (reverse (take n s)) (omega (arith, length-reverse (take n s), length-take n s))
      stays (inr h) =
          let e = newest_two s n h room in
          ap (live_after z) e ∙ live_after_less z _ _ (reverse (take (n - 2) s)) (lt_of_not-le (g h)) ∙ ap (λ l. z ∷ l) (sym e)

  pub open_counted : (2 ≤ n → range (get_or s (n - 2) 0) (get_or s (n - 1) 0) ≤ range (get_or s (n - 1) 0) z → ⊥) →
      ranges_counted z (reverse (take n s)) ≡ []
  open_counted g = none (cases_lt n 2)
    where
      none : ((n < 2) ⊎ (2 ≤ n)) → ranges_counted z (reverse (take n s)) ≡ []
      none (inl h) = ranges_counted_few z (reverse (take n s)) (omega (arith, length-reverse (take n s), length-take n s))
      none (inr h) = ap (ranges_counted z) (newest_two s n h room) ∙ ranges_counted_less z _ _ (reverse (take (n - 2) s))
          (lt_of_not-le (g h))

module _ (k : ℕ) where
  -- of the first n places, those before the m-th
  pub All-first_few : (s : List ℕ) (m n : ℕ) → m ≤ n → n ≤ length s → All (λ x. x < k) (take n s) → All (λ x. x < k) (take m s)
  All-first_few s m n h room a = λ i d g.
      let within : i < m = omega (arith, g, length-take m s) in
      let e = get_or-take m s i d within in
      let f = get_or-take n s i d (omega arith) in
      let b = a i d (omega (arith, length-take-le n s room)) in
      omega arith
