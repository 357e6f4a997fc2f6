-- The tables of a whole list of points.
use Rattle.std.proofs.Common.{◌≡◌, ℕ, ◌+◌, ◌-◌, ◌<◌, ◌≤◌, cond, ltb, max, min, List, length, take, sum, set, get_or, ap, arith, length-set}
use Rattle.std.proofs.lemmas.List.{take_all}
use Rattle.tally.specs.tables.Tables.{raise}
use Rattle.simple_counts.specs.level_crossing.Crossings.{crossings}
use Rattle.simple_counts.specs.level_crossing.Halves.{below_at, last_begin, last_stop, IsOpen}
use Rattle.simple_counts.proofs.on_level_crossing.Halves.{sum_take_more}
use Rattle.simple_counts.proofs.on_level_crossing.Steps.{length_yes, length_no, sum_yes, sum_no}

-- b and s after the inner points, c and d with their other halves, e and f with the first half of the first step, g and h with the last
-- half of the last one
pub record Ends (r : ℕ) (p b s c d e f g h : List ℕ) (nb nt low high below above : ℕ) : Type 0 where
  pub begins : c ≡ set b r (get_or b r 0 + nb)
  pub stops : d ≡ set s r (get_or s r 0 + nt)
  pub low_is : low ≡ max (get_or p 0 0 + 1) r
  pub high_is : high ≡ min (get_or p 0 0 + 1) r
  pub first_begins : e ≡ cond (ltb (get_or p 0 0) (get_or p 1 0)) (raise c low) c
  pub first_stops : f ≡ cond (ltb (get_or p 0 0) (get_or p 1 0)) d (raise d high)
  pub below_is : below ≡ min (get_or p (length p - 1) 0 + 1) r
  pub above_is : above ≡ max (get_or p (length p - 1) 0 + 1) r
  pub last_begins : g ≡ cond (ltb (get_or p (length p - 1) 0) (get_or p (length p - 2) 0)) (raise e below) e
  pub last_stops : h ≡ cond (ltb (get_or p (length p - 1) 0) (get_or p (length p - 2) 0)) f (raise f above)

pub closed : (r : ℕ) (p b s c d e f g h : List ℕ) (nb nt low high below above : ℕ) → 2 ≤ length p → IsOpen r b s nb nt p (length p - 1) →
    r < length b → r < length s → low < length b → high < length s → below < length b → above < length s →
    Ends r p b s c d e f g h nb nt low high below above → (l : ℕ) → sum (take (l + 1) g) ≡ sum (take (l + 1) h) + crossings r l p
closed r p b s c d e f g h nb nt low high below above m o rb rs lb hs bb ab v = λ l.
    let t = ltb (get_or p (length p - 1) 0) (get_or p (length p - 2) 0) in
    let u = ltb (get_or p 0 0) (get_or p 1 0) in
    let a : length p - 1 - 1 ≡ length p - 2 = omega arith in
    let n : length p ≤ length p - 1 + 1 = omega arith in
    let i : length c ≡ length b = omega (arith, ap length v.begins, length-set b r (get_or b r 0 + nb)) in
    let j : length d ≡ length s = omega (arith, ap length v.stops, length-set s r (get_or s r 0 + nt)) in
    let k : length e ≡ length c = length_yes c e low u v.first_begins in
    let q : length f ≡ length d = length_no d f high u v.first_stops in
    omega (
      arith,
      o l,
      sum_yes e g below (l + 1) t (omega (arith, i, k)) v.last_begins,
      sum_no f h above (l + 1) t (omega (arith, j, q)) v.last_stops,
      sum_yes c e low (l + 1) u (omega (arith, i)) v.first_begins,
      sum_no d f high (l + 1) u (omega (arith, j)) v.first_stops,
      ap (λ x. sum (take (l + 1) x)) v.begins,
      ap (λ x. sum (take (l + 1) x)) v.stops,
      sum_take_more b r nb (l + 1) rb,
      sum_take_more s r nt (l + 1) rs,
      ap (λ x. last_begin r l (get_or p x 0) (get_or p (length p - 1) 0)) a,
      ap (λ x. last_stop r l (get_or p x 0) (get_or p (length p - 1) 0)) a,
      ap (λ x. cond u (below_at x (l + 1)) 0) v.low_is,
      ap (λ x. cond u 0 (below_at x (l + 1))) v.high_is,
      ap (λ x. cond t (below_at x (l + 1)) 0) v.below_is,
      ap (λ x. cond t 0 (below_at x (l + 1))) v.above_is,
      ap (crossings r l) (take_all (length p - 1 + 1) p n),
    )
