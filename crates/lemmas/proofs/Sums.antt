-- Sums over lists.
use Rattle.std.proofs.Common.{◌≡◌, ℕ, zero, suc, ◌+◌, ◌<◌, ◌≤◌, List, [], ◌∷◌, length, get_or, set, refl, arith}
use Rattle.std.specs.Prelude.{sum}
use Rattle.std.proofs.lemmas.List.Sums.{sum_by-cons, sum_by-set}

pub sum-zeros : (t : List ℕ) → ((p : ℕ) → get_or t p 0 ≡ 0) → sum t ≡ 0
sum-zeros [] h = refl
sum-zeros (n ∷ ns) h = let e = h 0 in omega (arith, e, sum_by-cons (λ x. x) n ns, sum-zeros ns (λ p. h (suc p)))

-- lists that add up place by place add up as a whole
pub sum-added : (s t r : List ℕ) → length s ≡ length r → length t ≡ length r → ((p : ℕ) → get_or r p 0 ≡ get_or s p 0 + get_or t p 0) →
    sum r ≡ sum s + sum t
sum-added [] [] [] e f h = refl
sum-added (a ∷ s) (b ∷ t) (c ∷ r) e f h =
    let g = h 0 in
    omega (
      arith,
      g,
      sum_by-cons (λ x. x) a s,
      sum_by-cons (λ x. x) b t,
      sum_by-cons (λ x. x) c r,
      sum-added s t r (omega arith)
          (omega arith) (λ p. h (suc p)),
    )
sum-added [] [] (c ∷ r) e f h = absurd (omega arith)
sum-added [] (b ∷ t) r e f h = absurd (omega arith)
sum-added (a ∷ s) [] r e f h = absurd (omega arith)
sum-added (a ∷ s) (b ∷ t) [] e f h = absurd (omega arith)

-- no item is greater than the sum
pub get_or-le-sum : (t : List ℕ) (p : ℕ) → get_or t p 0 ≤ sum t
get_or-le-sum [] p = omega arith
get_or-le-sum (n ∷ ns) zero = omega (arith, sum_by-cons (λ x. x) n ns)
get_or-le-sum (n ∷ ns) (suc p) = omega (arith, sum_by-cons (λ x. x) n ns, get_or-le-sum ns p)

-- the sum of a list in which one place was raised
pub sum-raised : (t : List ℕ) (p m : ℕ) → p < length t → sum (set t p (get_or t p 0 + m)) ≡ sum t + m
sum-raised t p m w = let e = sum_by-set (λ x. x) t p (get_or t p 0 + m) 0 w in omega arith
