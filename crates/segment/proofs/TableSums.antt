-- Sums over keys: of what is listed from counts, and of a table.
--   sum_from   the sum of the counts of so many keys from one on
use Rattle.std.proofs.Common.{◌≡◌, ℕ, zero, suc, ◌+◌, ◌-◌, ◌<◌, ◌≤◌, ◌⊎◌, inl, inr, List, [], ◌∷◌, length, refl, sym, ap, subst, arith}
use Rattle.std.specs.Prelude.{All, ◌==◌, if◌then◌else◌, slice_index, sum}
use Rattle.std.proofs.lemmas.Bool.{cases_lt, cases_eq, ne_eqb}
use Rattle.std.proofs.lemmas.Bool.Decides.{nat_tests}
use Rattle.std.proofs.lemmas.List.Elements.{All-nil, All-cons}
use Rattle.std.proofs.lemmas.List.Sums.{sum_by-cons}
use Rattle.tally.specs.declared.cells.Bin.{Bin}
use Rattle.tally.specs.tables.Bins.{sum_of}
use Rattle.tally.specs.tables.Tables.{is_at}
use Rattle.segment.specs.Parts.{bins_from}

abbrev pub sum_from : (ℕ → ℕ) → ℕ → ℕ → ℕ
sum_from count key zero = 0
sum_from count key (suc keys) = count key + sum_from count (key + 1) keys

pub none : (n : ℕ) (x y : List Bin) → n ≡ 0 → (if n == 0 then x else y) ≡ x
none n x y e = ap (λ m. if m == 0 then x else y) e

pub some : (n : ℕ) (x y : List Bin) → 0 < n → (if n == 0 then x else y) ≡ y
some n x y lt = ap (λ b. if b then x else y) (ne_eqb n 0 (λ e. omega (arith, e, lt)))

module _ (count : ℕ → ℕ) (key keys : ℕ) where
  next_none : count key ≡ 0 → bins_from count key (suc keys) ≡ bins_from count (key + 1) keys
  next_none e = none (count key) (bins_from count (key + 1) keys) (record { key = key; n = count key } ∷ bins_from count (key + 1) keys) e

  next_some : 0 < count key → bins_from count key (suc keys) ≡ record { key = key; n = count key } ∷ bins_from count (key + 1) keys
  next_some lt = some (count key) (bins_from count (key + 1) keys) (record { key = key; n = count key } ∷ bins_from count (key + 1) keys) lt

  listed_by : ((0 < count key) ⊎ (count key ≤ 0)) → sum_of (bins_from count (key + 1) keys) ≡ sum_from count (key + 1) keys →
      sum_of (bins_from count key (suc keys)) ≡ sum_from count key (suc keys)
  listed_by (inl lt) next = omega (
    arith,
    ap sum_of (next_some lt),
    sum_by-cons (λ b. b.n) (record { key = key; n = count key })
        (bins_from count (key + 1) keys),
    next,
  )
  listed_by (inr le) next = omega (arith, ap sum_of (next_none (omega arith)), next, le)

  all_by : (m : ℕ) → count key ≤ m - 1 → ((0 < count key) ⊎ (count key ≤ 0)) → All (λ b. b.n < m) (bins_from count (key + 1) keys) →
      All (λ b. b.n < m) (bins_from count key (suc keys))
  all_by m h (inl lt) next =
      subst (All (λ b. b.n < m)) (sym (next_some lt)) (All-cons (λ (b : Bin). b.n < m) (record { key = key; n = count key })
      (bins_from count (key + 1) keys) (omega (arith, h, lt)) next)
  all_by m h (inr le) next = subst (All (λ b. b.n < m)) (sym (next_none (omega arith))) next

pub listed_sum : (count : ℕ → ℕ) (key keys : ℕ) → sum_of (bins_from count key keys) ≡ sum_from count key keys
listed_sum count key zero = refl
listed_sum count key (suc keys) = listed_by count key keys (cases_lt 0 (count key)) (listed_sum count (key + 1) keys)

-- counts below a number
pub listed_below : (count : ℕ → ℕ) (m key keys : ℕ) → ((k : ℕ) → count k ≤ m - 1) → All (λ b. b.n < m) (bins_from count key keys)
listed_below count m key zero h = All-nil (λ (b : Bin). b.n < m)
listed_below count m key (suc keys) h = all_by count key keys m (h key) (cases_lt 0 (count key)) (listed_below count m (key + 1) keys h)

pub sum_same : (f g : ℕ → ℕ) (a n : ℕ) → ((k : ℕ) → a ≤ k → k < a + n → f k ≡ g k) → sum_from f a n ≡ sum_from g a n
sum_same f g a zero h = refl
sum_same f g a (suc n) h =
    omega (arith, h a (omega arith) (omega arith), sum_same f g (a + 1) n (λ k p q. h k (omega (arith, p)) (omega (arith, q))))

sum_shift : (f g : ℕ → ℕ) (a n : ℕ) → ((k : ℕ) → f (k + 1) ≡ g k) → sum_from f (a + 1) n ≡ sum_from g a n
sum_shift f g a zero h = refl
sum_shift f g a (suc n) h = omega (arith, h a, sum_shift f g (a + 1) n h)

pub sum_parts : (f : ℕ → ℕ) (a m n : ℕ) → sum_from f a (m + n) ≡ sum_from f a m + sum_from f (a + m) n
sum_parts f a zero n =
    let e : 0 + n ≡ n = omega arith in let g : a + 0 ≡ a = omega arith in omega (arith, ap (sum_from f a) e, ap (λ b. sum_from f b n) g)
sum_parts f a (suc m) n =
    let e : suc m + n ≡ suc (m + n) = omega arith in
    let g : a + 1 + m ≡ a + suc m = omega arith in
    omega (arith, ap (sum_from f a) e, sum_parts f (a + 1) m n, ap (λ b. sum_from f b n) g)

pub sum_both : (f g : ℕ → ℕ) (a n : ℕ) → sum_from (λ k. f k + g k) a n ≡ sum_from f a n + sum_from g a n
sum_both f g a zero = refl
sum_both f g a (suc n) = omega (arith, sum_both f g (a + 1) n)

behind_next : (x : ℕ) (t : List ℕ) (k : ℕ) → slice_index (x ∷ t) (k + 1) ≡ slice_index t k
behind_next x t k = let e : k + 1 ≡ suc k = omega arith in ap (slice_index (x ∷ t)) e

-- a table's sum
pub table_sum : (t : List ℕ) → sum_from (slice_index t) 0 (length t) ≡ sum t
table_sum [] = refl
table_sum (x ∷ t) =
    omega (arith, sum_shift (slice_index (x ∷ t)) (slice_index t) 0 (length t) (behind_next x t), table_sum t, sum_by-cons (λ n. n) x t)

at_here : (k p : ℕ) → k ≡ p → is_at k p ≡ 1
at_here k p e = grind (arith, nat_tests)

at_other : (k p : ℕ) → (k ≡ p → ⊥) → is_at k p ≡ 0
at_other k p n = grind (arith, nat_tests)

sum_past : (p a n : ℕ) → p < a → sum_from (λ k. is_at k p) a n ≡ 0
sum_past p a zero h = refl
sum_past p a (suc n) h = omega (arith, at_other a p (λ e. omega (arith, e, h)), sum_past p (a + 1) n (omega (arith, h)))

one_by : (p a n : ℕ) → a ≤ p → p < a + suc n → (a + 1 ≤ p → p < a + 1 + n → sum_from (λ k. is_at k p) (a + 1) n ≡ 1) →
    ((a ≡ p) ⊎ (a ≡ p → ⊥)) → sum_from (λ k. is_at k p) a (suc n) ≡ 1
one_by p a n from to next (inl e) = omega (arith, at_here a p e, sum_past p (a + 1) n (omega (arith, e)))
one_by p a n from to next (inr d) = omega (arith, at_other a p d, next (further a p d from) (omega (arith, to)))
  where
    further : (a p : ℕ) → (a ≡ p → ⊥) → a ≤ p → a + 1 ≤ p
    further a p d h = grind arith

-- one place among the keys
pub sum_one : (p a n : ℕ) → a ≤ p → p < a + n → sum_from (λ k. is_at k p) a n ≡ 1
sum_one p a zero from to = absurd (omega (arith, from, to))
sum_one p a (suc n) from to = one_by p a n from to (λ g h. sum_one p (a + 1) n g h) (cases_eq a p)

pub sum_zero : (a n : ℕ) → sum_from (λ k. 0) a n ≡ 0
sum_zero a zero = refl
sum_zero a (suc n) = omega (arith, sum_zero (a + 1) n)
