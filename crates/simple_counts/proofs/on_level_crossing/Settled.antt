-- What begins and stops at one place is taken out.
use Rattle.std.proofs.Common.{◌≡◌, ◌≢◌, ℕ, ◌+◌, ◌-◌, ◌<◌, ◌≤◌, ◌⊎◌, inl, inr, min, List, length, take, sum, set, get_or, ap, ◌∙◌, arith, get_or-set_other, get_or-set_same}
use Rattle.std.proofs.lemmas.Bool.{cases_eq, cases_lt}
use Rattle.std.proofs.lemmas.List.{get_or_past}
use Rattle.simple_counts.specs.level_crossing.Crossings.{crossings}
use Rattle.simple_counts.specs.level_crossing.Halves.{IsSettled}
use Rattle.simple_counts.proofs.on_level_crossing.PushJoin.{at_more}
use Rattle.simple_counts.proofs.on_level_crossing.Halves.{sum_take_less}

less_either : (x y m : ℕ) → m ≡ min x y → (x - m ≡ 0) ⊎ (y - m ≡ 0)
less_either x y m e = pick (cases_lt x y)
  where
    pick : ((x < y) ⊎ (y ≤ x)) → (x - m ≡ 0) ⊎ (y - m ≡ 0)
    pick (inl h) = inl (omega arith)
    pick (inr h) = inr (omega arith)

module _ (b s c t : List ℕ) (i m : ℕ) (g : IsSettled b s c t i) (h : i < length c) (k : i < length t)
    (e : m ≡ min (get_or c i 0) (get_or t i 0)) where
  here : (x y : ℕ) → x ≡ get_or c i 0 - m → y ≡ get_or t i 0 - m → ((get_or c i 0 - m ≡ 0) ⊎ (get_or t i 0 - m ≡ 0)) → (x ≡ 0) ⊎ (y ≡ 0)
  here x y p q (inl z) = inl (p ∙ z)
  here x y p q (inr z) = inr (q ∙ z)

  none_at : (n : ℕ) → n < i + 1 → ((n ≡ i) ⊎ (n ≢ i)) →
      (get_or (set c i (get_or c i 0 - m)) n 0 ≡ 0) ⊎ (get_or (set t i (get_or t i 0 - m)) n 0 ≡ 0)
  none_at n l (inl q) =
      let x = ap (λ j. get_or (set c i (get_or c i 0 - m)) j 0) q ∙ get_or-set_same c i (get_or c i 0 - m) 0 h in
      let y = ap (λ j. get_or (set t i (get_or t i 0 - m)) j 0) q ∙ get_or-set_same t i (get_or t i 0 - m) 0 k in
      here _ _ x y (less_either _ _ m e)
  none_at n l (inr q) = other (g.none n (omega arith))
    where
      other : ((get_or c n 0 ≡ 0) ⊎ (get_or t n 0 ≡ 0)) →
          (get_or (set c i (get_or c i 0 - m)) n 0 ≡ 0) ⊎ (get_or (set t i (get_or t i 0 - m)) n 0 ≡ 0)
      other (inl z) = inl (get_or-set_other c i n (get_or c i 0 - m) 0 q ∙ z)
      other (inr z) = inr (get_or-set_other t i n (get_or t i 0 - m) 0 q ∙ z)

  pub settled_more : IsSettled b s (set c i (get_or c i 0 - m)) (set t i (get_or t i 0 - m)) (i + 1)
  settled_more = record {
    same = λ j. omega (arith, g.same j, sum_take_less c i m j h (omega arith), sum_take_less t i m j k (omega arith));
    none = λ n l. none_at n l (cases_eq n i);
  }

-- no sum of stops passes the sum of what began before
pub enough : (b s c t : List ℕ) (n : ℕ) → IsSettled b s c t n → length c ≡ n → length t ≡ n →
    ((l : ℕ) → sum (take (l + 1) s) ≤ sum (take (l + 1) b)) → (i : ℕ) → sum (take (i + 1) t) ≤ sum (take i c)
enough b s c t n g p q h i = pick (cases_lt i n)
  where
    at_here : ((get_or c i 0 ≡ 0) ⊎ (get_or t i 0 ≡ 0)) → (j : ℕ) → j + 1 ≡ i → sum (take (i + 1) t) ≤ sum (take i c)
    at_here (inl z) j e = omega (arith, g.same (i + 1), h i, at_more c i)
    at_here (inr z) j e = omega (
      arith,
      ap (λ k. sum (take k t)) e,
      ap (λ k. sum (take k c)) e,
      ap (λ k. sum (take k s)) e,
      ap (λ k. sum (take k b)) e,
      g.same (j + 1),
      h j,
      at_more t i,
    )

    at_first : ((get_or c i 0 ≡ 0) ⊎ (get_or t i 0 ≡ 0)) → i ≡ 0 → sum (take (i + 1) t) ≤ sum (take i c)
    at_first (inl z) e = omega (arith, g.same (i + 1), h i, at_more c i)
    at_first (inr z) e = omega (arith, at_more t i, ap (λ k. sum (take k t)) e)

    any : ((get_or c i 0 ≡ 0) ⊎ (get_or t i 0 ≡ 0)) → ((i < 1) ⊎ (1 ≤ i)) → sum (take (i + 1) t) ≤ sum (take i c)
    any z (inl o) = at_first z (omega arith)
    any z (inr o) = at_here z (i - 1) (omega arith)

    pick : ((i < n) ⊎ (n ≤ i)) → sum (take (i + 1) t) ≤ sum (take i c)
    pick (inl o) = any (g.none i o) (cases_lt i 1)
    pick (inr o) = any (inr (outside t i (omega arith))) (cases_lt i 1)
      where
        outside : (t : List ℕ) (i : ℕ) → length t ≤ i → get_or t i 0 ≡ 0
        outside t i o = get_or_past t i 0 o

pub settled_counts : (b s c t : List ℕ) (n r : ℕ) (p : List ℕ) → IsSettled b s c t n →
    ((l : ℕ) → sum (take (l + 1) b) ≡ sum (take (l + 1) s) + crossings r l p) → (l : ℕ) →
    sum (take (l + 1) c) ≡ sum (take (l + 1) t) + crossings r l p
settled_counts b s c t n r p g f l = omega (arith, g.same (l + 1), f l)
