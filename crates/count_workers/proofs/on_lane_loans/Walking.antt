-- Loops over lanes and their readers.
use Rattle.std.proofs.Common.{◌≡◌, ◌⊎◌, inl, inr, ◌≤◌, ◌<◌, ◌+◌, ℕ, zero, suc, List, [], ◌∷◌, length, map, get_or, set, refl, sym, subst, arith}
use Rattle.std.proofs.lemmas.List.{get_or-set_same, get_or-set_other}
use Rattle.std.proofs.lemmas.Bool.{cases_eq}
use Rattle.board.specs.flow.Kept.{over}

pub map_at : {A B : Type 0} → (k : A → B) (xs : List A) (g : ℕ) (z : B) (d : A) → g < length xs → get_or (map k xs) g z ≡ k (get_or xs g d)
map_at k [] g z d h = absurd (omega (arith, h))
map_at k (x ∷ xs) zero z d h = refl
map_at k (x ∷ xs) (suc g) z d h = map_at k xs g z d (omega (arith, h))

-- one more of a sum
pub over_next : (k n : ℕ) (f : ℕ → ℕ) → k < n → f k + over k f ≤ over n f
over_next k zero f h = absurd (omega (arith, h))
over_next k (suc n) f h = elim (cases_eq k n) [
  | inl e ↦ subst (λ j. f j + over j f ≤ f n + over n f) (sym e) (omega arith)
  | inr d ↦ (let up : f k + over k f ≤ over n f = over_next k n f (omega (arith, h, d)) in omega (arith, up))
]

set_two_at : {A B : Type 0} → (R : A → A → B → B → Type 0) (xs ys : List A) (zs ws : List B) (k : ℕ) (a : A) (b : B) (d : A) (e : B)
    → k < length ys → k < length ws → ((i : ℕ) → i < k → R (get_or xs i d) (get_or ys i d) (get_or zs i e) (get_or ws i e))
    → R (get_or xs k d) a (get_or zs k e) b
    → (u : ℕ) → u < k + 1 → ((u ≡ k) ⊎ (u ≡ k → ⊥)) → R (get_or xs u d) (get_or (set ys k a) u d) (get_or zs u e) (get_or (set ws k b) u e)
set_two_at R xs ys zs ws k a b d e l m before here u h (inl q) =
    subst (λ j. R (get_or xs j d) (get_or (set ys k a) j d) (get_or zs j e) (get_or (set ws k b) j e)) (sym q)
    (subst (λ x. R (get_or xs k d) x (get_or zs k e) (get_or (set ws k b) k e)) (sym (get_or-set_same ys k a d l))
    (subst (λ y. R (get_or xs k d) a (get_or zs k e) y) (sym (get_or-set_same ws k b e m)) here))
set_two_at R xs ys zs ws k a b d e l m before here u h (inr o) =
    subst (λ x. R (get_or xs u d) x (get_or zs u e) (get_or (set ws k b) u e)) (sym (get_or-set_other ys k u a d o))
    (subst (λ y. R (get_or xs u d) (get_or ys u d) (get_or zs u e) y) (sym (get_or-set_other ws k u b e o))
    (before u (omega (arith, h, o))))

-- two lists were written at one place
pub set_two : {A B : Type 0} → (R : A → A → B → B → Type 0) (xs ys : List A) (zs ws : List B) (k : ℕ) (a : A) (b : B) (d : A) (e : B)
    → k < length ys → k < length ws → ((i : ℕ) → i < k → R (get_or xs i d) (get_or ys i d) (get_or zs i e) (get_or ws i e))
    → R (get_or xs k d) a (get_or zs k e) b
    → (u : ℕ) → u < k + 1 → R (get_or xs u d) (get_or (set ys k a) u d) (get_or zs u e) (get_or (set ws k b) u e)
set_two R xs ys zs ws k a b d e l m before here u h = set_two_at R xs ys zs ws k a b d e l m before here u h (cases_eq u k)

-- an item of a list that is not empty
pub some_of : {A : Type 0} → (xs : List A) → 1 ≤ length xs → A
some_of [] h = absurd (omega (arith, h))
some_of (x ∷ xs) h = x

-- a fact of each item of a short list
pub each_one : {A : Type 0} → (P : ℕ → A → Type 0) (a : A) → P 0 a → (g : ℕ) (d : A) → g < 1 → P g (get_or (a ∷ []) g d)
each_one P a p zero d h = p
each_one P a p (suc g) d h = absurd (omega (arith, h))

pub each_two : {A : Type 0} → (P : ℕ → A → Type 0) (a b : A) → P 0 a → P 1 b → (g : ℕ) (d : A) → g < 2 → P g (get_or (a ∷ b ∷ []) g d)
each_two P a b p q zero d h = p
each_two P a b p q (suc zero) d h = q
each_two P a b p q (suc (suc g)) d h = absurd (omega (arith, h))
