-- A list of which one place after the other is written.
use Rattle.std.proofs.Common.{◌≡◌, ◌≤◌, ◌<◌, inl, inr, ℕ, ◌+◌, List, length, get_or, set, sym, ◌∙◌, subst, arith}
use Rattle.std.proofs.lemmas.List.{get_or-set_same, get_or-set_other}
use Rattle.std.proofs.lemmas.Bool.{cases_eq}

-- the places before this one stand to the old ones as P says, and so does this one
pub set_more : {A : Type 0} (P : ℕ → A → A → Type 0) (old now : List A) (k : ℕ) (x : A) → k < length now
    → ((g : ℕ) (d : A) → g < k → P g (get_or old g d) (get_or now g d)) → ((d : A) → P k (get_or old k d) x)
    → (g : ℕ) (d : A) → g < k + 1 → P g (get_or old g d) (get_or (set now k x) g d)
set_more {A} P old now k x here before one g d lt = elim (cases_eq g k) [
  | inl same ↦ subst (λ (n : ℕ). P n (get_or old n d) (get_or (set now k x) n d)) (sym same)
      (subst (λ (y : A). P k (get_or old k d) y) (sym (get_or-set_same now k x d here)) (one d))
  | inr other ↦ subst (λ (y : A). P g (get_or old g d) y) (sym (get_or-set_other now k g x d other)) (before g d (less g k lt other))
] where
  less : (g k : ℕ) → g < k + 1 → (g ≡ k → ⊥) → g < k
  less g k lt other = grind arith

-- those behind it are the old ones
pub set_others : {A : Type 0} (old now : List A) (k : ℕ) (x : A) → ((g : ℕ) (d : A) → k ≤ g → get_or now g d ≡ get_or old g d)
    → (g : ℕ) (d : A) → k + 1 ≤ g → get_or (set now k x) g d ≡ get_or old g d
set_others {A} old now k x same g d le = get_or-set_other now k g x d (λ e. omega (arith, e, le)) ∙ same g d (omega (arith, le))
