-- Lists of which one place has changed, that have an item more, and buffers that a slice wrote over.
use Rattle.std.proofs.Common.{◌≡◌, ◌≢◌, ◌⊎◌, inl, inr, ◌<◌, ℕ, ◌+◌, List, [], ◌∷◌, ◌++◌, length, get_or, set, ap, sym, ◌∙◌, subst, arith}
use Rattle.std.proofs.Math.ListN.{get_or-append}
use Rattle.std.proofs.Math.Seq.{get_or-append_seam}
use Rattle.std.proofs.lemmas.List.{get_or-set_same, get_or-set_other}
use Rattle.std.proofs.lemmas.Bool.{cases_eq}

at_or : {A : Type 0} → (Q : ℕ → A → Type 0) (l : List A) (k : ℕ) (x : A) (i : ℕ) (d : A) → k < length l → (i ≢ k → Q i (get_or l i d)) →
    (i ≡ k → Q k x) → ((i ≡ k) ⊎ (i ≡ k → ⊥)) → Q i (get_or (set l k x) i d)
at_or Q l k x i d h old new (inl e) = subst (λ j. Q j (get_or (set l k x) j d)) (sym e)
    (subst (Q k) (sym (get_or-set_same l k x d h)) (new e))
at_or Q l k x i d h old new (inr e) = subst (Q i) (sym (get_or-set_other l k i x d e)) (old e)

-- a fact of each place, where one has changed
pub at_set : {A : Type 0} → (Q : ℕ → A → Type 0) (l : List A) (k : ℕ) (x : A) (i : ℕ) (d : A) → k < length l → (i ≢ k → Q i (get_or l i d))
    → (i ≡ k → Q k x) → Q i (get_or (set l k x) i d)
at_set Q l k x i d h old new = at_or Q l k x i d h old new (cases_eq i k)

pushed_or : {A : Type 0} → (Q : ℕ → A → Type 0) (l : List A) (x : A) (n : ℕ) → length l ≡ n → ((k : ℕ) (d : A) → k < n → Q k (get_or l k d))
    → Q n x → (k : ℕ) (d : A) → k < n + 1 → ((k ≡ n) ⊎ (k ≡ n → ⊥)) → Q k (get_or (l ++ x ∷ []) k d)
pushed_or Q l x n e all new k d m (inl is) = subst (λ j. Q j (get_or (l ++ x ∷ []) j d)) (sym is)
    (subst (Q n) (sym (ap (λ i. get_or (l ++ x ∷ []) i d) (sym e) ∙ get_or-append_seam l x [] d)) new)
pushed_or Q l x n e all new k d m (inr other) = subst (Q k) (sym (get_or-append l (x ∷ []) d k (omega (arith, e, m, other))))
    (all k d (omega (arith, m, other)))

-- a fact of each place, where there is one more item
pub each_pushed : {A : Type 0} → (Q : ℕ → A → Type 0) (l : List A) (x : A) (n : ℕ) → length l ≡ n →
    ((k : ℕ) (d : A) → k < n → Q k (get_or l k d)) → Q n x → (k : ℕ) (d : A) → k < n + 1 → Q k (get_or (l ++ x ∷ []) k d)
each_pushed Q l x n e all new k d m = pushed_or Q l x n e all new k d m (cases_eq k n)
