-- Lists that were made of others, each in its order.
use Rattle.std.specs.Prelude.{◌≡◌, ◌≢◌, ◌<◌, ◌++◌, ◌∷◌, [], ℕ, List}

-- the list has the items of each worker's list, in that list's order, mixed in any way
pub data IsMixOf {A : Type 0} (workers : ℕ) : (ℕ → List A) → List A → Type 0 where
  nothing : {f : ℕ → List A} → ((v : ℕ) → f v ≡ []) → IsMixOf workers f []
  next : {f h : ℕ → List A} {l : List A} → (x : A) (v : ℕ) → v < workers → IsMixOf workers f l → h v ≡ f v ++ x ∷ []
      → ((u : ℕ) → u ≢ v → h u ≡ f u) → IsMixOf workers h (l ++ x ∷ [])
