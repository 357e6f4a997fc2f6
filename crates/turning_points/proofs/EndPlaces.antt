-- The last two of a list, by their places.
use Rattle.std.proofs.Common.{◌≡◌, ℕ, suc, ◌+◌, ◌-◌, ◌≤◌, List, [], ◌∷◌, length, get_or, refl, ap, ◌∙◌, arith}
use Rattle.turning_points.specs.EndPoints.{EndPoints, ends_of, last_point, last_but_one}

pub last_place : (l : List ℕ) (i : ℕ) → i + 1 ≡ length l → get_or l i 0 ≡ last_point l
last_place [] i h = refl
last_place (x ∷ []) i h = let e : i ≡ 0 = omega arith in ap (λ j. get_or (x ∷ []) j 0) e
last_place (x ∷ y ∷ l) i h =
    let e : i ≡ suc (i - 1) = omega arith in ap (λ j. get_or (x ∷ y ∷ l) j 0) e ∙ last_place (y ∷ l) (i - 1) (omega arith)

pub before_place : (l : List ℕ) (i : ℕ) → i + 2 ≡ length l → get_or l i 0 ≡ last_but_one l
before_place [] i h = absurd (omega arith)
before_place (x ∷ []) i h = absurd (omega arith)
before_place (x ∷ y ∷ []) i h = let e : i ≡ 0 = omega arith in ap (λ j. get_or (x ∷ y ∷ []) j 0) e
before_place (x ∷ y ∷ z ∷ l) i h =
    let e : i ≡ suc (i - 1) = omega arith in ap (λ j. get_or (x ∷ y ∷ z ∷ l) j 0) e ∙ before_place (y ∷ z ∷ l) (i - 1) (omega arith)

same_ends : (n a b c d c' d' : ℕ) → c ≡ c' → d ≡ d' →
    ◌≡◌ {A = EndPoints} (record { points = n; first = a; second = b; before = c; last = d })
    (record { points = n; first = a; second = b; before = c'; last = d' })
same_ends n a b c d c' d' p q = cc

pub ends_places : (l : List ℕ) → 2 ≤ length l →
    ◌≡◌ {A = EndPoints} (record {
      points = length l;
      first = get_or l 0 0;
      second = get_or l 1 0;
      before = get_or l (length l - 2) 0;
      last = get_or l (length l - 1) 0;
    }) (ends_of l)
ends_places l h = same_ends _ _ _ _ _ _ _ (before_place l (length l - 2) (omega arith)) (last_place l (length l - 1) (omega arith))

pub ends_one : (l : List ℕ) → length l ≡ 1 →
    ◌≡◌ {A = EndPoints} (record { points = 1; first = get_or l 0 0; second = 0; before = 0; last = get_or l 0 0 }) (ends_of l)
ends_one [] h = absurd (omega arith)
ends_one (x ∷ []) h = refl
ends_one (x ∷ y ∷ l) h = absurd (omega arith)
