-- A sum of half units, place by place.
use Rattle.std.proofs.Common.{◌≡◌, ◌≤◌, ◌<◌, ℕ, zero, suc, ◌+◌, ◌-◌, ◌*◌, ◌^◌, List, length, slice_index, refl, ap, ◌∙◌, arith}
use Rattle.turning_points.specs.three_point.Run.{half_units}
use Rattle.demo_command.specs.declared.made.TheConstants.{CLASSES}
use Rattle.demo_command.specs.Summary.{all_halves, table_halves}

pub all_halves-same : (f g : ℕ → ℕ) (k : ℕ) → ((i : ℕ) → 1 ≤ i → i ≤ k → f i ≡ g i) → all_halves f k ≡ all_halves g k
all_halves-same f g zero same = refl
all_halves-same f g (suc k) same =
    ap (λ (n : ℕ). n + f (suc k)) (all_halves-same f g k (λ i from to. same i from (omega (arith, to))))
    ∙ ap (λ (n : ℕ). all_halves g k + n) (same (suc k) (omega arith) (omega arith))

-- one place more
pub all_halves-more : (f : ℕ → ℕ) (sum x k : ℕ) → 1 ≤ k → sum ≡ all_halves f (k - 1) → x ≡ f k → sum + x ≡ all_halves f (k + 1 - 1)
all_halves-more f sum x k from was is =
    let here : k ≡ suc (k - 1) = omega (arith, from) in
    let next : suc (k - 1) ≡ k + 1 - 1 = omega (arith, from) in
    ap (λ (n : ℕ). n + x) was ∙ ap (λ (n : ℕ). all_halves f (k - 1) + n) (is ∙ ap f here) ∙ ap (all_halves f) next

-- the half units of a table
pub table_sum : (halves : List ℕ) (sum : ℕ) (h : List ℕ) → sum ≡ all_halves (λ k. slice_index halves k) (length halves - 1)
    → length halves ≡ CLASSES → ((k : ℕ) → 1 ≤ k → k < CLASSES → slice_index halves k ≡ half_units h k) → sum ≡ table_halves h
table_sum halves sum h is long each =
    is ∙ ap (λ (n : ℕ). all_halves (λ k. slice_index halves k) (n - 1)) long
    ∙ all_halves-same (λ k. slice_index halves k) (half_units h) (CLASSES - 1) (λ i from to. each i from (omega (arith, to)))

pub bound_more : (sum x k : ℕ) → sum ≤ k * (2 ^ 64 - 1) → x < 2 ^ 64 → sum + x ≤ (k + 1) * (2 ^ 64 - 1)
bound_more sum x k was few = omega (arith, was, few)
