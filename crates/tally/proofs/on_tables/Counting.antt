-- Tables of counts.
use Rattle.std.proofs.Common.{◌≡◌, ◌≢◌, ℕ, zero, suc, ◌+◌, ◌-◌, ◌<◌, ◌≤◌, ◌⊎◌, inl, inr, Bool, true, false, cond, set, ◌∙◌, List, [], ◌∷◌, length, get_or, sum, refl, sym, ap, arith, get_or-set_other, get_or-set_same}
use mir.Val.{bool_byte}
use Rattle.std.proofs.lemmas.Bool.{cases_eq}
use Rattle.std.proofs.lemmas.Bool.Decides.{nat_tests}
use Rattle.std.proofs.lemmas.List.Sums.{sum_by-cons}
use Rattle.std.proofs.lemmas.List.{set-get_or}
use Rattle.tally.specs.tables.Tables.{raise, lower, sum_of_tables, is_at}

pub sum_cons : (x : ℕ) (t : List ℕ) → sum (x ∷ t) ≡ x + sum t
sum_cons x t = sum_by-cons (λ y. y) x t

raise_pick : (t : List ℕ) (i k : ℕ) → i < length t → ((i ≡ k) ⊎ (i ≢ k)) → get_or (raise t i) k 0 ≡ get_or t k 0 + is_at k i
raise_pick t i k h (inl e) =
    let a : get_or (raise t i) i 0 ≡ get_or t i 0 + 1 = get_or-set_same t i (get_or t i 0 + 1) 0 h in
    grind (arith, nat_tests, ap (λ j. get_or (raise t i) j 0) e, ap (λ j. get_or t j 0) e)
raise_pick t i k h (inr n) =
    let a : get_or (raise t i) k 0 ≡ get_or t k 0 = get_or-set_other t i k (get_or t i 0 + 1) 0 (λ e. n (sym e)) in
    grind (arith, nat_tests)

pub raise_at : (t : List ℕ) (i k : ℕ) → i < length t → get_or (raise t i) k 0 ≡ get_or t k 0 + is_at k i
raise_at t i k h = raise_pick t i k h (cases_eq i k)

lower_pick : (t : List ℕ) (i k : ℕ) → i < length t → 1 ≤ get_or t i 0 → ((i ≡ k) ⊎ (i ≢ k)) →
    get_or (lower t i) k 0 + is_at k i ≡ get_or t k 0
lower_pick t i k h m (inl e) =
    let a : get_or (lower t i) i 0 ≡ get_or t i 0 - 1 = get_or-set_same t i (get_or t i 0 - 1) 0 h in
    grind (arith, nat_tests, ap (λ j. get_or (lower t i) j 0) e, ap (λ j. get_or t j 0) e)
lower_pick t i k h m (inr n) =
    let a : get_or (lower t i) k 0 ≡ get_or t k 0 = get_or-set_other t i k (get_or t i 0 - 1) 0 (λ e. n (sym e)) in
    grind (arith, nat_tests)

pub lower_at : (t : List ℕ) (i k : ℕ) → i < length t → 1 ≤ get_or t i 0 → get_or (lower t i) k 0 + is_at k i ≡ get_or t k 0
lower_at t i k h m = lower_pick t i k h m (cases_eq i k)

pub sum_raise : (t : List ℕ) (i : ℕ) → i < length t → sum (raise t i) ≡ sum t + 1
sum_raise [] i h = absurd (omega arith)
sum_raise (x ∷ t) zero h = omega (arith, sum_cons (x + 1) t, sum_cons x t)
sum_raise (x ∷ t) (suc i) h = omega (arith, sum_cons x (raise t i), sum_cons x t, sum_raise t i (omega arith))

pub sum_lower : (t : List ℕ) (i : ℕ) → i < length t → 1 ≤ get_or t i 0 → sum (lower t i) + 1 ≡ sum t
sum_lower [] i h m = absurd (omega arith)
sum_lower (x ∷ t) zero h m = omega (arith, sum_cons (x - 1) t, sum_cons x t)
sum_lower (x ∷ t) (suc i) h m = omega (arith, sum_cons x (lower t i), sum_cons x t, sum_lower t i (omega arith) m)

pub added_at : (s t : List ℕ) (k : ℕ) → length s ≡ length t → get_or (sum_of_tables s t) k 0 ≡ get_or s k 0 + get_or t k 0
added_at [] [] k h = refl
added_at [] (y ∷ t) k h = absurd (omega arith)
added_at (x ∷ s) [] k h = absurd (omega arith)
added_at (x ∷ s) (y ∷ t) zero h = refl
added_at (x ∷ s) (y ∷ t) (suc k) h = added_at s t k (omega arith)

pub sum_added : (s t : List ℕ) → length s ≡ length t → sum (sum_of_tables s t) ≡ sum s + sum t
sum_added [] [] h = refl
sum_added [] (y ∷ t) h = absurd (omega arith)
sum_added (x ∷ s) [] h = absurd (omega arith)
sum_added (x ∷ s) (y ∷ t) h = omega (arith, sum_cons (x + y) (sum_of_tables s t), sum_cons x s, sum_cons y t, sum_added s t (omega arith))

pub length_added : (s t : List ℕ) → length (sum_of_tables s t) ≡ length s
length_added [] t = refl
length_added (x ∷ s) [] = refl
length_added (x ∷ s) (y ∷ t) = ap suc (length_added s t)

-- one more where it is asked for
pub raised_if : (t : List ℕ) (i n : ℕ) (b : Bool) → i < length t → n ≡ bool_byte b → set t i (get_or t i 0 + n) ≡ cond b (raise t i) t
raised_if t i n true h e = ap (λ k. set t i (get_or t i 0 + k)) e
raised_if t i n false h e = let z : get_or t i 0 + n ≡ get_or t i 0 = omega arith in ap (set t i) z ∙ set-get_or t i 0
