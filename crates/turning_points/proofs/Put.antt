-- A level put before ends: the numbers alone.
use Rattle.std.proofs.Common.{◌≡◌, ◌≢◌, ℕ, zero, suc, ◌+◌, ◌<◌, ◌≤◌, ◌⊎◌, inl, inr, refl, sym, ap, ◌∙◌, arith}
use Rattle.std.proofs.lemmas.Bool.{cases_eq, cases_lt}
use Rattle.std.proofs.lemmas.Bool.Decides.{nat_tests}
use Rattle.turning_points.specs.Points.{IsBetween, IsTurn, OnSide}
use Rattle.turning_points.specs.EndPoints.{EndPoints, ends_prepend}
use Rattle.turning_points.proofs.Joining.{put_before}

pub data PutCase (x : ℕ) (e : EndPoints) : Type 0 where
  at_none : e.points ≡ 0 → PutCase x e
  at_equal : 1 ≤ e.points → x ≡ e.first → PutCase x e
  at_second : e.points ≡ 1 → x ≢ e.first → PutCase x e
  at_turn : 2 ≤ e.points → IsTurn x e.first e.second → PutCase x e
  at_passed : 2 ≤ e.points → IsBetween x e.first e.second → PutCase x e

pub turn_or : (x a b : ℕ) → x ≢ a → a ≢ b → IsTurn x a b ⊎ IsBetween x a b
turn_or x a b m n = grind arith

case_turn : (x : ℕ) (e : EndPoints) → 2 ≤ e.points → (IsTurn x e.first e.second ⊎ IsBetween x e.first e.second) → PutCase x e
case_turn x e h (inl t) = at_turn h t
case_turn x e h (inr b) = at_passed h b

case_long : (x : ℕ) (e : EndPoints) → x ≢ e.first → (2 ≤ e.points → e.first ≢ e.second) → 1 ≤ e.points →
    ((e.points < 2) ⊎ (2 ≤ e.points)) → PutCase x e
case_long x e n d h (inl s) = let p : e.points ≡ 1 = omega arith in at_second p n
case_long x e n d h (inr s) = case_turn x e s (turn_or x e.first e.second n (d s))

case_some : (x : ℕ) (e : EndPoints) → (2 ≤ e.points → e.first ≢ e.second) → 1 ≤ e.points → ((x ≡ e.first) ⊎ (x ≢ e.first)) → PutCase x e
case_some x e d h (inl q) = at_equal h q
case_some x e d h (inr n) = case_long x e n d h (cases_lt e.points 2)

case_any : (x : ℕ) (e : EndPoints) → (2 ≤ e.points → e.first ≢ e.second) → ((e.points < 1) ⊎ (1 ≤ e.points)) → PutCase x e
case_any x e d (inl h) = let p : e.points ≡ 0 = omega arith in at_none p
case_any x e d (inr h) = case_some x e d h (cases_eq x e.first)

pub put_case : (x : ℕ) (e : EndPoints) → (2 ≤ e.points → e.first ≢ e.second) → PutCase x e
put_case x e d = case_any x e d (cases_lt e.points 1)

pub put_none : (x : ℕ) (e : EndPoints) → e.points ≡ 0 → ends_prepend x e ≡
    record { points = 1; first = x; second = 0; before = 0; last = x }
put_none x e h = grind (arith, nat_tests)

pub put_equal : (x : ℕ) (e : EndPoints) → 1 ≤ e.points → x ≡ e.first → ends_prepend x e ≡ e
put_equal x e h q = grind (arith, nat_tests)

pub put_second : (x : ℕ) (e : EndPoints) → e.points ≡ 1 → x ≢ e.first →
    ends_prepend x e ≡ record { points = 2; first = x; second = e.first; before = x; last = e.first }
put_second x e h q = grind (arith, nat_tests)

pub put_turn : (x : ℕ) (e : EndPoints) → 2 ≤ e.points → IsTurn x e.first e.second →
    ends_prepend x e ≡ record { points = e.points + 1; first = x; second = e.first; before = e.before; last = e.last }
put_turn x e h q = grind (arith, nat_tests)

pub put_two : (x : ℕ) (e : EndPoints) → e.points ≡ 2 → IsBetween x e.first e.second →
    ends_prepend x e ≡ record { points = e.points; first = x; second = e.second; before = x; last = e.last }
put_two x e h q = grind (arith, nat_tests)

pub put_passed : (x : ℕ) (e : EndPoints) → 3 ≤ e.points → IsBetween x e.first e.second →
    ends_prepend x e ≡ record { points = e.points; first = x; second = e.second; before = e.before; last = e.last }
put_passed x e h q = grind (arith, nat_tests)

pub put_same : (x : ℕ) (e : EndPoints) → ends_prepend x e ≡ put_before x e.points e
put_same x e = put_as x e e.points refl
  where
    step : (x n : ℕ) (e : EndPoints) → e.points ≡ suc (suc n) → ends_prepend x e ≡ put_before x (suc (suc n)) e
    step x n e h = grind (arith, nat_tests)

    put_as : (x : ℕ) (e : EndPoints) (n : ℕ) → e.points ≡ n → ends_prepend x e ≡ put_before x n e
    put_as x e zero h = put_none x e h
    put_as x e (suc zero) h = grind (arith, nat_tests)
    put_as x e (suc (suc n)) h = step x n e h

-- the level that was put is the first, and what follows it lies on the side of the one that was first
pub put_first : (x : ℕ) (e : EndPoints) → PutCase x e →
    ((ends_prepend x e).first ≡ x) × (1 ≤ (ends_prepend x e).points) × (e.points ≤ (ends_prepend x e).points)
    × ((ends_prepend x e).points ≤ e.points + 1)
put_first x e (at_none p) =
    let q = ap (λ g. g.points) (put_none x e p) in (ap (λ g. g.first) (put_none x e p), omega arith, omega arith, omega arith)
put_first x e (at_equal p q) =
    let r = ap (λ g. g.points) (put_equal x e p q) in (ap (λ g. g.first) (put_equal x e p q) ∙ sym q, omega arith, omega arith, omega arith)
put_first x e (at_second p q) =
    let r = ap (λ g. g.points) (put_second x e p q) in (ap (λ g. g.first) (put_second x e p q), omega arith, omega arith, omega arith)
put_first x e (at_turn p q) =
    let r = ap (λ g. g.points) (put_turn x e p q) in (ap (λ g. g.first) (put_turn x e p q), omega arith, omega arith, omega arith)
put_first x e (at_passed p q) = passed_first x e p q (cases_lt e.points 3)
  where
    passed_first : (x : ℕ) (e : EndPoints) → 2 ≤ e.points → IsBetween x e.first e.second → ((e.points < 3) ⊎ (3 ≤ e.points)) →
        ((ends_prepend x e).first ≡ x) × (1 ≤ (ends_prepend x e).points) × (e.points ≤ (ends_prepend x e).points)
        × ((ends_prepend x e).points ≤ e.points + 1)
    passed_first x e p q (inl s) = let t : e.points ≡ 2 = omega arith in let r = ap (λ g. g.points) (put_two x e t q) in
        (ap (λ g. g.first) (put_two x e t q), omega arith, omega arith, omega arith)
    passed_first x e p q (inr s) = let r = ap (λ g. g.points) (put_passed x e s q) in
        (ap (λ g. g.first) (put_passed x e s q), omega arith, omega arith, omega arith)

-- a level lies on its own side of another
pub side_self : (a b : ℕ) → a ≢ b → OnSide a b b
side_self a b n = grind arith

same_self : (p x n : ℕ) → p ≢ x → n ≡ x → OnSide p x n
same_self p x n d e = grind arith

same_between : (p x s n : ℕ) → IsBetween p x s → n ≡ s → OnSide p x n
same_between p x s n d e = grind arith

pub put_side : (p : ℕ) (g : EndPoints) → 1 ≤ g.points → p ≢ g.first → PutCase p g → OnSide p g.first (ends_prepend p g).second
    × (2 ≤ (ends_prepend p g).points)
put_side p g h d (at_none q) = absurd (omega arith)
put_side p g h d (at_equal q r) = absurd (d r)
put_side p g h d (at_second q r) = let e = put_second p g q r in let o = ap (λ k. k.points) e in
    (same_self p g.first (ends_prepend p g).second d (ap (λ k. k.second) e), omega arith)
put_side p g h d (at_turn q r) =
    let e = put_turn p g q r in let o = ap (λ k. k.points) e in
    (same_self p g.first (ends_prepend p g).second d (ap (λ k. k.second) e), omega arith)
put_side p g h d (at_passed q r) = side_passed p g q r (cases_lt g.points 3)
  where
    side_passed : (p : ℕ) (g : EndPoints) → 2 ≤ g.points → IsBetween p g.first g.second → ((g.points < 3) ⊎ (3 ≤ g.points)) →
        OnSide p g.first (ends_prepend p g).second × (2 ≤ (ends_prepend p g).points)
    side_passed p g q r (inl s) = let e = put_two p g (omega arith) r in let o = ap (λ k. k.points) e in
        (same_between p g.first g.second (ends_prepend p g).second r (ap (λ k. k.second) e), omega arith)
    side_passed p g q r (inr s) = let e = put_passed p g s r in let o = ap (λ k. k.points) e in
        (same_between p g.first g.second (ends_prepend p g).second r (ap (λ k. k.second) e), omega arith)
