-- The first residue rule: the test finds what the rule says.
use Rattle.std.proofs.Common.{◌≡◌, ◌≢◌, ◌⊎◌, ℕ, ◌<◌, Bool, true, false, List, [], ◌∷◌, nat_lt, refl, sym, arith}
use Rattle.std.specs.Prelude.{All, ◌&&◌, ◌||◌, ◌==◌, ◌↔◌, not, IsTrue}
use Rattle.std.specs.List.{list_all}
use Rattle.std.proofs.lemmas.Bool.Decides.{nat_tests}
use Rattle.std.proofs.lemmas.List.Elements.{All-nil, All-cons, All-head, All-tail}
use Rattle.std.proofs.lemmas.Bool.{and_parts, and_from, ltb-true, lt-ltb}
use Rattle.turning_points.specs.Points.{is_turn}
use Rattle.turning_points.specs.Pairs.{range}
use Rattle.turning_points.proofs.Zigzag.{IsZigzag, none, one, two, inner, turn_test, turn_of_test}
use Rattle.turning_points.proofs.Over.{own, zig_own}
use Rattle.four_point.specs.Residue.{IsResidue}
use Rattle.four_point.proofs.HasNoCycle.{HasNoCycle, no_points, one_point, two_points, three_points, inner_stay, HasNoCycle-from_irreducible, IsIrreducible-from_no_cycle}
use Rattle.segment.specs.segment_rules.Tests.{is_own, has_no_cycle, is_residue}

levels_below : (k : ℕ) (xs : List ℕ) → list_all (λ x. nat_lt x k) xs ≡ true → All (λ x. x < k) xs
levels_below k [] e = All-nil (λ x. x < k)
levels_below k (x ∷ xs) e =
    let t = and_parts (nat_lt x k) (list_all (λ x. nat_lt x k) xs) e in
    All-cons (λ x. x < k) x xs (ltb-true x k t.0) (levels_below k xs t.1)

below_true : (k : ℕ) (xs : List ℕ) → All (λ x. x < k) xs → list_all (λ x. nat_lt x k) xs ≡ true
below_true k [] a = refl
below_true k (x ∷ xs) a =
    and_from (nat_lt x k) (list_all (λ x. nat_lt x k) xs) (lt-ltb x k (All-head (λ x. x < k) x xs a))
    (below_true k xs (All-tail (λ x. x < k) x xs a))

differ_of : (x y : ℕ) → not (x == y) ≡ true → x ≢ y
differ_of x y e = grind (arith, nat_tests)

differ_true : (x y : ℕ) → x ≢ y → not (x == y) ≡ true
differ_true x y n = grind (arith, nat_tests)

zigzag_of : (l : List ℕ) → is_own l ≡ true → IsZigzag l
zigzag_of [] e = none
zigzag_of (x ∷ []) e = one
zigzag_of (x ∷ y ∷ []) e = two (differ_of x y e)
zigzag_of (x ∷ y ∷ z ∷ l) e =
    let t = and_parts (is_turn x y z) (is_own (y ∷ z ∷ l)) e in
    inner (turn_of_test x y z t.0) (zigzag_of (y ∷ z ∷ l) t.1)

own_true : (l : List ℕ) → IsZigzag l → is_own l ≡ true
own_true [] g = refl
own_true (x ∷ []) g = refl
own_true (x ∷ y ∷ []) (two n) = differ_true x y n
own_true (x ∷ y ∷ z ∷ l) (inner t g) = and_from (is_turn x y z) (is_own (y ∷ z ∷ l)) (turn_test x y z t) (own_true (y ∷ z ∷ l) g)

either_less : (p q r : ℕ) → (nat_lt p q || nat_lt r q) ≡ true → (p < q) ⊎ (r < q)
either_less p q r e = grind (arith, nat_tests)

either_true : (p q r : ℕ) → (p < q) ⊎ (r < q) → (nat_lt p q || nat_lt r q) ≡ true
either_true p q r e = grind (arith, nat_tests)

no_cycle_of : (l : List ℕ) → has_no_cycle l ≡ true → HasNoCycle l
no_cycle_of [] e = no_points
no_cycle_of (a ∷ []) e = one_point
no_cycle_of (a ∷ b ∷ []) e = two_points
no_cycle_of (a ∷ b ∷ c ∷ []) e = three_points
no_cycle_of (a ∷ b ∷ c ∷ d ∷ l) e =
    let t = and_parts (nat_lt (range a b) (range b c) || nat_lt (range c d) (range b c)) (has_no_cycle (b ∷ c ∷ d ∷ l)) e in
    inner_stay (either_less (range a b) (range b c) (range c d) t.0) (no_cycle_of (b ∷ c ∷ d ∷ l) t.1)

no_cycle_true : (l : List ℕ) → HasNoCycle l → has_no_cycle l ≡ true
no_cycle_true [] k = refl
no_cycle_true (a ∷ []) k = refl
no_cycle_true (a ∷ b ∷ []) k = refl
no_cycle_true (a ∷ b ∷ c ∷ []) k = refl
no_cycle_true (a ∷ b ∷ c ∷ d ∷ l) (inner_stay u k) =
    and_from (nat_lt (range a b) (range b c) || nat_lt (range c d) (range b c)) (has_no_cycle (b ∷ c ∷ d ∷ l))
    (either_true (range a b) (range b c) (range c d) u)
    (no_cycle_true (b ∷ c ∷ d ∷ l) k)

pub residue_of : (k : ℕ) (r : List ℕ) → is_residue k r ≡ true → IsResidue k r
residue_of k r e =
    let a = and_parts (list_all (λ x. nat_lt x k) r) (is_own r && has_no_cycle r) e in
    let b = and_parts (is_own r) (has_no_cycle r) a.1 in
    record { within = levels_below k r a.0; own = own (zigzag_of r b.0); irreducible = IsIrreducible-from_no_cycle r (no_cycle_of r b.1) }

pub residue_true : (k : ℕ) (r : List ℕ) → IsResidue k r → is_residue k r ≡ true
residue_true k r i =
    and_from (list_all (λ x. nat_lt x k) r) (is_own r && has_no_cycle r) (below_true k r i.within)
    (and_from (is_own r) (has_no_cycle r) (own_true r (zig_own r i.own)) (no_cycle_true r (HasNoCycle-from_irreducible r i.irreducible)))

-- a test that tells whether a list is a residue is this one
pub residue_test : (b : Bool) (k : ℕ) (r : List ℕ) → IsTrue b ↔ IsResidue k r → b ≡ is_residue k r
residue_test b k r t = same b (is_residue k r) (λ e. residue_true k r (t.0 e)) (λ e. t.1 (residue_of k r e))
  where
    same : (b c : Bool) → (b ≡ true → c ≡ true) → (c ≡ true → b ≡ true) → b ≡ c
    same true c f g = sym (f refl)
    same false true f g = g refl
    same false false f g = refl
