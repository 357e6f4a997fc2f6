-- Where neighbours differ, a level turns exactly where the direction changes.
--   changes_again     changes have no level that equals the one before it
--   first_differs     so the first of them differs from the one before, and the rest are changes too
--   turns_by          the turns by directions: whether the history rises to x, which stands before the levels
--   turns_by_changes  they are the turns
use Rattle.std.proofs.Common.{◌≡◌, ◌≢◌, ℕ, ◌≤◌, Bool, true, false, cond, ltb, not, ◌==◌, List, [], ◌∷◌, length, drop, refl, sym, ap, ◌∙◌, arith}
use Rattle.std.proofs.lemmas.Bool.Decides.{nat_tests}
use Rattle.turning_points.specs.Points.{changes, is_turn}
use Rattle.turning_points.specs.Pieces.{rises_at, turns_in}

changes_by : (x y : ℕ) (h : List ℕ) (b : Bool) → (x == y) ≡ b → changes x (changes x h) ≡ changes x h →
    changes y (changes y h) ≡ changes y h → changes x (changes x (y ∷ h)) ≡ changes x (y ∷ h)
changes_by x y h true e f g =
    let a : changes x (y ∷ h) ≡ changes x h = ap (λ b. cond b (changes x h) (y ∷ changes y h)) e in
    ap (changes x) a ∙ f ∙ sym a
changes_by x y h false e f g =
    let a : changes x (y ∷ h) ≡ y ∷ changes y h = ap (λ b. cond b (changes x h) (y ∷ changes y h)) e in
    ap (changes x) a ∙ ap (λ b. cond b (changes x (changes y h)) (y ∷ changes y (changes y h))) e ∙ ap (λ l. y ∷ l) g ∙ sym a

pub changes_again : (x : ℕ) (h : List ℕ) → changes x (changes x h) ≡ changes x h
changes_again x [] = refl
changes_again x (y ∷ h) = changes_by x y h (x == y) refl (changes_again x h) (changes_again y h)

length-by : (x y : ℕ) (h : List ℕ) (b : Bool) → length (changes x h) ≤ length h → length (changes y h) ≤ length h →
    length (cond b (changes x h) (y ∷ changes y h)) ≤ length (y ∷ h)
length-by x y h true f g = omega (arith, f)
length-by x y h false f g = omega (arith, g)

length-changes : (x : ℕ) (h : List ℕ) → length (changes x h) ≤ length h
length-changes x [] = omega arith
length-changes x (y ∷ h) = length-by x y h (x == y) (length-changes x h) (length-changes y h)

-- the first of levels that are their own changes differs from the one before
first_by : (x y : ℕ) (h : List ℕ) (b : Bool) → (x == y) ≡ b → changes x (y ∷ h) ≡ y ∷ h → (x ≢ y) × (changes y h ≡ h)
first_by x y h true e f =
    let a : changes x h ≡ y ∷ h = sym (ap (λ b. cond b (changes x h) (y ∷ changes y h)) e) ∙ f in
    absurd (omega (arith, ap length a, length-changes x h))
first_by x y h false e f =
    let a : y ∷ changes y h ≡ y ∷ h = sym (ap (λ b. cond b (changes x h) (y ∷ changes y h)) e) ∙ f in
    (grind (arith, nat_tests), ap (drop 1) a)

pub first_differs : (x y : ℕ) (h : List ℕ) → changes x (y ∷ h) ≡ y ∷ h → (x ≢ y) × (changes y h ≡ h)
first_differs x y h f = first_by x y h (x == y) refl f

abbrev pub differ : Bool → Bool → Bool
differ a b = cond a (not b) b

abbrev pub turns_by : Bool → ℕ → List ℕ → List ℕ
turns_by rises x [] = []
turns_by rises x (z ∷ l) = cond (differ (ltb x z) rises) (x ∷ turns_by (ltb x z) z l) (turns_by (ltb x z) z l)

turn_is : (b x z : ℕ) → b ≢ x → x ≢ z → is_turn b x z ≡ differ (ltb x z) (ltb b x)
turn_is b x z m n = grind (arith, nat_tests)

turns_differ : (b x : ℕ) (l : List ℕ) → b ≢ x → changes x l ≡ l → turns_in b x l ≡ turns_by (ltb b x) x l
turns_differ b x [] n f = refl
turns_differ b x (z ∷ l) n f =
    let d = first_differs x z l f in
    ap (λ t. cond t (x ∷ turns_in x z l) (turns_in x z l)) (turn_is b x z n d.0)
    ∙ ap (λ m. cond (differ (ltb x z) (ltb b x)) (x ∷ m) m) (turns_differ x z l d.0 d.1)

pub no_turn : (b x z : ℕ) → b ≡ x → is_turn b x z ≡ false
no_turn b x z e = grind (arith, nat_tests)

as_it_leaves : (c : Bool) → differ c c ≡ false
as_it_leaves true = refl
as_it_leaves false = refl

turns_from : (b x : ℕ) (l : List ℕ) (q : Bool) → (b == x) ≡ q → changes x l ≡ l → turns_in b x l ≡ turns_by (rises_at b x l) x l
turns_from b x [] q e f = refl
turns_from b x (z ∷ l) true e f =
    let d = first_differs x z l f in
    let g : b ≡ x = grind (arith, nat_tests) in
    let r : rises_at b x (z ∷ l) ≡ ltb x z = ap (λ q. cond q (ltb x z) (ltb b x)) e in
    ap (λ t. cond t (x ∷ turns_in x z l) (turns_in x z l)) (no_turn b x z g) ∙ turns_differ x z l d.0 d.1
    ∙ sym (ap (λ r. turns_by r x (z ∷ l)) r
    ∙ ap (λ t. cond t (x ∷ turns_by (ltb x z) z l) (turns_by (ltb x z) z l)) (as_it_leaves (ltb x z)))
turns_from b x (z ∷ l) false e f =
    let g : b ≢ x = grind (arith, nat_tests) in
    let r : rises_at b x (z ∷ l) ≡ ltb b x = ap (λ q. cond q (ltb x z) (ltb b x)) e in
    turns_differ b x (z ∷ l) g f ∙ sym (ap (λ r. turns_by r x (z ∷ l)) r)

pub turns_by_changes : (b x : ℕ) (l : List ℕ) → changes x l ≡ l → turns_in b x l ≡ turns_by (rises_at b x l) x l
turns_by_changes b x l f = turns_from b x l (b == x) refl f
