-- The points where two histories meet.
use Rattle.std.proofs.Common.{◌≡◌, zero, Bool, true, false, ◌==◌, if◌then◌else◌, ◌≢◌, ℕ, suc, ◌+◌, List, [], ◌∷◌, ◌++◌, length, get_or, length-append, refl, sym, ap, ◌∙◌, subst, arith}
use Rattle.std.proofs.lemmas.Bool.Decides.{nat_tests}
use Rattle.turning_points.specs.Points.{is_turn, points, IsBetween, IsTurn, OnSide}
use Rattle.turning_points.specs.EndPoints.{EndPoints, ends_of, last_point, last_but_one}
use Rattle.turning_points.proofs.Zigzag.{add, Added, first, equal, second, turn, between, is_added, IsZigzag, one, two, inner, zig_points, zig_added, ends_differ}
use Rattle.turning_points.proofs.Over.{over, over_points, over_append, over_own, zig_over, over_of_points}
use Rattle.turning_points.proofs.Push.{end_differs}

-- where v stands before y and z
pub data Side (v y z : ℕ) : Type 0 where
  at : v ≡ y → Side v y z
  away : IsTurn v y z → Side v y z
  before : IsBetween v y z → Side v y z

pub side_of : (v y z : ℕ) → y ≢ z → (e t : Bool) → v == y ≡ e → is_turn v y z ≡ t → Side v y z
side_of v y z n true t p q = at (grind (arith, nat_tests))
side_of v y z n false true p q = away (grind (arith, nat_tests))
side_of v y z n false false p q = before (grind (arith, nat_tests))

pub add_away : (v y z : ℕ) (l : List ℕ) → IsTurn v y z → add v (y ∷ z ∷ l) ≡ v ∷ y ∷ z ∷ l
add_away v y z l t = grind (arith, nat_tests)

pub add_before : (v y z : ℕ) (l : List ℕ) → IsBetween v y z → add v (y ∷ z ∷ l) ≡ v ∷ z ∷ l
add_before v y z l t = grind (arith, nat_tests)

pub add_two : (x y : ℕ) → x ≢ y → add x (y ∷ []) ≡ x ∷ y ∷ []
add_two x y n = grind (arith, nat_tests)

-- a list after a level was put before it begins with that level
pub head_is : {d : ℕ} {l m : List ℕ} → Added d l m → (t : List ℕ) × (m ≡ d ∷ t)
head_is first = ([], refl)
head_is (equal {l = l} e) = (l, ap (λ k. k ∷ l) (sym e))
head_is (second {y = y} n) = (y ∷ [], refl)
head_is (turn {y = y} {z = z} {l = l} t) = (y ∷ z ∷ l, refl)
head_is (between {z = z} {l = l} b) = (z ∷ l, refl)

-- the ends after the level x was put before a list of n points
abbrev pub put_before : ℕ → ℕ → EndPoints → EndPoints
put_before x zero e = record { points = 1; first = x; second = 0; before = 0; last = x }
put_before x (suc zero) e = if x == e.first then e else record { points = 2; first = x; second = e.first; before = x; last = e.first }
put_before x (suc (suc n)) e = if x == e.first then e else if is_turn x e.first e.second then record e
    { points = suc e.points; first = x; second = e.first } else record e
    { first = x; second = e.second; before = if n == 0 then x else e.before }

-- where two histories meet, the last two points of the first are put before those of the second
abbrev pub meet : ℕ → EndPoints → EndPoints → EndPoints
meet zero e f = f
meet (suc zero) e f = put_before e.last f.points f
meet (suc (suc zero)) e f = let g = put_before e.last f.points f in put_before e.before g.points g
meet (suc (suc (suc n))) e f =
    let g = put_before e.last f.points f in
    let h = put_before e.before g.points g in
    record h { points = suc n + h.points; first = e.first; second = e.second }

-- p and x put before s: p, and then a level on the side of x
pub record Met (p x : ℕ) (s : List ℕ) : Type 0 where
  pub n : ℕ
  pub t : List ℕ
  pub is : add p (add x s) ≡ p ∷ n ∷ t
  pub side : OnSide p x n

met_side : (p x z : ℕ) (t : List ℕ) → p ≢ x → x ≢ z → Side p x z → (n : ℕ) × (r : List ℕ) × (add p (x ∷ z ∷ t) ≡ p ∷ n ∷ r) × OnSide p x n
met_side p x z t d e (at h) = absurd (d h)
met_side p x z t d e (away h) = (x, z ∷ t, add_away p x z t h, grind arith)
met_side p x z t d e (before h) = (z, t, add_before p x z t h, grind arith)

met_at : (p x : ℕ) (t : List ℕ) → p ≢ x → IsZigzag (x ∷ t) → (n : ℕ) × (r : List ℕ) × (add p (x ∷ t) ≡ p ∷ n ∷ r) × OnSide p x n
met_at p x t d one = (x, [], add_two p x d, grind arith)
met_at p x t d (two {y = z} n) = met_side p x z [] d n (side_of p x z n _ _ refl refl)
met_at p x t d (inner {y = z} {z = w} {l = l} u g) =
    let n = ends_differ (inner u g) in met_side p x z (w ∷ l) d n (side_of p x z n _ _ refl refl)

pub met : (p x : ℕ) (s : List ℕ) → p ≢ x → IsZigzag s → Met p x s
met p x s d g =
    let a = is_added x s g in
    let h = head_is a in
    let m = met_at p x h.0 d (subst IsZigzag h.1 (zig_added a g)) in
    record { n = m.0; t = m.1; is = ap (add p) h.1 ∙ m.2; side = m.3 }

pub turn_same : {a p x n : ℕ} → IsTurn a p x → OnSide p x n → IsTurn a p n
turn_same t s = grind arith

-- the last point may be put for others on its side
zig_put : (f : List ℕ) (p x n : ℕ) (t : List ℕ) → IsZigzag (f ++ (p ∷ x ∷ [])) → OnSide p x n → IsZigzag (p ∷ n ∷ t) →
    IsZigzag (f ++ (p ∷ n ∷ t))
zig_put [] p x n t g s z = z
zig_put (a ∷ []) p x n t (inner u g) s z = inner (turn_same u s) z
zig_put (a ∷ b ∷ []) p x n t (inner u g) s z = inner u (zig_put (b ∷ []) p x n t g s z)
zig_put (a ∷ b ∷ c ∷ f) p x n t (inner u g) s z = inner u (zig_put (b ∷ c ∷ f) p x n t g s z)

-- a list of points before another: all but its last two stay, and those two are put before the other one by one
pub met_points : (f : List ℕ) (p x : ℕ) (s : List ℕ) → IsZigzag (f ++ (p ∷ x ∷ [])) → IsZigzag s →
    over (f ++ (p ∷ x ∷ [])) s ≡ f ++ add p (add x s)
met_points f p x s g z =
    let m = met p x s (end_differs f p x g) z in
    let w = subst IsZigzag m.is (zig_over (p ∷ x ∷ []) s z) in
    let o = over_own f (p ∷ m.n ∷ m.t) (zig_put f p x m.n m.t g m.side w) in
    over_append f (p ∷ x ∷ []) s ∙ ap (over f) m.is ∙ o ∙ ap (λ l. f ++ l) (sym m.is)

-- the ends of a list before which a level was put
put_three : (x y z w : ℕ) (l : List ℕ) → y ≢ z →
    ends_of (add x (y ∷ z ∷ w ∷ l)) ≡ put_before x (suc (suc (suc (length l)))) (ends_of (y ∷ z ∷ w ∷ l))
put_three x y z w l n = grind (arith, nat_tests)

put_two : (x y z : ℕ) → y ≢ z → ends_of (add x (y ∷ z ∷ [])) ≡ put_before x 2 (ends_of (y ∷ z ∷ []))
put_two x y z n = grind (arith, nat_tests)

put_one : (x y : ℕ) → ends_of (add x (y ∷ [])) ≡ put_before x 1 (ends_of (y ∷ []))
put_one x y = grind (arith, nat_tests)

pub put_is : (x : ℕ) (l : List ℕ) → IsZigzag l → ends_of (add x l) ≡ put_before x (length l) (ends_of l)
put_is x [] g = refl
put_is x (y ∷ []) g = put_one x y
put_is x (y ∷ z ∷ []) g = put_two x y z (ends_differ g)
put_is x (y ∷ z ∷ w ∷ l) g = put_three x y z w l (ends_differ g)

-- a list of at least two points, by its last two
pub record Tail (l : List ℕ) : Type 0 where
  pub f : List ℕ
  pub p : ℕ
  pub x : ℕ
  pub is : l ≡ f ++ (p ∷ x ∷ [])

pub tail : (a b : ℕ) (l : List ℕ) → Tail (a ∷ b ∷ l)
tail a b [] = record { f = []; p = a; x = b; is = refl }
tail a b (c ∷ l) = let t = tail b c l in record { f = a ∷ t.f; p = t.p; x = t.x; is = ap (λ k. a ∷ k) t.is }

pub last_behind : (f : List ℕ) (p n : ℕ) (t : List ℕ) → last_point (f ++ (p ∷ n ∷ t)) ≡ last_point (p ∷ n ∷ t)
last_behind [] p n t = refl
last_behind (a ∷ []) p n t = refl
last_behind (a ∷ b ∷ f) p n t = last_behind (b ∷ f) p n t

pub before_behind : (f : List ℕ) (p n : ℕ) (t : List ℕ) → last_but_one (f ++ (p ∷ n ∷ t)) ≡ last_but_one (p ∷ n ∷ t)
before_behind [] p n t = refl
before_behind (a ∷ []) p n t = refl
before_behind (a ∷ b ∷ []) p n t = refl
before_behind (a ∷ b ∷ c ∷ f) p n t = before_behind (b ∷ c ∷ f) p n t

second_behind : (a : ℕ) (f : List ℕ) (p n : ℕ) (t r : List ℕ) → get_or (a ∷ (f ++ (p ∷ n ∷ t))) 1 0 ≡ get_or (a ∷ (f ++ (p ∷ r))) 1 0
second_behind a [] p n t r = refl
second_behind a (b ∷ f) p n t r = refl

pub length_of : (x : ℕ) (s : List ℕ) → IsZigzag s → length (add x s) ≡ (put_before x (length s) (ends_of s)).points
length_of x s g = ap (λ e. e.points) (put_is x s g)

pub put_twice : (p x : ℕ) (s : List ℕ) → IsZigzag s →
    ends_of (add p (add x s)) ≡ put_before p (put_before x (length s) (ends_of s)).points (put_before x (length s) (ends_of s))
put_twice p x s g =
    let z = zig_added (is_added x s g) g in
    put_is p (add x s) z ∙ ap (λ e. put_before p e.points e) (put_is x s g)

abbrev pub ends : ℕ → ℕ → ℕ → ℕ → ℕ → EndPoints
ends a b c d e = record { points = a; first = b; second = c; before = d; last = e }

ends_equal : (a b c d e a' b' c' d' e' : ℕ) → a ≡ a' → b ≡ b' → c ≡ c' → d ≡ d' → e ≡ e' → ends a b c d e ≡ ends a' b' c' d' e'
ends_equal a b c d e a' b' c' d' e' p q r s t = cc

-- more than two points: the first two stay
long_ends : (a : ℕ) (f : List ℕ) (p x n : ℕ) (t : List ℕ) (h : EndPoints) → ends_of (p ∷ n ∷ t) ≡ h →
    ends_of (a ∷ (f ++ (p ∷ n ∷ t))) ≡ ends (suc (length f) + h.points) a (get_or (a ∷ (f ++ (p ∷ x ∷ []))) 1 0) h.before h.last
long_ends a f p x n t h k =
    let l = length-append f (p ∷ n ∷ t) in
    let q : suc (length (f ++ (p ∷ n ∷ t))) ≡ suc (length f) + h.points = omega (arith, ap (λ e. e.points) k, l) in
    ends_equal _ _ _ _ _ _ _ _ _ _ q refl (second_behind a f p n t (x ∷ [])) (before_behind (a ∷ f) p n t ∙ ap (λ e. e.before) k)
    (last_behind (a ∷ f) p n t ∙ ap (λ e. e.last) k)

long_meet : (a : ℕ) (f : List ℕ) (p x : ℕ) (e : EndPoints) (b c : ℕ) → p ≡ b → x ≡ c → (n : ℕ) → suc n ≡ suc (suc (suc (length f))) →
    ends (suc (length f) + (put_before p (put_before x e.points e).points (put_before x e.points e)).points) a
    (get_or (a ∷ (f ++ (p ∷ x ∷ []))) 1 0) (put_before p (put_before x e.points e).points (put_before x e.points e)).before
    (put_before p (put_before x e.points e).points (put_before x e.points e)).last ≡ meet (suc n)
    (ends (suc n) a (get_or (a ∷ (f ++ (p ∷ x ∷ []))) 1 0) b c) e
long_meet a f p x e b c q r n o =
    let k : n ≡ suc (suc (length f)) = omega arith in
    rw (sym q, sym r, k)

long : (a : ℕ) (f : List ℕ) (p x : ℕ) (s : List ℕ) → IsZigzag (a ∷ (f ++ (p ∷ x ∷ []))) → IsZigzag s →
    ends_of (over (a ∷ (f ++ (p ∷ x ∷ []))) s) ≡ meet (length (a ∷ (f ++ (p ∷ x ∷ [])))) (ends_of (a ∷ (f ++ (p ∷ x ∷ [])))) (ends_of s)
long a f p x s g z =
    let m = met p x s (end_differs (a ∷ f) p x g) z in
    let e = met_points (a ∷ f) p x s g z ∙ ap (λ l. a ∷ (f ++ l)) m.is in
    let h = put_twice p x s z in
    let k = long_ends a f p x m.n m.t _ (sym (ap ends_of m.is) ∙ h) in
    let o : length (a ∷ (f ++ (p ∷ x ∷ []))) ≡ suc (suc (suc (length f))) = omega (arith, length-append f (p ∷ x ∷ [])) in
    let b = before_behind (a ∷ f) p x [] in
    let c = last_behind (a ∷ f) p x [] in
    ap ends_of e ∙ k ∙ long_meet a f p x (ends_of s) _ _ (sym b) (sym c) (length (f ++ (p ∷ x ∷ []))) o

by_list : (l s : List ℕ) → IsZigzag l → IsZigzag s → ends_of (over l s) ≡ meet (length l) (ends_of l) (ends_of s)
by_list [] s g z = refl
by_list (x ∷ []) s g z = put_is x s z
by_list (p ∷ x ∷ []) s g z = put_twice p x s z
by_list (a ∷ b ∷ c ∷ l) s g z =
    let t = tail b c l in
    let e : a ∷ b ∷ c ∷ l ≡ a ∷ (t.f ++ (t.p ∷ t.x ∷ [])) = ap (λ k. a ∷ k) t.is in
    subst (λ k. ends_of (over k s) ≡ meet (length k) (ends_of k) (ends_of s)) (sym e) (long a t.f t.p t.x s (subst IsZigzag e g) z)

pub ends_meet : (u v : List ℕ) → ends_of (points (u ++ v)) ≡ meet (length (points u)) (ends_of (points u)) (ends_of (points v))
ends_meet u v =
    let e = over_points u v ∙ sym (over_of_points u (points v) (zig_points v)) in
    ap ends_of e ∙ by_list (points u) (points v) (zig_points u) (zig_points v)
