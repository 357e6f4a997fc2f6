-- The tables of a list of points, point by point: each is a push.
use Rattle.std.proofs.Common.{◌≡◌, ℕ, zero, suc, ◌+◌, ◌-◌, ◌<◌, ◌≤◌, Bool, true, false, cond, leb, ◌&&◌, List, [], ◌∷◌, ◌++◌, length, take, get_or, get_or-take, replicate, refl, sym, ap, ◌∙◌, subst, arith}
use Rattle.std.specs.Prelude.{All}
use Rattle.std.proofs.lemmas.Bool.{le-leb}
use Rattle.std.proofs.lemmas.Grind.{same_number_lists}
use Rattle.std.proofs.lemmas.List.{take_all, take_more, length-take-le, length-replicate}
use Rattle.std.proofs.lemmas.List.Elements.{All-head, All-tail}
use Rattle.turning_points.specs.Points.{is_turn, points, IsTurn}
use Rattle.turning_points.specs.Pairs.{range}
use Rattle.turning_points.specs.EndPoints.{EndPoints, last_but_one, ends_of, last_point}
use Rattle.turning_points.proofs.Zigzag.{IsZigzag, none, one, two, inner, ends_differ, turn_at, turn_test}
use Rattle.turning_points.proofs.Over.{own}
use Rattle.turning_points.proofs.PushEnds.{list_ends}
use Rattle.turning_points.proofs.EndPlaces.{last_place, before_place}
use Rattle.tally.specs.tables.Tables.{raise}
use Rattle.simple_counts.specs.Simple.{AreExtremes, HasRanges, SimpleValue, CountsHistory, OfFront, IsSimple, decided_at, push_of, value_of}
use Rattle.simple_counts.specs.level_crossing.Extremes.{extremes_at, is_extreme}
use Rattle.simple_counts.proofs.on_level_crossing.Extremes.{none_of_two}
use Rattle.simple_counts.proofs.Pushed.{pushed_counted, pushed_counts}
use Rattle.simple_counts.proofs.Stage.{value_same}
use Rattle.turning_points.specs.declared.ends.TheConstants.{MAX_POINTS}
use Rattle.lemmas.proofs.Lists.{get_or-zeros}
use Rattle.lemmas.proofs.Sums.{get_or-le-sum, sum-zeros}
use Rattle.calibration.specs.declared.grid.TheConstants.{MIN_CLASSES, MAX_CLASSES}

-- a part of a list of points is one
pub zig_take : (n : ℕ) {l : List ℕ} → IsZigzag l → IsZigzag (take n l)
zig_take zero g = none
zig_take (suc n) none = none
zig_take (suc zero) one = one
zig_take (suc (suc n)) one = one
zig_take (suc zero) (two d) = one
zig_take (suc (suc zero)) (two d) = two d
zig_take (suc (suc (suc n))) (two d) = two d
zig_take (suc zero) (inner t g) = one
zig_take (suc (suc zero)) (inner t g) = two (ends_differ (inner t g))
zig_take (suc (suc (suc n))) (inner t g) = inner t (zig_take (suc (suc n)) g)

pub turn_here : (p : List ℕ) (i : ℕ) → IsZigzag p → 2 ≤ i → i < length p → IsTurn (get_or p (i - 2) 0) (get_or p (i - 1) 0) (get_or p i 0)
turn_here p i z o h =
    let t = turn_at p (i - 2) z (omega arith) in
    let a : suc (i - 2) ≡ i - 1 = omega arith in
    let b : suc (suc (i - 2)) ≡ i = omega arith in
    subst (λ k. IsTurn (get_or p (i - 2) 0) (get_or p (i - 1) 0) (get_or p k 0)) b
    (subst (λ k. IsTurn (get_or p (i - 2) 0) (get_or p k 0) (get_or p (suc (suc (i - 2))) 0)) a t)

yes_and : {A : Type 0} (a b : Bool) (x y : A) → a ≡ true → cond (a && b) x y ≡ cond b x y
yes_and true b x y e = refl
yes_and false b x y e = absurd (grind arith)

yes_both : {A : Type 0} (a b : Bool) (x y : A) → a ≡ true → b ≡ true → cond (a && b) x y ≡ x
yes_both true true x y e f = refl
yes_both true false x y e f = absurd (grind arith)
yes_both false b x y e f = absurd (grind arith)

pub level_below : (k : ℕ) (p : List ℕ) (i : ℕ) → All (λ x. x < k) p → i < length p → get_or p i 0 < k
level_below k [] i a h = absurd (omega arith)
level_below k (x ∷ p) zero a h = All-head (λ y. y < k) x p a
level_below k (x ∷ p) (suc i) a h = level_below k p i (All-tail (λ y. y < k) x p a) (omega arith)

module _ (k r : ℕ) (l d m d' m' : List ℕ) (i : ℕ) (z : IsZigzag l) (a : All (λ x. x < k) l) (f : length l ≤ MAX_POINTS) (o : 2 ≤ i)
    (h : i < length l) (g : OfFront k r l i d m) where
  length_i : length (take i l) ≡ i
  length_i = length-take-le i l (omega arith)

  is_before : last_but_one (take i l) ≡ get_or l (i - 2) 0
  is_before = sym (before_place (take i l) (i - 2) (omega (arith, length_i))) ∙ get_or-take i l (i - 2) 0 (omega arith)

  is_last : last_point (take i l) ≡ get_or l (i - 1) 0
  is_last = sym (last_place (take i l) (i - 1) (omega (arith, length_i))) ∙ get_or-take i l (i - 1) 0 (omega arith)

  abbrev v : SimpleValue
  v = value_of k r (take i l) d m

  abbrev x : ℕ
  x = get_or l i 0

  level : x < k
  level = level_below k l i a h

  turning : is_turn (last_but_one (take i l)) (last_point (take i l)) x ≡ true
  turning = ap (λ p. is_turn p (last_point (take i l)) x) is_before ∙ ap (λ p. is_turn (get_or l (i - 2) 0) p x) is_last ∙ turn_test _ _ _
      (turn_here l i z o h)

  many : leb 2 (length (take i l)) ≡ true
  many = le-leb 2 _ (omega (arith, length_i))

  more : take (i + 1) l ≡ take i l ++ (x ∷ [])
  more = take_more l i 0 h

  pushed : CountsHistory (push_of x v) (take i l ++ (x ∷ []))
  pushed = pushed_counts v x g.rules level (take i l) g.counts

  is_own : points (take i l ++ (x ∷ [])) ≡ take (i + 1) l
  is_own = subst (λ q. points q ≡ take (i + 1) l) more (own (zig_take (i + 1) z))

  is_value : d' ≡ raise d (range (get_or l (i - 2) 0) (get_or l (i - 1) 0)) →
      m' ≡ cond (is_extreme r (get_or l (i - 2) 0) (get_or l (i - 1) 0) x) (raise m (get_or l (i - 1) 0)) m →
      push_of x v ≡ value_of k r (take (i + 1) l) d' m'
  is_value p q = value_same k r _ _ _ _ _ _ (pushed.ends ∙ ap ends_of is_own)
      (yes_both _ _ _ _ many turning ∙ ap (λ n. raise d (range n (last_point (take i l)))) is_before
      ∙ ap (λ n. raise d (range (get_or l (i - 2) 0) n)) is_last ∙ sym p)
      (yes_and _ _ _ _ many ∙ ap (λ n. cond (is_extreme r n (last_point (take i l)) x) (raise m (last_point (take i l))) m) is_before
      ∙ ap (λ n. cond (is_extreme r (get_or l (i - 2) 0) n x) (raise m n) m) is_last ∙ sym q)

  pub fills_more : d' ≡ raise d (range (get_or l (i - 2) 0) (get_or l (i - 1) 0)) →
      m' ≡ cond (is_extreme r (get_or l (i - 2) 0) (get_or l (i - 1) 0) (get_or l i 0)) (raise m (get_or l (i - 1) 0)) m →
      OfFront k r l (i + 1) d' m'
  fills_more p q =
      let e = is_value p q in
      record {
        rules = subst IsSimple e (pushed_counted v x g.rules level (omega (arith, length_i)));
        counts = subst (λ w. CountsHistory w (take (i + 1) l)) e (subst (CountsHistory (push_of x v)) (sym more) pushed);
      }

none_decided : (k : ℕ) (l : List ℕ) → decided_at k (take 2 l) ≡ 0
none_decided k [] = refl
none_decided k (x ∷ []) = refl
none_decided k (x ∷ y ∷ l) = refl

short : (l : List ℕ) → length (take 2 l) ≤ 2
short [] = omega arith
short (x ∷ []) = omega arith
short (x ∷ y ∷ l) = omega arith

below_two : (k : ℕ) (l : List ℕ) → All (λ x. x < k) l → (i : ℕ) → i < length (take 2 l) → get_or (take 2 l) i 0 < k
below_two k [] a i h = absurd (omega arith)
below_two k (x ∷ []) a zero h = All-head (λ y. y < k) x [] a
below_two k (x ∷ []) a (suc i) h = absurd (omega arith)
below_two k (x ∷ y ∷ l) a zero h = All-head (λ z. z < k) x (y ∷ l) a
below_two k (x ∷ y ∷ l) a (suc zero) h = All-head (λ z. z < k) y l (All-tail (λ z. z < k) x (y ∷ l) a)
below_two k (x ∷ y ∷ l) a (suc (suc i)) h = absurd (omega arith)

-- two points have no inner one
pub fills_none : (k r : ℕ) (l d m : List ℕ) → IsZigzag l → All (λ x. x < k) l → (MIN_CLASSES ≤ k) × (k ≤ MAX_CLASSES) →
    (1 ≤ r) × (r < k) → length d ≡ k →
    length m ≡ k → ((j : ℕ) → get_or d j 0 ≡ 0) → ((j : ℕ) → get_or m j 0 ≡ 0) → OfFront k r l 2 d m
fills_none k r l d m z a c e p q f g =
    let w = zig_take 2 z in
    let o = own w in
    record {
      rules = record {
        classes = c;
        reference = e;
        decided = p;
        extremes = q;
        ends = list_ends k (take 2 l) (omega arith) w (below_two k l a);
        agrees = record {
          sum_of = omega (arith, sum-zeros d f, short l);
          first = λ s. absurd (omega (arith, short l));
          above = λ j.
              omega arith;
          few = omega (arith, sum-zeros m g);
        };
        few = omega (arith, short l);
        none_at_zero = f 0;
      };
      counts = record {
        ends = ap ends_of (sym o);
        decided = λ j h. omega (arith, f j, none_decided j l, ap (decided_at j) o);
        extremes = λ j h. omega (arith, g j, none_of_two r j l, ap (extremes_at r j) o);
      };
    }

pub fills_all : (k r : ℕ) (l d m : List ℕ) (i : ℕ) → OfFront k r l i d m → length l ≤ i → OfFront k r l (length l) d m
fills_all k r l d m i g h =
    let e : take i l ≡ take (length l) l = take_all i l h ∙ sym (take_all (length l) l (omega arith)) in
    record {
      rules = subst (λ q. IsSimple (value_of k r q d m)) e g.rules;
      counts = subst (λ q. CountsHistory (value_of k r q d m) q) e g.counts;
    }

-- the table of extremes after the first i points
abbrev pub marks : ℕ → ℕ → List ℕ → ℕ → List ℕ
marks k r l zero = replicate k 0
marks k r l (suc i) = cond (leb 2 i) (cond (is_extreme r (get_or l (i - 2) 0) (get_or l (i - 1) 0) (get_or l i 0))
    (raise (marks k r l i) (get_or l (i - 1) 0)) (marks k r l i)) (replicate k 0)

marks_none : (k r : ℕ) (l : List ℕ) → marks k r l 2 ≡ replicate k 0
marks_none k r l = refl

marks_more : (k r : ℕ) (l : List ℕ) (i : ℕ) → 2 ≤ i → marks k r l (i + 1) ≡ cond (is_extreme r (get_or l (i - 2) 0) (get_or l (i - 1) 0)
    (get_or l i 0)) (raise (marks k r l i) (get_or l (i - 1) 0)) (marks k r l i)
marks_more k r l i o =
    let a : i + 1 ≡ suc i = omega arith in
    ap (marks k r l) a ∙ ap (λ b. cond b (cond (is_extreme r (get_or l (i - 2) 0) (get_or l (i - 1) 0) (get_or l i 0))
    (raise (marks k r l i) (get_or l (i - 1) 0)) (marks k r l i)) (replicate k 0)) (le-leb 2 i o)

-- the first i points, about any reference
abbrev pub FillsRanges : ℕ → List ℕ → ℕ → List ℕ → Type 0
FillsRanges k l i d = (r : ℕ) → (1 ≤ r) × (r < k) → OfFront k r l i d (marks k r l i)

pub ranges_none : (k : ℕ) (l d : List ℕ) → IsZigzag l → All (λ x. x < k) l → (MIN_CLASSES ≤ k) × (k ≤ MAX_CLASSES) → length d ≡ k →
    ((j : ℕ) → get_or d j 0 ≡ 0) → FillsRanges k l 2 d
ranges_none k l d z a c p f = λ r e. fills_none k r l d (marks k r l 2) z a c e p (ap length (marks_none k r l) ∙ length-replicate k 0) f
    (λ j. ap (λ m. get_or m j 0) (marks_none k r l) ∙ get_or-zeros k j)

pub ranges_more : (k : ℕ) (l d d' : List ℕ) (i : ℕ) → IsZigzag l → All (λ x. x < k) l → length l ≤ MAX_POINTS → 2 ≤ i → i < length l →
    FillsRanges k l i d → d' ≡ raise d (range (get_or l (i - 2) 0) (get_or l (i - 1) 0)) → FillsRanges k l (i + 1) d'
ranges_more k l d d' i z a f o h g p = λ r e. fills_more k r l d (marks k r l i) d' (marks k r l (i + 1)) i z a f o h (g r e) p
    (marks_more k r l i o)

all_ranges : (k : ℕ) (l d : List ℕ) (i : ℕ) → points l ≡ l → FillsRanges k l i d → length l ≤ i → (r : ℕ) (m : List ℕ) →
    (1 ≤ r) × (r < k) → AreExtremes k r l m → OfFront k r l (length l) d m
all_ranges k l d i o g h r m e x =
    let t = fills_all k r l d (marks k r l i) i (g r e) h in
    let q : points (take (length l) l) ≡ l = ap points (take_all (length l) l (omega arith)) ∙ o in
    let n = t.rules.extremes in
    let same : marks k r l i ≡ m = same_number_lists (marks k r l i) m (n ∙ sym x.places)
    (λ j b. let c : j < k = omega (arith, n, b) in t.counts.extremes j c ∙ ap (extremes_at r j) q ∙ sym (x.each j c)) in
    subst (OfFront k r l (length l) d) same t

pub ranges_all : (k : ℕ) (l d : List ℕ) (i : ℕ) → points l ≡ l → FillsRanges k l i d → length l ≤ i → HasRanges k l d
ranges_all k l d i o g h = record { fills = all_ranges k l d i o g h }

pub few_ranges : (k : ℕ) (l d : List ℕ) (i place : ℕ) → (MIN_CLASSES ≤ k) × (k ≤ MAX_CLASSES) → FillsRanges k l i d →
    get_or d place 0 ≤ MAX_POINTS
few_ranges k l d i place c g =
    let r = (g 1 (omega (arith, c), omega (arith, c))).rules in
    omega (arith, get_or-le-sum d place, r.agrees.sum_of, r.few)

-- with a table that has the extremes about q, which is r
pub fills_with : (j k n q r : ℕ) (l d m : List ℕ) → j ≡ k → n ≡ k → q ≡ r → (1 ≤ r) × (r < k) →
    HasRanges j l d → length m ≡ k →
    ((i : ℕ) → i < n → get_or m i 0 ≡ extremes_at q i l) → OfFront k r l (length l) d m
fills_with j k n q r l d m e o p a f h g = subst (λ x. OfFront x r l (length l) d m) e (f.fills r m (a.0, omega (arith, e, a.1)) (record {
  places = h ∙ sym e;
  each = λ i b. g i (omega (arith, e, o, b)) ∙ ap (λ s. extremes_at s i l) p;
}))

-- the value with the tables of all points
pub filled : {k r : ℕ} {l d m : List ℕ} {e : EndPoints} → OfFront k r l (length l) d m → e ≡ ends_of l →
    IsSimple (record { classes = k; reference = r; ends = e; decided = d; extremes = m })
filled {k} {r} {l} {d} {m} {e} g p =
    let q = take_all (length l) l (omega arith) in
    subst IsSimple (value_same k r _ _ d d m m (ap ends_of q ∙ sym p) refl refl) g.rules

pub filled_counts : {k r : ℕ} {l d m : List ℕ} {e : EndPoints} → points l ≡ l → OfFront k r l (length l) d m → e ≡ ends_of l
    → (h : List ℕ) →
    points h ≡ l → CountsHistory (record { classes = k; reference = r; ends = e; decided = d; extremes = m }) h
filled_counts {k} {r} {l} {d} {m} {e} o g p h s =
    let q = take_all (length l) l (omega arith) in
    let t : points (take (length l) l) ≡ points h = ap points q ∙ o ∙ sym s in
    record {
      ends = p ∙ ap ends_of (sym s);
      decided = λ j n. g.counts.decided j n ∙ ap (decided_at j) t;
      extremes = λ j n. g.counts.extremes j n ∙ ap (extremes_at r j) t;
    }
