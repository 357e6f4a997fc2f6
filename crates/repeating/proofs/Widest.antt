-- The widest neighbours of a residue: all its levels lie between them.
use Rattle.std.proofs.Common.{◌≡◌, ◌≢◌, ℕ, suc, ◌<◌, ◌≤◌, ◌⊎◌, inl, inr, List, [], ◌∷◌, ◌++◌, refl, ap, arith, get_or}
use Rattle.std.proofs.lemmas.Bool.{cases_lt}
use Rattle.std.specs.Prelude.{All}
use Rattle.std.proofs.lemmas.List.Elements.{All-nil, All-cons, All-head, All-tail}
use Rattle.turning_points.specs.Pairs.{range}
use Rattle.turning_points.proofs.Zigzag.{IsZigzag, two, inner, ends_differ}
use Rattle.four_point.proofs.HasNoCycle.{HasNoCycle, HasNoCycle-tail, Shrinks, last, shrinks, Shrinks-from_no_cycle}
use Rattle.repeating.proofs.Ending.{EndsIn, ends_here, ends_on}
use Rattle.turning_points.specs.Points.{IsTurn}

-- each level is at least lo and below hi
abbrev pub Within : ℕ → ℕ → List ℕ → Type 0
Within lo hi l = All (λ x. (lo ≤ x) × (x < hi)) l

one_within : (lo hi x : ℕ) (l : List ℕ) → lo ≤ x → x < hi → Within lo hi l → Within lo hi (x ∷ l)
one_within lo hi x l p q w = All-cons (λ y. (lo ≤ y) × (y < hi)) x l (p, q) w

none_within : (lo hi : ℕ) → Within lo hi []
none_within lo hi = All-nil (λ y. (lo ≤ y) × (y < hi))

wider : (a b c d : ℕ) (l : List ℕ) → c ≤ a → b ≤ d → Within a b l → Within c d l
wider a b c d l p q w = λ i e h. let v : (a ≤ get_or l i e) × (get_or l i e < b) = w i e h in (omega arith, omega arith)

-- ranges that shrink stay between the first two levels, and off the first
record Nested (y z : ℕ) (l : List ℕ) : Type 0 where
  rising : y < z → Within (suc y) (suc z) (z ∷ l)
  falling : z < y → Within z y (z ∷ l)

nest : {y z w : ℕ} {l : List ℕ} → range z w < range y z → IsTurn y z w → Nested z w l → Nested y z (w ∷ l)
nest {y} {z} {w} {l} h t n = record {
  rising = λ p. one_within (suc y) (suc z) z (w ∷ l) (omega arith) (omega arith)
      (wider w z (suc y) (suc z) (w ∷ l) (omega arith) (omega arith) (n.falling (omega arith)));
  falling = λ p. one_within z y z (w ∷ l) (omega arith) (omega arith)
      (wider (suc z) (suc w) z y (w ∷ l) (omega arith) (omega arith) (n.rising (omega arith)));
}

nested : {y z : ℕ} {l : List ℕ} → Shrinks (y ∷ z ∷ l) → IsZigzag (y ∷ z ∷ l) → Nested y z l
nested {y} {z} last g = record {
  rising = λ p. one_within (suc y) (suc z) z [] (omega arith) (omega arith) (none_within (suc y) (suc z));
  falling = λ p. one_within z y z [] (omega arith) (omega arith) (none_within z y);
}
nested (shrinks h s) (inner t g) = nest h t (nested s g)

-- all levels lie between e and f, which differ
pub data Spans (e f : ℕ) (l : List ℕ) : Type 0 where
  rises : e < f → Within e (suc f) l → Spans e f l
  falls : f < e → Within f (suc e) l → Spans e f l

-- two neighbours between which all levels lie
pub record Widest (l : List ℕ) : Type 0 where
  pub g : List ℕ
  pub e : ℕ
  pub f : ℕ
  pub s : List ℕ
  pub is : l ≡ g ++ (e ∷ f ∷ s)
  pub spans : Spans e f l

spans_two : {x y : ℕ} → ((x < y) ⊎ (y ≤ x)) → x ≢ y → Spans x y (x ∷ y ∷ [])
spans_two {x} {y} (inl p) n = rises p (one_within x (suc y) x (y ∷ []) (omega arith) (omega arith)
    (one_within x (suc y) y [] (omega arith) (omega arith) (none_within x (suc y))))
spans_two {x} {y} (inr p) n = falls (omega arith) (one_within y (suc x) x (y ∷ []) (omega arith) (omega arith)
    (one_within y (suc x) y [] (omega arith) (omega arith) (none_within y (suc x))))

spans_front : {x y : ℕ} {l : List ℕ} → Nested x y l → ((x < y) ⊎ (y ≤ x)) → x ≢ y → Spans x y (x ∷ y ∷ l)
spans_front {x} {y} {l} n (inl p) d = rises p (one_within x (suc y) x (y ∷ l) (omega arith) (omega arith)
    (wider (suc x) (suc y) x (suc y) (y ∷ l) (omega arith) (omega arith) (n.rising p)))
spans_front {x} {y} {l} n (inr p) d = falls (omega arith) (one_within y (suc x) x (y ∷ l) (omega arith) (omega arith)
    (wider y x y (suc x) (y ∷ l) (omega arith) (omega arith) (n.falling (omega arith))))

-- the first two levels lie within
two_within : (lo hi y z : ℕ) (l : List ℕ) → Within lo hi (y ∷ z ∷ l) → (lo ≤ y) × (y < hi) × (lo ≤ z) × (z < hi)
two_within lo hi y z l w =
    let a = All-head (λ x. (lo ≤ x) × (x < hi)) y (z ∷ l) w in
    let b = All-head (λ x. (lo ≤ x) × (x < hi)) z l (All-tail (λ x. (lo ≤ x) × (x < hi)) y (z ∷ l) w) in
    (a.0, a.1, b.0, b.1)

spans_more : {e f x y z : ℕ} {l : List ℕ} → IsTurn x y z → range x y ≤ range y z → Spans e f (y ∷ z ∷ l) → Spans e f (x ∷ y ∷ z ∷ l)
spans_more {e} {f} {x} {y} {z} {l} t h (rises p w) =
    let v = two_within e (suc f) y z l w in rises p (one_within e (suc f) x (y ∷ z ∷ l) (omega arith) (omega arith) w)
spans_more {e} {f} {x} {y} {z} {l} t h (falls p w) =
    let v = two_within f (suc e) y z l w in falls p (one_within f (suc e) x (y ∷ z ∷ l) (omega arith) (omega arith) w)

widest_pick : {x y z : ℕ} {l : List ℕ} → HasNoCycle (x ∷ y ∷ z ∷ l) → IsZigzag (x ∷ y ∷ z ∷ l) → IsTurn x y z → Widest (y ∷ z ∷ l) →
    ((range y z < range x y) ⊎ (range x y ≤ range y z)) → Widest (x ∷ y ∷ z ∷ l)
widest_pick {x} {y} {z} {l} c g t w (inl p) = record {
  g = [];
  e = x;
  f = y;
  s = z ∷ l;
  is = refl;
  spans = spans_front (nested (shrinks p (Shrinks-from_no_cycle x y z l c (omega arith))) g) (cases_lt x y) (ends_differ g);
}
widest_pick {x} c g t w (inr p) =
    record { g = x ∷ w.g; e = w.e; f = w.f; s = w.s; is = ap (λ k. x ∷ k) w.is; spans = spans_more t p w.spans }

pub widest : (x y : ℕ) (l : List ℕ) → HasNoCycle (x ∷ y ∷ l) → IsZigzag (x ∷ y ∷ l) → Widest (x ∷ y ∷ l)
widest x y [] c (two n) = record { g = []; e = x; f = y; s = []; is = refl; spans = spans_two (cases_lt x y) n }
widest x y (z ∷ l) c (inner t g) = widest_pick c (inner t g) t (widest y z l (HasNoCycle-tail c) g) (cases_lt (range y z) (range x y))

ends_within : (a b m : ℕ) (l : List ℕ) → Within a b l → EndsIn m l → (a ≤ m) × (m < b)
ends_within a b m [] w e = elim e [ ]
ends_within a b m (x ∷ l) w (ends_here e) = let v = All-head (λ y. (a ≤ y) × (y < b)) x l w in omega arith
ends_within a b m (x ∷ l) w (ends_on e) = ends_within a b m l (All-tail (λ y. (a ≤ y) × (y < b)) x l w) e

-- a residue that runs from one extreme to the other
pub straight_up : (lo hi : ℕ) (t : List ℕ) → lo < hi → IsZigzag (lo ∷ t) → HasNoCycle (lo ∷ t) → Within lo (suc hi) (lo ∷ t) →
    EndsIn hi (lo ∷ t) → t ≡ hi ∷ []
straight_up lo hi [] h g c w (ends_here e) = absurd (omega arith)
straight_up lo hi [] h g c w (ends_on e) = elim e [ ]
straight_up lo hi (x ∷ []) h g c w (ends_on (ends_here e)) = ap (λ k. k ∷ []) e
straight_up lo hi (x ∷ []) h g c w (ends_on (ends_on e)) = elim e [ ]
straight_up lo hi (x ∷ y ∷ t) h (inner u g) c w (ends_on (ends_on e)) =
    let v = two_within lo (suc hi) x y t (All-tail (λ z. (lo ≤ z) × (z < suc hi)) lo (x ∷ y ∷ t) w) in
    let n = nested (Shrinks-from_no_cycle lo x y t c (omega arith)) g in
    let i = ends_within y x hi (y ∷ t) (n.falling (omega arith)) e in
    absurd (omega arith)

pub straight_down : (lo hi : ℕ) (t : List ℕ) → lo < hi → IsZigzag (hi ∷ t) → HasNoCycle (hi ∷ t) → Within lo (suc hi) (hi ∷ t) →
    EndsIn lo (hi ∷ t) → t ≡ lo ∷ []
straight_down lo hi [] h g c w (ends_here e) = absurd (omega arith)
straight_down lo hi [] h g c w (ends_on e) = elim e [ ]
straight_down lo hi (x ∷ []) h g c w (ends_on (ends_here e)) = ap (λ k. k ∷ []) e
straight_down lo hi (x ∷ []) h g c w (ends_on (ends_on e)) = elim e [ ]
straight_down lo hi (x ∷ y ∷ t) h (inner u g) c w (ends_on (ends_on e)) =
    let v = two_within lo (suc hi) x y t (All-tail (λ z. (lo ≤ z) × (z < suc hi)) hi (x ∷ y ∷ t) w) in
    let n = nested (Shrinks-from_no_cycle hi x y t c (omega arith)) g in
    let i = ends_within (suc x) (suc y) lo (y ∷ t) (n.rising (omega arith)) e in
    absurd (omega arith)
