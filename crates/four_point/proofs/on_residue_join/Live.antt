-- Reading a point onto the live points of the three-point run. The idea: what was read between a point and one that lies further on the
-- same side leaves no trace but its counts, so reading the nearer one first and then the further one in its place is reading the further
-- one.
--   Live, live_tail                 what the live points look like
--   live_after_stable, ranges_counted_stable     a point that keeps this shape is live, and nothing is counted
--   half_units_counted                             the half units that a reading counts
--   Onto                            a point may be read behind the newest live one
--   Beyond                          as far as another point or further
--   onto_deeper, strict             the same behind an older live point
--   Onward, onward                  what reading a point leaves and counts
use Rattle.std.proofs.Common.{◌≡◌, ◌≢◌, ℕ, ◌+◌, ◌<◌, ◌≤◌, ◌⊎◌, inl, inr, List, [], ◌∷◌, refl, sym, ap, ◌∙◌, arith}
use Rattle.std.proofs.lemmas.Bool.{cases_lt}
use Rattle.turning_points.specs.Points.{IsBetween, IsTurn}
use Rattle.turning_points.specs.Pairs.{range}
use Rattle.turning_points.specs.three_point.Run.{live_after, ranges_counted, half_units_of_pair}
use Rattle.turning_points.proofs.on_three_point.Steps.{live_after_cycle, ranges_counted_cycle, live_after_half, ranges_counted_half, live_after_less, ranges_counted_less}

-- the live points, newest first: each lies strictly between the next two older ones
pub data Live : List ℕ → Type 0 where
  no_point : Live []
  lone : {x : ℕ} → Live (x ∷ [])
  pair_of : {x y : ℕ} → x ≢ y → Live (x ∷ y ∷ [])
  more : {z y x : ℕ} {v : List ℕ} → IsBetween y z x → Live (y ∷ x ∷ v) → Live (z ∷ y ∷ x ∷ v)

pub live_tail : {x : ℕ} {v : List ℕ} → Live (x ∷ v) → Live v
live_tail lone = no_point
live_tail (pair_of n) = lone
live_tail (more b l) = l

pub live_after_stable : {z : ℕ} {v : List ℕ} → Live (z ∷ v) → live_after z v ≡ z ∷ v
live_after_stable lone = refl
live_after_stable (pair_of n) = refl
live_after_stable {z} (more {y = y} {x = x} {v = v} b l) = live_after_less z y x v (omega arith)

pub ranges_counted_stable : {z : ℕ} {v : List ℕ} → Live (z ∷ v) → ranges_counted z v ≡ []
ranges_counted_stable lone = refl
ranges_counted_stable (pair_of n) = refl
ranges_counted_stable {z} (more {y = y} {x = x} {v = v} b l) = ranges_counted_less z y x v (omega arith)

-- the half units of one pair that reading a point counts
abbrev pub half_units_counted : ℕ → ℕ → ℕ → List ℕ → ℕ
half_units_counted lo hi z v = half_units_of_pair lo hi (ranges_counted z v)

-- b is read onto a live list whose newest point is a, on the side of the point before a
pub data Onto (a b : ℕ) : List ℕ → Type 0 where
  alone : a ≢ b → Onto a b []
  turns : {x : ℕ} {v : List ℕ} → IsTurn b a x → Onto a b (x ∷ v)

-- seen from a, d is as far as b or further
abbrev pub Beyond : ℕ → ℕ → ℕ → Type 0
Beyond a b d = ((a < b) × (b ≤ d)) ⊎ ((b < a) × (d ≤ b))

pub onto_deeper : {a b x w : ℕ} {v : List ℕ} → IsTurn b a x → Live (a ∷ x ∷ w ∷ v) → Onto w b v
onto_deeper t (more q (pair_of n)) = alone (λ e. omega arith)
onto_deeper t (more q (more s l)) = turns (grind arith)

pub strict : {a x w : ℕ} {v : List ℕ} → Live (a ∷ x ∷ w ∷ v) → IsBetween x a w
strict (more q l) = q

module _ (lo hi : ℕ) where
  pub record Onward (a b : ℕ) (v : List ℕ) : Type 0 where
    pub y : ℕ
    pub r : List ℕ
    pub is : live_after b (a ∷ v) ≡ b ∷ y ∷ r
    pub far : Beyond b a y
    pub live : Live (b ∷ y ∷ r)
    pub to : (d : ℕ) → Beyond a b d → live_after d (a ∷ v) ≡ live_after d (y ∷ r)
    pub gives : (d : ℕ) → Beyond a b d →
        half_units_counted lo hi d (a ∷ v) ≡ half_units_counted lo hi b (a ∷ v) + half_units_counted lo hi d (y ∷ r)

  beyond_self : (a b : ℕ) → a ≢ b → Beyond b a a
  beyond_self a b n = grind arith

  onward_less : (a b x : ℕ) (v : List ℕ) → IsTurn b a x → range a b < range x a → Live (a ∷ x ∷ v) → Onward a b (x ∷ v)
  onward_less a b x v t p l = record {
    y = a;
    r = x ∷ v;
    is = live_after_less b a x v p;
    far = beyond_self a b (λ e. omega arith);
    live = more (grind arith) l;
    to = λ d h. refl;
    gives = λ d h. let e = ranges_counted_less b a x v p in omega (arith, ap (half_units_of_pair lo hi) e);
  }

  onward_half : (a b x : ℕ) → IsTurn b a x → range x a ≤ range a b → Onward a b (x ∷ [])
  onward_half a b x t p = record {
    y = a;
    r = [];
    is = live_after_half b a x p;
    far = beyond_self a b (λ e. omega arith);
    live = pair_of (λ e. omega arith);
    to = λ d h. live_after_half d a x (omega arith);
    gives = λ d h.
        let e = ranges_counted_half b a x p in
        let f = ranges_counted_half d a x (omega arith) in
        omega (arith, ap (half_units_of_pair lo hi) e, ap (half_units_of_pair lo hi) f);
  }

  beyond_deeper : (a b x w d : ℕ) → IsTurn b a x → IsBetween x a w → Beyond a b d → Beyond w b d
  beyond_deeper a b x w d t q h = grind arith

  far_deeper : (a b x w y : ℕ) → IsTurn b a x → IsBetween x a w → Beyond b w y → Beyond b a y
  far_deeper a b x w y t q h = grind arith

  onward_cycle : (a b x w : ℕ) (v : List ℕ) → IsTurn b a x → IsBetween x a w → range x a ≤ range a b → Onward w b v → Onward a b (x ∷ w ∷ v)
  onward_cycle a b x w v t q p k = record {
    y = k.y;
    r = k.r;
    is = live_after_cycle b a x w v p ∙ k.is;
    far = far_deeper a b x w k.y t q k.far;
    live = k.live;
    to = λ d h. live_after_cycle d a x w v (omega arith) ∙ k.to d (beyond_deeper a b x w d t q h);
    gives = λ d h.
        let e = ranges_counted_cycle b a x w v p in
        let f = ranges_counted_cycle d a x w v (omega arith) in
        omega (arith, ap (half_units_of_pair lo hi) e, ap (half_units_of_pair lo hi) f, k.gives d (beyond_deeper a b x w d t q h));
  }

  onward_pick : (a b x w : ℕ) (v : List ℕ) → IsTurn b a x → Live (a ∷ x ∷ w ∷ v) → Onward w b v →
      ((range a b < range x a) ⊎ (range x a ≤ range a b)) → Onward a b (x ∷ w ∷ v)
  onward_pick a b x w v t l k (inl p) = onward_less a b x (w ∷ v) t p l
  onward_pick a b x w v t l k (inr p) = onward_cycle a b x w v t (strict l) p k

  onward_end : (a b x : ℕ) → IsTurn b a x → Live (a ∷ x ∷ []) → ((range a b < range x a) ⊎ (range x a ≤ range a b)) → Onward a b (x ∷ [])
  onward_end a b x t l (inl p) = onward_less a b x [] t p l
  onward_end a b x t l (inr p) = onward_half a b x t p

  pub onward : (a b : ℕ) (v : List ℕ) → Onto a b v → Live (a ∷ v) → Onward a b v
  onward a b [] (alone n) l =
      record {
        y = a;
        r = [];
        is = refl;
        far = beyond_self a b n;
        live = pair_of (λ e. n (sym e));
        to = λ d h. refl;
        gives = λ d h. omega arith;
      }
  onward a b (x ∷ []) (turns t) l = onward_end a b x t l (cases_lt (range a b) (range x a))
  onward a b (x ∷ w ∷ v) (turns t) l =
      onward_pick a b x w v t l (onward w b v (onto_deeper t l) (live_tail (live_tail l))) (cases_lt (range a b) (range x a))
