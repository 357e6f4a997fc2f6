-- One deletion takes one cycle, two half units, from the three-point count of a list of points. The idea: of the four points a, b, c, d
-- the run reads b, c and d as it reads d alone, and meanwhile counts b and c twice a half or once a cycle.
--   one_of_pair, cycle_counted   1 for a pair, and a cycle as two halves
--   Dip, dip              c and then d read onto live points whose newest is b
--   Skips, skip         b, c and d read onto live points whose newest is a
--   Fits, Read, read      points that may be read onto the live ones, and what is so after one reading
--   half_units_of_pair-append, run_step   half units of the run, reading by reading
--   one_deletion          a deletion anywhere in what is still to be read
use Rattle.std.proofs.Common.{◌≡◌, ℕ, ◌+◌, ◌*◌, ◌<◌, ◌≤◌, ◌⊎◌, inl, inr, if◌then◌else◌, List, [], ◌∷◌, ◌++◌, refl, sym, ap, ◌∙◌, subst, arith}
use Rattle.std.proofs.lemmas.Bool.Decides.{nat_tests}
use Rattle.turning_points.specs.Pairs.{Pair, pair, range, is_pair}
use Rattle.turning_points.proofs.Zigzag.{IsZigzag, two, inner, ends_differ}
use Rattle.turning_points.specs.three_point.Run.{CountedRange, live_after, ranges_counted, run, half_units_of_pair}
use Rattle.turning_points.proofs.on_three_point.Steps.{live_after_cycle, ranges_counted_cycle, live_after_half, ranges_counted_half, live_after_less, ranges_counted_less}
use Rattle.four_point.proofs.Drops.{Drops, Encloses, here, past}
use Rattle.four_point.proofs.on_residue_join.Live.{Live, lone, live_tail, live_after_stable, ranges_counted_stable, half_units_counted, Onto, alone, turns, Beyond, Onward, onward}

-- 1 where x is the pair
abbrev pub one_of_pair : ℕ → ℕ → Pair → ℕ
one_of_pair lo hi x = if is_pair lo hi x then 1 else 0

-- a cycle counts as two halves
pub cycle_counted : (lo hi : ℕ) (x : Pair) → (if is_pair lo hi x then 2 else 0) ≡ 2 * one_of_pair lo hi x
cycle_counted lo hi x = grind (arith, nat_tests)

pub pair_swap : (b c : ℕ) → pair b c ≡ pair c b
pair_swap b c = grind arith

encloses_parts : (a b c d : ℕ) → Encloses a b c d → Beyond a b d × (range b c ≤ range c d)
encloses_parts a b c d p = grind arith

-- c is nearer to b than y, or the level y
near : (a b c d y : ℕ) → Encloses a b c d → Beyond b a y → (range b c < range y b) ⊎ (c ≡ y)
near a b c d y p q = grind arith

module _ (lo hi : ℕ) where
  -- reading c and then d onto a live list that ends in b, as reading d onto it without b
  record Dip (b c d : ℕ) (live : List ℕ) : Type 0 where
    to : live_after d (live_after c (b ∷ live)) ≡ live_after d live
    gives : half_units_counted lo hi c (b ∷ live) + half_units_counted lo hi d (live_after c (b ∷ live)) ≡ 2 * one_of_pair lo hi
        (pair b c) + half_units_counted lo hi d live

  dip_inside : (b c d y : ℕ) (r : List ℕ) → range b c < range y b → range b c ≤ range c d → Dip b c d (y ∷ r)
  dip_inside b c d y r p q =
      let e = live_after_less c b y r p in
      let f = ranges_counted_less c b y r p in
      let g = ranges_counted_cycle d c b y r q in
      record {
        to = ap (live_after d) e ∙ live_after_cycle d c b y r q;
        gives = omega (
          arith,
          ap (half_units_of_pair lo hi) f,
          ap (λ s. half_units_of_pair lo hi (ranges_counted d s)) e,
          ap
              (half_units_of_pair lo hi) g,
          cycle_counted lo hi (pair b c),
        );
      }

  -- c is the level y, which is the oldest live point
  dip_first : (b c d : ℕ) → range b c ≤ range c d → Dip b c d (c ∷ [])
  dip_first b c d q =
      let p : range c b ≤ range b c = omega arith in
      let e = live_after_half c b c p in
      let f = ranges_counted_half c b c p in
      let g = ranges_counted_half d c b q in
      let s = ap (one_of_pair lo hi) (pair_swap c b) in
      record {
        to = ap (live_after d) e ∙ live_after_half d c b q;
        gives = omega (
          arith,
          ap (half_units_of_pair lo hi) f,
          ap (λ s. half_units_of_pair lo hi (ranges_counted d s)) e,
          ap
              (half_units_of_pair lo hi) g,
          s,
        );
      }

  -- c is the level y, and older points are live
  dip_again : (b c d w : ℕ) (v : List ℕ) → Live (c ∷ w ∷ v) → Dip b c d (c ∷ w ∷ v)
  dip_again b c d w v l =
      let p : range c b ≤ range b c = omega arith in
      let e = live_after_cycle c b c w v p ∙ live_after_stable l in
      let f = ranges_counted_cycle c b c w v p in
      let g = ranges_counted_stable l in
      let s = ap (one_of_pair lo hi) (pair_swap c b) in
      record {
        to = ap (live_after d) e;
        gives = omega (
          arith,
          ap (half_units_of_pair lo hi) f,
          ap (half_units_of_pair lo hi) g,
          ap
              (λ s. half_units_of_pair lo hi (ranges_counted d s)) e,
          cycle_counted lo hi (pair c b),
          s,
        );
      }

  dip_tie : (b c d : ℕ) (r : List ℕ) → range b c ≤ range c d → Live (c ∷ r) → Dip b c d (c ∷ r)
  dip_tie b c d [] q l = dip_first b c d q
  dip_tie b c d (w ∷ v) q l = dip_again b c d w v l

  dip : (b c d y : ℕ) (r : List ℕ) → range b c ≤ range c d → Live (y ∷ r) → ((range b c < range y b) ⊎ (c ≡ y)) → Dip b c d (y ∷ r)
  dip b c d y r q l (inl p) = dip_inside b c d y r p q
  dip b c d y r q l (inr e) = subst (λ k. Dip b c d (k ∷ r)) e (dip_tie b c d r q (subst (λ k. Live (k ∷ r)) (sym e) l))

  -- reading b, c and d as reading d alone
  record Skips (b c d : ℕ) (live : List ℕ) : Type 0 where
    to : live_after d (live_after c (live_after b live)) ≡ live_after d live
    gives : half_units_counted lo hi b live +
        (half_units_counted lo hi c (live_after b live) + half_units_counted lo hi d (live_after c (live_after b live))) ≡
        2 * one_of_pair lo hi
        (pair b c) + half_units_counted lo hi d live

  skip_by : (b c d : ℕ) (live after : List ℕ) → live_after b live ≡ b ∷ after → live_after d live ≡ live_after d after →
      half_units_counted lo hi d live ≡ half_units_counted lo hi b live + half_units_counted lo hi d after → Dip b c d after →
      Skips b c d live
  skip_by b c d live after e to gives dip = record {
    to = ap (λ s. live_after d (live_after c s)) e ∙ dip.to ∙ sym to;
    gives = omega
        (arith, ap (λ s. half_units_counted lo hi c s) e, ap (λ s. half_units_counted lo hi d (live_after c s)) e, dip.gives, gives);
  }

  skip : (a b c d : ℕ) (v : List ℕ) → Encloses a b c d → Live (a ∷ v) → Onto a b v → Skips b c d (a ∷ v)
  skip a b c d v p l o =
      let k = onward lo hi a b v o l in
      let f = encloses_parts a b c d p in
      skip_by b c d (a ∷ v) (k.y ∷ k.r) k.is (k.to d f.0) (k.gives d f.0)
      (dip b c d k.y k.r f.1 (live_tail k.live) (near a b c d k.y p k.far))

-- the points l may be read onto the live list
pub data Fits : List ℕ → List ℕ → Type 0 where
  onto_nothing : {l : List ℕ} → IsZigzag l → Fits [] l
  onto_one : {y : ℕ} {l : List ℕ} → IsZigzag (y ∷ l) → Fits (y ∷ []) l
  onto_more : {y x : ℕ} {v l : List ℕ} → IsZigzag (x ∷ y ∷ l) → Fits (y ∷ x ∷ v) l

pub record Read (z : ℕ) (v l : List ℕ) : Type 0 where
  pub older : List ℕ
  pub is : live_after z v ≡ z ∷ older
  pub live : Live (z ∷ older)
  pub fits : Fits (z ∷ older) l

zig_far : {y z k : ℕ} {l : List ℕ} → IsZigzag (y ∷ z ∷ l) → Beyond z y k → IsZigzag (k ∷ z ∷ l)
zig_far (two n) p = two (λ e. omega arith)
zig_far (inner t g) p = inner (grind arith) g

pub onto_of : {a b : ℕ} {v l : List ℕ} → Fits (a ∷ v) (b ∷ l) → Onto a b v
onto_of (onto_one g) = alone (ends_differ g)
onto_of (onto_more (inner t g)) = turns (grind arith)

read_on : {y z : ℕ} {v l : List ℕ} → Onward 0 0 y z v → IsZigzag (y ∷ z ∷ l) → Read z (y ∷ v) l
read_on f g = record { older = f.y ∷ f.r; is = f.is; live = f.live; fits = onto_more (zig_far g f.far) }

pub read : {z : ℕ} {v l : List ℕ} → Live v → Fits v (z ∷ l) → Read z v l
read k (onto_nothing g) = record { older = []; is = refl; live = lone; fits = onto_one g }
read {z} k (onto_one {y = y} g) = read_on (onward 0 0 y z [] (alone (ends_differ g)) k) g
read {z} k (onto_more {y = y} {x = x} {v = v} (inner t g)) = read_on (onward 0 0 y z (x ∷ v) (turns (grind arith)) k) g

pub half_units_of_pair-append : (lo hi : ℕ) (xs ys : List CountedRange) →
    half_units_of_pair lo hi (xs ++ ys) ≡ half_units_of_pair lo hi xs + half_units_of_pair lo hi ys
half_units_of_pair-append lo hi [] ys = omega arith
half_units_of_pair-append lo hi (x ∷ xs) ys = omega (arith, half_units_of_pair-append lo hi xs ys)

pub run_step : (lo hi z : ℕ) (v l : List ℕ) →
    half_units_of_pair lo hi (run v (z ∷ l)) ≡ half_units_counted lo hi z v + half_units_of_pair lo hi (run (live_after z v) l)
run_step lo hi z v l = half_units_of_pair-append lo hi (ranges_counted z v) (run (live_after z v) l)

-- a deletion takes one cycle, two half units, from the count
abbrev Takes : ℕ → ℕ → Pair → List ℕ → List ℕ → List ℕ → Type 0
Takes lo hi x live l m = half_units_of_pair lo hi (run live l) ≡ 2 * one_of_pair lo hi x + half_units_of_pair lo hi (run live m)

skips : (lo hi b c d : ℕ) (live q : List ℕ) → Skips lo hi b c d live →
    half_units_of_pair lo hi (run live (b ∷ c ∷ d ∷ q)) ≡ 2 * one_of_pair lo hi (pair b c) + half_units_of_pair lo hi (run live (d ∷ q))
skips lo hi b c d live q s =
    let e = run_step lo hi b live (c ∷ d ∷ q) in
    let f = run_step lo hi c (live_after b live) (d ∷ q) in
    let g = run_step lo hi d (live_after c (live_after b live)) q in
    let h = run_step lo hi d live q in
    omega (arith, e, f, g, h, ap (λ v. half_units_of_pair lo hi (run v q)) s.to, s.gives)

later : (lo hi a : ℕ) (x : Pair) (live older l m : List ℕ) → live_after a live ≡ a ∷ older →
    half_units_of_pair lo hi (run (a ∷ older) l) ≡ 2 * one_of_pair lo hi x + half_units_of_pair lo hi (run (a ∷ older) m) →
    half_units_of_pair lo hi (run live (a ∷ l)) ≡ 2 * one_of_pair lo hi x + half_units_of_pair lo hi (run live (a ∷ m))
later lo hi a x live older l m e h =
    let p = run_step lo hi a live l in
    let q = run_step lo hi a live m in
    omega (arith, p, q, ap (λ v. half_units_of_pair lo hi (run v l)) e, ap (λ v. half_units_of_pair lo hi (run v m)) e, h)

pub one_deletion : {l m : List ℕ} {x : Pair} (lo hi : ℕ) (live : List ℕ) → Live live → Fits live l → Drops l x m →
    half_units_of_pair lo hi (run live l) ≡ 2 * one_of_pair lo hi x + half_units_of_pair lo hi (run live m)
one_deletion lo hi live k f (here {a} {b} {c} {d} {q} p) =
    let w = read k f in
    let s = skip lo hi a b c d w.older p w.live (onto_of w.fits) in
    later lo hi a (pair b c) live w.older (b ∷ c ∷ d ∷ q) (d ∷ q) w.is (skips lo hi b c d (a ∷ w.older) q s)
one_deletion lo hi live k f (past h {l = l} {m = m} e) =
    let w = read k f in
    later lo hi h _ live w.older l m w.is (one_deletion lo hi (h ∷ w.older) w.live w.fits e)
