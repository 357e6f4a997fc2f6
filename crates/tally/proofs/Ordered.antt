-- The list of places put in order, and the cells at its places one after another.
use Rattle.std.proofs.Common.{◌≡◌, ◌≢◌, ℕ, zero, suc, ◌+◌, ◌-◌, ◌<◌, ◌≤◌, ◌⊎◌, inl, inr, eqb, false, List, [], ◌∷◌, length, get_or, set, take, refl, sym, ap, ◌∙◌, subst, arith, get_or-set_same, get_or-set_other}
use Rattle.std.specs.Prelude.{All, Contains}
use Rattle.std.specs.List.Sorted.{IsPermutation, IsNonDecreasing}
use Rattle.std.specs.List.{IsDistinct}
use Rattle.std.proofs.lemmas.Bool.{cases_lt, cases_eq, eqb-false}
use Rattle.std.proofs.lemmas.Bool.Decides.{nat_tests}
use Rattle.std.proofs.lemmas.List.{length-take-le, get_or-take, get_or_default}
use Rattle.std.proofs.lemmas.List.Elements.{Contains-get_or}
use Rattle.std.proofs.lemmas.List.Sorted.{All-permutation, Contains-permutation}
use Rattle.std.proofs.lemmas.Map.Keys.{IsDistinct-from_apart, IsDistinct-IsPermutation, apart_from_distinct}
use Rattle.tally.specs.declared.cells.Cell.{Cell}
use Rattle.tally.specs.Counts.{Before, IsAscending, IsCell, count_of}
use Rattle.tally.specs.Layout.{row_start, place_of, cells_from, IsListing, IsLayout}
use Rattle.tally.proofs.Places.{Order, same, before, behind, order, places_ascend, rows_ascend}
use Rattle.tally.proofs.Walk.{count_here, count_other, count_is, count_outside, behind_differs, ascending}
use Rattle.tally.proofs.RowTables.{At, inside, outside, at, each_of, get_outside}
use Rattle.tally.proofs.Equal.{ascending_head, ascending_tail, same_cells, cell_of}
use Rattle.tally.proofs.Ascending.{count_none}

eqb_flips : (x y : ℕ) → eqb x y ≡ eqb y x
eqb_flips x y = grind (arith, nat_tests)

apart : (x y : ℕ) → x ≢ y → eqb x y ≡ false
apart x y n = grind (arith, nat_tests)

-- a place of the front of a list
front_at : (l : List ℕ) (used i d : ℕ) → used ≤ length l → i < used → get_or (take used l) i d ≡ get_or l i 0
front_at l used i d w h = get_or-take used l i d h ∙ get_or_default l i d 0 (omega arith)

module _ (t l m : List ℕ) (used : ℕ) (g : IsListing t l used) (long : length m ≡ length l)
    (p : IsPermutation (take used l) (take used m)) where
  within : used < length m
  within = omega (arith, g.within)

  length_old : length (take used l) ≡ used
  length_old = let w = g.within in length-take-le used l (omega arith)

  length_new : length (take used m) ≡ used
  length_new = let w = g.within in length-take-le used m (omega arith)

  old_at : (i d : ℕ) → i < used → get_or (take used l) i d ≡ get_or l i 0
  old_at i d h = let w = g.within in front_at l used i d (omega arith) h

  new_at : (i : ℕ) → i < used → get_or (take used m) i 0 ≡ get_or m i 0
  new_at i h = get_or-take used m i 0 h

  distinct : IsDistinct eqb (take used l)
  distinct =
      IsDistinct-from_apart eqb (take used l) (λ i j d h w.
      apart (get_or (take used l) i d) (get_or (take used l) j d)
      (λ q. g.once i j h (omega (arith, length_old))
      (sym (old_at i d (omega (arith, length_old))) ∙ q ∙ old_at j d (omega (arith, length_old)))))

  distinct_new : IsDistinct eqb (take used m)
  distinct_new = IsDistinct-IsPermutation eqb eqb_flips (take used l) (take used m) p distinct

  all_hold : All (λ q. 0 < get_or t q 0) (take used m)
  all_hold =
      All-permutation (λ q. 0 < get_or t q 0) (take used l) (take used m) p
      (λ i d h. subst (λ q. 0 < get_or t q 0) (sym (old_at i d (omega (arith, length_old)))) (g.holds i (omega (arith, length_old))))

  found : (q : ℕ) → Contains (take used m) q → (i : ℕ) × (i < used) × (get_or m i 0 ≡ q)
  found q c =
      let h : c.0 < used = let w = c.1 in omega (arith, length_new) in
      let e : get_or (take used m) c.0 q ≡ get_or m c.0 0 = let w = within in front_at m used c.0 q (omega arith) h in
      (c.0, h, sym e ∙ c.2)

  was_there : (q : ℕ) → (i : ℕ) × (i < used) × (get_or l i 0 ≡ q) → Contains (take used l) q
  was_there q w =
      let h = w.1 in subst (Contains (take used l)) (old_at w.0 0 h ∙ w.2) (Contains-get_or (take used l) w.0 0 (omega (arith, length_old)))

  -- in any order it lists the same places
  pub listing_ordered : IsListing t m used
  listing_ordered = record {
    amount = g.amount;
    within = within;
    holds = λ i h. subst (λ q. 0 < get_or t q 0) (new_at i h) (all_hold i 0 (omega (arith, length_new)));
    once = λ i j h w e.
        eqb-false (get_or (take used m) i 0) (get_or (take used m) j 0)
        (apart_from_distinct eqb (take used m) i j 0 distinct_new h (omega (arith, length_new)))
        (new_at i (omega arith) ∙ e ∙ sym (new_at j w));
    named = λ q h. found q (Contains-permutation (take used l) (take used m) q p (was_there q (g.named q h)));
  }

pub layout_ordered : {k r : ℕ} {t l m : List ℕ} {used n : ℕ} → IsLayout k r t l used n → length m ≡ length l →
    IsPermutation (take used l) (take used m) → IsLayout k r t m used n
layout_ordered {k} {r} {t} {l} {m} {used} {n} g e p = record {
  few = g.few;
  many = g.many;
  places = g.places;
  most = g.most;
  room_for = e ∙ g.room_for;
  listing = listing_ordered t l m used g.listing e p;
  summed = g.summed;
  limit = g.limit;
}

-- a cell is that of a place
pub record IsCellAt (k : ℕ) (t : List ℕ) (p : ℕ) (c : Cell) : Type 0 where
  pub ordered : c.lo < c.hi
  pub within : c.hi < k
  pub place : place_of k c.lo c.hi ≡ p
  pub count : c.n ≡ get_or t p 0

-- the place stands in the row of lo
pub cell_in_row : (k lo p hi n : ℕ) (t : List ℕ) → row_start k lo ≤ p → p < row_start k (lo + 1) → hi ≡ lo + 1 + (p - row_start k lo) →
    n ≡ get_or t p 0 →
    IsCellAt k t p (cell_of lo hi n)
cell_in_row k lo p hi n t h w e f =
    let next : lo + 1 ≡ suc lo = omega arith in
    let r : row_start k (lo + 1) ≡ row_start k (suc lo) = ap (row_start k) next in
    record { ordered = omega arith; within = omega arith; place = omega arith; count = f }

row_within_by : (k lo p : ℕ) → row_start k lo ≤ p → p < row_start k k → k ≤ lo + 1 → ⊥
row_within_by zero lo p h w g = omega arith
row_within_by (suc m) lo p h w g = let r = rows_ascend (suc m) m lo (omega arith) in omega arith

row_within_or : (k lo p : ℕ) → row_start k lo ≤ p → p < row_start k k → ((lo + 1 < k) ⊎ (k ≤ lo + 1)) → lo + 1 < k
row_within_or k lo p h w (inl g) = g
row_within_or k lo p h w (inr g) = absurd (row_within_by k lo p h w g)

-- a row that begins up to a place of the table is not the last, which is empty
pub row_within : (k lo p : ℕ) → row_start k lo ≤ p → p < row_start k k → lo + 1 < k
row_within k lo p h w = row_within_or k lo p h w (cases_lt (lo + 1) k)

before_by : (k a b lo hi : ℕ) → lo < hi → hi < k → a < b → place_of k a b < place_of k lo hi → Order a b lo hi → Before a b lo hi
before_by k a b lo hi o w p h (same e f) = absurd (omega (arith, ap (λ x. place_of k x b) e, ap (λ x. place_of k lo x) f))
before_by k a b lo hi o w p h (before g) = g
before_by k a b lo hi o w p h (behind g) = absurd (omega (arith, places_ascend k lo hi a b o w p g))

same_by : (k a b lo hi : ℕ) → a < b → b < k → lo < hi → hi < k → place_of k a b ≡ place_of k lo hi → Order a b lo hi → (a ≡ lo) × (b ≡ hi)
same_by k a b lo hi o w p q h (same e f) = (e, f)
same_by k a b lo hi o w p q h (before g) = absurd (omega (arith, places_ascend k a b lo hi o w p g))
same_by k a b lo hi o w p q h (behind g) = absurd (omega (arith, places_ascend k lo hi a b p q o g))

-- in an ascending list the count of a cell is found
count_at : (cells : List Cell) (i : ℕ) (d : Cell) → IsAscending cells → i < length cells →
    count_of cells (get_or cells i d).lo (get_or cells i d).hi ≡ (get_or cells i d).n
count_at [] i d a h = absurd (omega arith)
count_at (c ∷ cells) zero d a h = count_here c cells c.lo c.hi refl refl
count_at (c ∷ cells) (suc i) d a h =
    count_other c cells _ _ (behind_differs (ascending_head c cells a i d (omega arith)))
    ∙ count_at cells i d (ascending_tail c cells a) (omega arith)

-- the places that follow stand in no earlier row
pub rows_later : (k lo i used : ℕ) (l : List ℕ) → IsNonDecreasing (take used l) → used ≤ length l → i < used →
    row_start k lo ≤ get_or l i 0 →
    (j : ℕ) → i + 1 ≤ j → j < used → row_start k lo ≤ get_or l j 0
rows_later k lo i used l s long w h j o v =
    let n = length-take-le used l long in
    let u = s i j 0 (omega arith) (omega arith) in
    omega (arith, u, get_or-take used l i 0 w, get_or-take used l j 0 v)

module _ (k : ℕ) (t l : List ℕ) (i : ℕ) (out : List Cell) (c : Cell)
    (w : (j : ℕ) (d : Cell) → j < i → IsCellAt k t (get_or l j 0) (get_or out j d))
    (v : i < length out) (h : IsCellAt k t (get_or l i 0) c) where
  written_by : (j : ℕ) (d : Cell) → j < i + 1 → ((j ≡ i) ⊎ (j ≢ i)) → IsCellAt k t (get_or l j 0) (get_or (set out i c) j d)
  written_by j d u (inl e) =
      subst (λ n. IsCellAt k t (get_or l n 0) (get_or (set out i c) n d)) (sym e)
      (subst (IsCellAt k t (get_or l i 0)) (sym (get_or-set_same out i c d v)) h)
  written_by j d u (inr n) = subst (IsCellAt k t (get_or l j 0)) (sym (get_or-set_other out i j c d n)) (w j d (omega arith))

  -- one cell more
  pub written_more : (j : ℕ) (d : Cell) → j < i + 1 → IsCellAt k t (get_or l j 0) (get_or (set out i c) j d)
  written_more j d u = written_by j d u (cases_eq j i)

-- the cells that were written, place after place
module _ (k : ℕ) (t l : List ℕ) (used : ℕ) (out : List Cell) (few : 2 ≤ k) (places : length t ≡ row_start k k) (g : IsListing t l used)
    (s : IsNonDecreasing (take used l)) (long : used ≤ length out)
    (w : (j : ℕ) (d : Cell) → j < used → IsCellAt k t (get_or l j 0) (get_or out j d)) where
  length_cells : length (take used out) ≡ used
  length_cells = length-take-le used out long

  cell_at : (j : ℕ) (d : Cell) → j < used → IsCellAt k t (get_or l j 0) (get_or (take used out) j d)
  cell_at j d h = subst (IsCellAt k t (get_or l j 0)) (sym (get_or-take used out j d h)) (w j d h)

  place_at : (j : ℕ) → j < used → get_or (take used l) j 0 ≡ get_or l j 0
  place_at j h = get_or-take used l j 0 h

  rising_by : (i j : ℕ) → i < j → j < used → ((get_or l i 0 < get_or l j 0) ⊎ (get_or l j 0 ≤ get_or l i 0)) → get_or l i 0 < get_or l j 0
  rising_by i j h v (inl r) = r
  rising_by i j h v (inr r) =
      let n : length (take used l) ≡ used = let q = g.within in length-take-le used l (omega arith) in
      let u = s i j 0 (omega arith) (omega arith) in
      absurd (g.once i j h v (omega (arith, u, place_at i (omega arith), place_at j v)))

  rising : (i j : ℕ) → i < j → j < used → get_or l i 0 < get_or l j 0
  rising i j h v = rising_by i j h v (cases_lt (get_or l i 0) (get_or l j 0))

  written_each : All (IsCell k) (take used out)
  written_each = λ j d h.
      let v : j < used = omega (arith, length_cells) in
      let c = cell_at j d v in
      record { ordered = c.ordered; within = c.within; positive = omega (arith, c.count, g.holds j v) }

  written_ascend : IsAscending (take used out)
  written_ascend = λ i j d h v.
      let b = cell_at i d (omega (arith, length_cells)) in
      let c = cell_at j d (omega (arith, length_cells)) in
      before_by k _ _ _ _ c.ordered c.within b.ordered (omega (arith, b.place, c.place, rising i j h (omega (arith, length_cells))))
      (order _ _ _ _)

  counted : (a b : ℕ) → a < b → b < k → (i : ℕ) × (i < used) × (get_or l i 0 ≡ place_of k a b) →
      count_of (take used out) a b ≡ get_or t (place_of k a b) 0
  counted a b o v (i, h, e) =
      let c = cell_at i (cell_of 0 0 0) h in
      let same_pair = same_by k _ _ a b c.ordered c.within o v (c.place ∙ e) (order _ _ _ _) in
      let n = count_at (take used out) i (cell_of 0 0 0) written_ascend (omega (arith, length_cells)) in
      subst (λ x. count_of (take used out) x b ≡ get_or t (place_of k a b) 0) same_pair.0
      (subst (λ x. count_of (take used out) (get_or (take used out) i (cell_of 0 0 0)).lo x ≡ get_or t (place_of k a b) 0) same_pair.1
      (n ∙ c.count ∙ ap (λ p. get_or t p 0) e))

  not_counted : (a b : ℕ) → get_or t (place_of k a b) 0 ≤ 0 → count_of (take used out) a b ≡ 0
  not_counted a b z =
      count_none a b (take used out) (λ j d h e.
      let v : j < used = omega (arith, length_cells) in
      let c = cell_at j d v in
      let p : place_of k a b ≡ get_or l j 0 = ap (λ x. place_of k x b) (sym e.0)
      ∙ ap (λ x. place_of k (get_or (take used out) j d).lo x) (sym e.1) ∙ c.place in
      omega (arith, g.holds j v, ap (λ x. get_or t x 0) p))

  count_by : (a b : ℕ) → a < b → b < k → ((0 < get_or t (place_of k a b) 0) ⊎ (get_or t (place_of k a b) 0 ≤ 0)) →
      count_of (take used out) a b ≡ get_or t (place_of k a b) 0
  count_by a b o v (inl h) = counted a b o v (g.named (place_of k a b) h)
  count_by a b o v (inr h) = omega (arith, not_counted a b h)

  written_count : (a b : ℕ) → At k a b → count_of (take used out) a b ≡ count_of (cells_from k 0 1 t) a b
  written_count a b (inside o v) = count_by a b o v (cases_lt 0 (get_or t (place_of k a b) 0)) ∙ sym (count_is k a b t o v)
  written_count a b (outside n) = count_outside k a b (take used out) written_each n ∙ sym (get_outside k a b t few places n)

  -- they are the cells of the table
  pub written_cells : take used out ≡ cells_from k 0 1 t
  written_cells =
      same_cells k (take used out) (cells_from k 0 1 t) written_each (each_of k t few places) written_ascend (ascending k 0 1 t)
      (λ a b. written_count a b (at k a b))
