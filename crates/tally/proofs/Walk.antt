-- The cells of a table: what the walk over its places meets.
use Rattle.std.proofs.Common.{◌≡◌, ℕ, zero, suc, ◌+◌, ◌-◌, ◌<◌, ◌≤◌, ◌⊎◌, inl, inr, List, [], ◌∷◌, length, get_or, drop, refl, sym, ap, ◌∙◌, subst, arith}
use Rattle.std.specs.Prelude.{Some, All, find, sum}
use Rattle.std.proofs.lemmas.List.Elements.{All-cons, All-head, All-tail}
use Rattle.std.proofs.lemmas.List.Kept.{AllPairs-cons}
use Rattle.std.proofs.lemmas.List.Sums.{sum_by-cons}
use Rattle.std.proofs.lemmas.List.{drop_more}
use Rattle.std.proofs.Math.Seq.{drop-nil}
use Rattle.std.proofs.lemmas.Bool.Decides.{nat_tests}
use Rattle.tally.specs.declared.cells.Cell.{Cell}
use Rattle.tally.specs.Counts.{is_from, count_of, total_of, Before, IsAscending, IsCell}
use Rattle.tally.specs.Layout.{row_start, place_of, next_lo, next_hi, cells_from, places_filled}
use Rattle.tally.proofs.Places.{UpTo, Order, same, before, behind, order, next_place, next_ordered, next_up_to, next_behind, before_next, next_within, place_within, places_ascend}

-- the count of a pair in a list whose first cell is or is not at the pair
pub count_here : (c : Cell) (cells : List Cell) (lo hi : ℕ) → c.lo ≡ lo → c.hi ≡ hi → count_of (c ∷ cells) lo hi ≡ c.n
count_here c cells lo hi e f = grind (arith, nat_tests)

pub count_other : (c : Cell) (cells : List Cell) (lo hi : ℕ) → ((c.lo ≡ lo) × (c.hi ≡ hi) → ⊥) →
    count_of (c ∷ cells) lo hi ≡ count_of cells lo hi
count_other c cells lo hi n = grind (arith, nat_tests)

pub before_differs : {a b lo hi : ℕ} → Before lo hi a b → (a ≡ lo) × (b ≡ hi) → ⊥
before_differs h e = grind arith

pub behind_differs : {a b lo hi : ℕ} → Before a b lo hi → (a ≡ lo) × (b ≡ hi) → ⊥
behind_differs h e = grind arith

-- a pair that the walk has passed is not met any more
pub count_passed : (k a b lo hi : ℕ) (t : List ℕ) → Before lo hi a b → count_of (cells_from k a b t) lo hi ≡ 0
count_passed k a b lo hi [] h = refl
count_passed k a b lo hi (zero ∷ ns) h = count_passed k (next_lo k a b) (next_hi k a b) lo hi ns (before_next k a b lo hi h)
count_passed k a b lo hi (suc n ∷ ns) h =
    count_other _ _ lo hi (before_differs h) ∙ count_passed k (next_lo k a b) (next_hi k a b) lo hi ns (before_next k a b lo hi h)

-- how far a place is ahead
step_ahead : (k a b lo hi : ℕ) (n : ℕ) (ns : List ℕ) → a < b → b < k → place_of k a b < place_of k lo hi →
    get_or ns (place_of k lo hi - place_of k (next_lo k a b) (next_hi k a b)) 0 ≡ get_or (n ∷ ns) (place_of k lo hi - place_of k a b) 0
step_ahead k a b lo hi n ns o w h =
    let e = next_place k a b o w in
    let f : place_of k lo hi - place_of k a b ≡ suc (place_of k lo hi - place_of k (next_lo k a b) (next_hi k a b)) = omega (arith, e) in
    ap (λ i. get_or (n ∷ ns) i 0) (sym f)

same_next : (k a b lo hi : ℕ) → a ≡ lo → b ≡ hi → Before lo hi (next_lo k a b) (next_hi k a b)
same_next k a b lo hi e f =
    subst (λ x. Before x hi (next_lo k a b) (next_hi k a b)) e
    (subst (λ x. Before a x (next_lo k a b) (next_hi k a b)) f (next_behind k a b))

no_gap : (k a b lo hi : ℕ) → a ≡ lo → b ≡ hi → place_of k lo hi - place_of k a b ≡ 0
no_gap k a b lo hi e f = omega (arith, ap (row_start k) e)

not_behind : {a b lo hi : ℕ} → UpTo a b lo hi → Before lo hi a b → ⊥
not_behind u h = grind arith

-- before a pair of the table the walk does not end
walk_continues : (k a b lo hi : ℕ) → place_of k a b < place_of k lo hi → place_of k lo hi < row_start k k →
    ((next_hi k a b < k) ⊎ (place_of k a b + 1 ≡ row_start k k)) → next_hi k a b < k
walk_continues k a b lo hi h w (inl g) = g
walk_continues k a b lo hi h w (inr g) = absurd (omega arith)

next_fits : (k a b lo hi : ℕ) → a < b → b < k → lo < hi → hi < k → Before a b lo hi → next_hi k a b < k
next_fits k a b lo hi o w p q h =
    walk_continues k a b lo hi (places_ascend k a b lo hi o w p h) (place_within k lo hi p q) (next_within k a b o w)

count_by_order : (k a b lo hi n : ℕ) (ns : List ℕ) → a < b → b < k → lo < hi → hi < k → UpTo a b lo hi → Order a b lo hi →
    (Before a b lo hi →
    count_of (cells_from k (next_lo k a b) (next_hi k a b) ns) lo hi ≡ get_or ns
    (place_of k lo hi - place_of k (next_lo k a b) (next_hi k a b)) 0) →
    count_of (cells_from k a b (n ∷ ns)) lo hi ≡ get_or (n ∷ ns) (place_of k lo hi - place_of k a b) 0
count_by_order k a b lo hi zero ns o w p q u (same e f) next =
    count_passed k (next_lo k a b) (next_hi k a b) lo hi ns (same_next k a b lo hi e f)
    ∙ ap (λ i. get_or (0 ∷ ns) i 0) (sym (no_gap k a b lo hi e f))
count_by_order k a b lo hi (suc n) ns o w p q u (same e f) next =
    count_here _ _ lo hi e f ∙ ap (λ i. get_or (suc n ∷ ns) i 0) (sym (no_gap k a b lo hi e f))
count_by_order k a b lo hi zero ns o w p q u (before h) next = next h ∙ step_ahead k a b lo hi 0 ns o w (places_ascend k a b lo hi o w p h)
count_by_order k a b lo hi (suc n) ns o w p q u (before h) next =
    count_other _ _ lo hi (behind_differs h) ∙ next h ∙ step_ahead k a b lo hi (suc n) ns o w (places_ascend k a b lo hi o w p h)
count_by_order k a b lo hi n ns o w p q u (behind h) next = absurd (not_behind u h)

count_ahead : (k a b lo hi : ℕ) (t : List ℕ) → a < b → b < k → lo < hi → hi < k → UpTo a b lo hi →
    count_of (cells_from k a b t) lo hi ≡ get_or t (place_of k lo hi - place_of k a b) 0
count_ahead k a b lo hi [] o w p q u = refl
count_ahead k a b lo hi (n ∷ ns) o w p q u =
    count_by_order k a b lo hi n ns o w p q u (order a b lo hi)
    (λ h. count_ahead k (next_lo k a b) (next_hi k a b) lo hi ns (next_ordered k a b o) (next_fits k a b lo hi o w p q h) p q
    (next_up_to k a b lo hi o p q h))

first_up_to : (lo hi : ℕ) → lo < hi → UpTo 0 1 lo hi
first_up_to lo hi h = grind arith

-- the count of a pair stands at its place
pub count_is : (k lo hi : ℕ) (t : List ℕ) → lo < hi → hi < k → count_of (cells_from k 0 1 t) lo hi ≡ get_or t (place_of k lo hi) 0
count_is k lo hi t p q =
    let w : 1 < k = omega arith in
    let e : place_of k lo hi - place_of k 0 1 ≡ place_of k lo hi = omega arith in
    count_ahead k 0 1 lo hi t (omega arith) w p q (first_up_to lo hi p) ∙ ap (λ i. get_or t i 0) e

outside : (k lo hi : ℕ) (c : Cell) → IsCell k c → ((lo < hi) → (hi < k) → ⊥) → (c.lo ≡ lo) × (c.hi ≡ hi) → ⊥
outside k lo hi c v n e = let o = v.ordered in let w = v.within in grind arith

-- from a pair on
pub from_here : (lo hi : ℕ) (c : Cell) (cells : List Cell) → UpTo lo hi c.lo c.hi → find (is_from lo hi) (c ∷ cells) ≡ Some c
from_here lo hi c cells u = grind (arith, nat_tests)

pub from_later : (lo hi : ℕ) (c : Cell) (cells : List Cell) → Before c.lo c.hi lo hi →
    find (is_from lo hi) (c ∷ cells) ≡ find (is_from lo hi) cells
from_later lo hi c cells h = grind (arith, nat_tests)

drop_ahead : (k a b lo hi n : ℕ) (ns : List ℕ) → a < b → b < k → place_of k a b < place_of k lo hi →
    drop (place_of k lo hi - place_of k (next_lo k a b) (next_hi k a b)) ns ≡ drop (place_of k lo hi - place_of k a b) (n ∷ ns)
drop_ahead k a b lo hi n ns o w h =
    let e = next_place k a b o w in
    let f : place_of k lo hi - place_of k a b ≡ suc (place_of k lo hi - place_of k (next_lo k a b) (next_hi k a b)) = omega (arith, e) in
    ap (λ i. drop i (n ∷ ns)) (sym f)

find_same : (k a b lo hi : ℕ) (t : List ℕ) → a ≡ lo → b ≡ hi →
    find (is_from lo hi) (cells_from k a b t) ≡ find (is_from lo hi) (cells_from k lo hi (drop (place_of k lo hi - place_of k a b) t))
find_same k a b lo hi t e f =
    let g : drop (place_of k lo hi - place_of k a b) t ≡ t = ap (λ i. drop i t) (no_gap k a b lo hi e f) in
    ap (λ x. find (is_from lo hi) (cells_from k x b t)) e ∙ ap (λ x. find (is_from lo hi) (cells_from k lo x t)) f
    ∙ ap (λ l. find (is_from lo hi) (cells_from k lo hi l)) (sym g)

find_by_order : (k a b lo hi n : ℕ) (ns : List ℕ) → a < b → b < k → lo < hi → hi < k → UpTo a b lo hi → Order a b lo hi →
    (Before a b lo hi →
    find (is_from lo hi) (cells_from k (next_lo k a b) (next_hi k a b) ns) ≡ find (is_from lo hi)
    (cells_from k lo hi (drop (place_of k lo hi - place_of k (next_lo k a b) (next_hi k a b)) ns))) →
    find (is_from lo hi) (cells_from k a b (n ∷ ns)) ≡ find (is_from lo hi)
    (cells_from k lo hi (drop (place_of k lo hi - place_of k a b) (n ∷ ns)))
find_by_order k a b lo hi n ns o w p q u (same e f) next = find_same k a b lo hi (n ∷ ns) e f
find_by_order k a b lo hi zero ns o w p q u (before h) next =
    next h ∙ ap (λ l. find (is_from lo hi) (cells_from k lo hi l)) (drop_ahead k a b lo hi 0 ns o w (places_ascend k a b lo hi o w p h))
find_by_order k a b lo hi (suc n) ns o w p q u (before h) next =
    from_later lo hi _ _ h ∙ next h
    ∙ ap (λ l. find (is_from lo hi) (cells_from k lo hi l)) (drop_ahead k a b lo hi (suc n) ns o w (places_ascend k a b lo hi o w p h))
find_by_order k a b lo hi n ns o w p q u (behind h) next = absurd (not_behind u h)

find_ahead : (k a b lo hi : ℕ) (t : List ℕ) → a < b → b < k → lo < hi → hi < k → UpTo a b lo hi →
    find (is_from lo hi) (cells_from k a b t) ≡ find (is_from lo hi) (cells_from k lo hi (drop (place_of k lo hi - place_of k a b) t))
find_ahead k a b lo hi [] o w p q u =
    ap (λ l. find (is_from lo hi) (cells_from k lo hi l)) (sym (drop-nil (place_of k lo hi - place_of k a b)))
find_ahead k a b lo hi (n ∷ ns) o w p q u =
    find_by_order k a b lo hi n ns o w p q u (order a b lo hi)
    (λ h. find_ahead k (next_lo k a b) (next_hi k a b) lo hi ns (next_ordered k a b o) (next_fits k a b lo hi o w p q h) p q
    (next_up_to k a b lo hi o p q h))

-- the walk may start at the place of the pair that is asked for
pub find_is : (k lo hi : ℕ) (t : List ℕ) → lo < hi → hi < k →
    find (is_from lo hi) (cells_from k 0 1 t) ≡ find (is_from lo hi) (cells_from k lo hi (drop (place_of k lo hi) t))
find_is k lo hi t p q =
    let w : 1 < k = omega arith in
    let e : place_of k lo hi - place_of k 0 1 ≡ place_of k lo hi = omega arith in
    find_ahead k 0 1 lo hi t (omega arith) w p q (first_up_to lo hi p) ∙ ap (λ i. find (is_from lo hi) (cells_from k lo hi (drop i t))) e

-- a place that holds nothing is passed
pub find_passes : (k lo hi i a b : ℕ) (t : List ℕ) → i < length t → get_or t i 0 ≡ 0 →
    find (is_from a b) (cells_from k lo hi (drop i t)) ≡ find (is_from a b)
    (cells_from k (next_lo k lo hi) (next_hi k lo hi) (drop (i + 1) t))
find_passes k lo hi i a b t w e =
    ap (λ l. find (is_from a b) (cells_from k lo hi l)) (drop_more t i 0 w)
    ∙ ap (λ n. find (is_from a b) (cells_from k lo hi (n ∷ drop (i + 1) t))) e

-- the sum of the cells is that of the table
pub total_is : (k a b : ℕ) (t : List ℕ) → total_of (cells_from k a b t) ≡ sum t
total_is k a b [] = refl
total_is k a b (zero ∷ ns) = total_is k (next_lo k a b) (next_hi k a b) ns
total_is k a b (suc n ∷ ns) =
    sum_by-cons (λ c. c.n) (record { lo = a; hi = b; n = suc n }) (cells_from k (next_lo k a b) (next_hi k a b) ns)
    ∙ ap (λ s. suc n + s) (total_is k (next_lo k a b) (next_hi k a b) ns)
    ∙ sym (sum_by-cons (λ x. x) (suc n) ns)

-- a cell for each place that holds something
pub cells_filled : (k a b : ℕ) (t : List ℕ) → length (cells_from k a b t) ≡ places_filled t
cells_filled k a b [] = refl
cells_filled k a b (zero ∷ ns) = cells_filled k (next_lo k a b) (next_hi k a b) ns
cells_filled k a b (suc n ∷ ns) = ap suc (cells_filled k (next_lo k a b) (next_hi k a b) ns)

-- a table of zeros has no cell
pub cells_empty : (k a b : ℕ) (t : List ℕ) → ((p : ℕ) → get_or t p 0 ≡ 0) → cells_from k a b t ≡ []
cells_empty k a b [] h = refl
cells_empty k a b (zero ∷ ns) h = cells_empty k (next_lo k a b) (next_hi k a b) ns (λ p. h (suc p))
cells_empty k a b (suc n ∷ ns) h = absurd (let e = h 0 in omega arith)

-- the walk stays within the classes while the table has places
short : (k a b n : ℕ) (ns : List ℕ) → a < b → b < k → place_of k a b + length (n ∷ ns) ≤ row_start k k →
    ((next_hi k a b < k) ⊎ (place_of k a b + 1 ≡ row_start k k)) → (next_hi k a b < k) ⊎ (length ns ≡ 0)
short k a b n ns o w h (inl g) = inl g
short k a b n ns o w h (inr g) = inr (omega arith)

module _ (k : ℕ) where
  each_by : (a b n : ℕ) (ns : List ℕ) → a < b → b < k → All (IsCell k) (cells_from k (next_lo k a b) (next_hi k a b) ns) →
      All (IsCell k) (cells_from k a b (n ∷ ns))
  each_by a b zero ns o w next = next
  each_by a b (suc n) ns o w next = All-cons (IsCell k) _ _ (record { ordered = o; within = w; positive = omega arith }) next

  pub each_cell : (a b : ℕ) (t : List ℕ) → a < b → ((b < k) ⊎ (length t ≡ 0)) → place_of k a b + length t ≤ row_start k k →
      All (IsCell k) (cells_from k a b t)
  each_cell a b [] o w h = λ i d g. absurd (omega arith)
  each_cell a b (n ∷ ns) o (inr w) h = absurd (omega arith)
  each_cell a b (n ∷ ns) o (inl w) h =
      let e = next_place k a b o w in
      each_by a b n ns o w
      (each_cell (next_lo k a b) (next_hi k a b) ns (next_ordered k a b o) (short k a b n ns o w h (next_within k a b o w))
      (omega arith))

  all_later : (lo hi a b : ℕ) (t : List ℕ) → Before lo hi a b → All (λ d. Before lo hi d.lo d.hi) (cells_from k a b t)
  all_later lo hi a b [] h = λ i d g. absurd (omega arith)
  all_later lo hi a b (zero ∷ ns) h = all_later lo hi (next_lo k a b) (next_hi k a b) ns (before_next k a b lo hi h)
  all_later lo hi a b (suc n ∷ ns) h =
      All-cons (λ d. Before lo hi d.lo d.hi) _ _ h (all_later lo hi (next_lo k a b) (next_hi k a b) ns (before_next k a b lo hi h))

  pub ascending : (a b : ℕ) (t : List ℕ) → IsAscending (cells_from k a b t)
  ascending a b [] = λ i j d g h. absurd (omega arith)
  ascending a b (zero ∷ ns) = ascending (next_lo k a b) (next_hi k a b) ns
  ascending a b (suc n ∷ ns) =
      AllPairs-cons (λ c d. Before c.lo c.hi d.lo d.hi) _ _ (all_later a b (next_lo k a b) (next_hi k a b) ns (next_behind k a b))
      (ascending (next_lo k a b) (next_hi k a b) ns)

-- no cell is at what is no pair of the classes
pub count_outside : (k lo hi : ℕ) (cells : List Cell) → All (IsCell k) cells → ((lo < hi) → (hi < k) → ⊥) → count_of cells lo hi ≡ 0
count_outside k lo hi [] a n = refl
count_outside k lo hi (c ∷ cells) a n =
    count_other c cells lo hi (outside k lo hi c (All-head (IsCell k) c cells a) n)
    ∙ count_outside k lo hi cells (All-tail (IsCell k) c cells a) n
