-- Ascending lists of cells: where a pair stands in one, and how many cells there can be.
use Rattle.std.proofs.Common.{◌≡◌, ℕ, zero, suc, ◌+◌, ◌<◌, ◌≤◌, ◌⊎◌, inl, inr, List, [], ◌∷◌, length, get_or, refl, sym, ◌∙◌, subst, arith}
use Rattle.std.specs.Prelude.{Some, None, All, find}
use Rattle.std.proofs.lemmas.Bool.{cases_lt}
use Rattle.std.proofs.lemmas.List.Elements.{All-cons, All-head, All-tail}
use Rattle.tally.specs.declared.cells.Cell.{Cell}
use Rattle.tally.specs.Counts.{is_from, count_of, Before, IsAscending, IsCell, IsCounts, Counts, most_cells, HasPlace}
use Rattle.tally.specs.Layout.{row_start, place_of}
use Rattle.tally.proofs.Places.{UpTo, Order, same, before, behind, order, place_within, places_ascend, places_is}
use Rattle.tally.proofs.Walk.{count_here, count_other, from_here, from_later}
use Rattle.tally.proofs.RowTables.{one_of, one_same, one_other}
use Rattle.tally.proofs.Equal.{ascending_head, ascending_tail, cell_of}

-- the cell is not that of the pair
abbrev pub Differs : ℕ → ℕ → Cell → Type 0
Differs lo hi c = (c.lo ≡ lo) × (c.hi ≡ hi) → ⊥

-- so many cells stand before the pair, and the others do not
pub record Stands (lo hi : ℕ) (cells : List Cell) (at : ℕ) : Type 0 where
  pub bound : at ≤ length cells
  pub before : (k : ℕ) (d : Cell) → k < at → Before (get_or cells k d).lo (get_or cells k d).hi lo hi
  pub from : (k : ℕ) (d : Cell) → at ≤ k → k < length cells → UpTo lo hi (get_or cells k d).lo (get_or cells k d).hi

stands_tail : (lo hi : ℕ) (c : Cell) (cells : List Cell) (at : ℕ) → Stands lo hi (c ∷ cells) (suc at) → Stands lo hi cells at
stands_tail lo hi c cells at s = record {
  bound = let h = s.bound in omega arith;
  before = λ k d h. s.before (suc k) d (omega arith);
  from = λ k d g h. s.from (suc k) d (omega arith) (omega arith);
}

-- the first cell at or after the pair
pub find_at : (lo hi : ℕ) (cells : List Cell) (at : ℕ) (d : Cell) → Stands lo hi cells at → at < length cells →
    find (is_from lo hi) cells ≡ Some (get_or cells at d)
find_at lo hi [] at d s h = absurd (omega arith)
find_at lo hi (c ∷ cells) zero d s h = from_here lo hi c cells (s.from 0 d (omega arith) (omega arith))
find_at lo hi (c ∷ cells) (suc at) d s h =
    from_later lo hi c cells (s.before 0 d (omega arith)) ∙ find_at lo hi cells at d (stands_tail lo hi c cells at s) (omega arith)

pub find_end : (lo hi : ℕ) (cells : List Cell) (at : ℕ) (d : Cell) → Stands lo hi cells at → length cells ≤ at →
    find (is_from lo hi) cells ≡ None
find_end lo hi [] at d s h = refl
find_end lo hi (c ∷ cells) zero d s h = absurd (omega arith)
find_end lo hi (c ∷ cells) (suc at) d s h =
    from_later lo hi c cells (s.before 0 d (omega arith)) ∙ find_end lo hi cells at d (stands_tail lo hi c cells at s) (omega arith)

pub count_none : (lo hi : ℕ) (cells : List Cell) → All (Differs lo hi) cells → count_of cells lo hi ≡ 0
count_none lo hi [] a = refl
count_none lo hi (c ∷ cells) a =
    count_other c cells lo hi (All-head (Differs lo hi) c cells a) ∙ count_none lo hi cells (All-tail (Differs lo hi) c cells a)

module _ (lo hi n a b : ℕ) where
  pub put_first : (cells : List Cell) → All (Differs lo hi) cells → ((lo ≡ a) × (hi ≡ b)) ⊎ ((lo ≡ a) × (hi ≡ b) → ⊥) →
      count_of (cell_of lo hi n ∷ cells) a b ≡ count_of cells a b + one_of a b lo hi n
  put_first cells d (inl e) =
      let p = count_none lo hi cells d in
      let q : count_of cells a b ≡ 0 = subst (λ x. count_of cells x b ≡ 0) e.0 (subst (λ x. count_of cells lo x ≡ 0) e.1 p) in
      omega (arith, count_here (cell_of lo hi n) cells a b e.0 e.1, q, one_same a b lo hi n (sym e.0) (sym e.1))
  put_first cells d (inr e) =
      omega (arith, count_other (cell_of lo hi n) cells a b e, one_other a b lo hi n (λ g. e (sym g.0, sym g.1)))

  pub put_later : (c : Cell) (cells more : List Cell) → Differs lo hi c → ((c.lo ≡ a) × (c.hi ≡ b)) ⊎ ((c.lo ≡ a) × (c.hi ≡ b) → ⊥) →
      count_of more a b ≡ count_of cells a b + one_of a b lo hi n → count_of (c ∷ more) a b ≡ count_of (c ∷ cells) a b + one_of a b lo hi n
  put_later c cells more d (inl e) next =
      omega (arith, count_here c more a b e.0 e.1, count_here c cells a b e.0 e.1, one_other a b lo hi n (λ g. d (e.0 ∙ g.0, e.1 ∙ g.1)))
  put_later c cells more d (inr e) next = omega (arith, count_other c more a b e, count_other c cells a b e, next)

  pub raise_first : (c : Cell) (cells : List Cell) → c.lo ≡ lo → c.hi ≡ hi → ((c.lo ≡ a) × (c.hi ≡ b)) ⊎ ((c.lo ≡ a) × (c.hi ≡ b) → ⊥) →
      count_of (cell_of c.lo c.hi (c.n + n) ∷ cells) a b ≡ count_of (c ∷ cells) a b + one_of a b lo hi n
  raise_first c cells e f (inl g) =
      omega (
        arith,
        count_here (cell_of c.lo c.hi (c.n + n)) cells a b g.0 g.1,
        count_here c cells a b g.0 g.1,
        one_same a b lo hi n
            (sym g.0 ∙ e) (sym g.1 ∙ f),
      )
  raise_first c cells e f (inr g) =
      omega (
        arith,
        count_other (cell_of c.lo c.hi (c.n + n)) cells a b g,
        count_other c cells a b g,
        one_other a b lo hi n
            (λ h. g (e ∙ sym h.0, f ∙ sym h.1)),
      )

-- how many cells there can be
module _ (k : ℕ) where
  pub cells_fit : (cells : List Cell) (from : ℕ) → IsAscending cells → All (IsCell k) cells → from ≤ row_start k k →
      All (λ c. from ≤ place_of k c.lo c.hi) cells → from + length cells ≤ row_start k k
  cells_fit [] from a e f h = omega arith
  cells_fit (c ∷ cells) from a e f h =
      let v = All-head (IsCell k) c cells e in
      let p = place_within k c.lo c.hi v.ordered v.within in
      let l = All-head (λ c. from ≤ place_of k c.lo c.hi) c cells h in
      let n = cells_fit cells (place_of k c.lo c.hi + 1) (ascending_tail c cells a) (All-tail (IsCell k) c cells e) (omega (arith, p))
      (λ i d w. let q = places_ascend k _ _ _ _ v.ordered v.within (e (suc i) d (omega arith)).ordered (ascending_head c cells a i d w) in
      omega (arith, q)) in
      omega (arith, n, l)

  miss_by : (lo hi : ℕ) (c : Cell) (cells : List Cell) (from : ℕ) → lo < hi → hi < k → IsAscending (c ∷ cells) →
      All (IsCell k) (c ∷ cells) → Differs lo hi c →
      from ≤ place_of k lo hi → All (λ c. from ≤ place_of k c.lo c.hi) (c ∷ cells) →
      (place_of k c.lo c.hi + 1 ≤ place_of k lo hi → place_of k c.lo c.hi + 1 + length cells + 1 ≤ row_start k k) →
      Order c.lo c.hi lo hi → from + length (c ∷ cells) + 1 ≤ row_start k k
  miss_by lo hi c cells from o w a e d f h next (same p q) = absurd (d (p, q))
  miss_by lo hi c cells from o w a e d f h next (before g) =
      let v = All-head (IsCell k) c cells e in
      let l = All-head (λ c. from ≤ place_of k c.lo c.hi) c cells h in
      let q = places_ascend k c.lo c.hi lo hi v.ordered v.within o g in
      omega (arith, next (omega (arith, q)), l)
  miss_by lo hi c cells from o w a e d f h next (behind g) =
      let v = All-head (IsCell k) c cells e in
      let q = places_ascend k lo hi c.lo c.hi o w v.ordered g in
      let n = cells_fit (c ∷ cells) (place_of k lo hi + 1) a e (omega (arith, place_within k lo hi o w))
      (All-cons (λ c. place_of k lo hi + 1 ≤ place_of k c.lo c.hi) c cells (omega (arith, q))
      (λ i d w. let r = places_ascend k _ _ _ _ v.ordered v.within (e (suc i) d (omega arith)).ordered (ascending_head c cells a i d w) in
      omega (arith, r, q))) in
      omega (arith, n)

  pub cells_miss : (lo hi : ℕ) (cells : List Cell) (from : ℕ) → lo < hi → hi < k → IsAscending cells → All (IsCell k) cells →
      All (Differs lo hi) cells →
      from ≤ place_of k lo hi → All (λ c. from ≤ place_of k c.lo c.hi) cells → from + length cells + 1 ≤ row_start k k
  cells_miss lo hi [] from o w a e d f h = omega (arith, place_within k lo hi o w)
  cells_miss lo hi (c ∷ cells) from o w a e d f h =
      let v = All-head (IsCell k) c cells e in
      miss_by lo hi c cells from o w a e (All-head (Differs lo hi) c cells d) f h
      (λ g. cells_miss lo hi cells (place_of k c.lo c.hi + 1) o w (ascending_tail c cells a) (All-tail (IsCell k) c cells e)
      (All-tail (Differs lo hi) c cells d) g
      (λ i d w. let q = places_ascend k _ _ _ _ v.ordered v.within (e (suc i) d (omega arith)).ordered (ascending_head c cells a i d w) in
      omega (arith, q)))
      (order c.lo c.hi lo hi)

  none_by : (lo hi : ℕ) (c : Cell) (cells : List Cell) → IsCell k c → count_of (c ∷ cells) lo hi ≡ 0 → Differs lo hi c
  none_by lo hi c cells v e g = let f = count_here c cells lo hi g.0 g.1 in let h = v.positive in omega arith

  pub none_there : (lo hi : ℕ) (cells : List Cell) → All (IsCell k) cells → count_of cells lo hi ≡ 0 → All (Differs lo hi) cells
  none_there lo hi [] a e = λ i d h. absurd (omega arith)
  none_there lo hi (c ∷ cells) a e =
      let n = none_by lo hi c cells (All-head (IsCell k) c cells a) e in
      All-cons (Differs lo hi) c cells n (none_there lo hi cells (All-tail (IsCell k) c cells a) (sym (count_other c cells lo hi n) ∙ e))

place_by : (t : Counts) (lo hi : ℕ) → IsCounts t → lo < hi → hi < t.classes → t.room ≡ most_cells t.classes →
    ((0 < count_of t.cells lo hi) ⊎ (count_of t.cells lo hi ≤ 0)) → (0 < count_of t.cells lo hi) ⊎ (length t.cells < t.room)
place_by t lo hi g o w e (inl h) = inl h
place_by t lo hi g o w e (inr h) =
    let d = none_there t.classes lo hi t.cells g.each (omega arith) in
    let n = cells_miss t.classes lo hi t.cells 0 o w g.ascending g.each d (omega arith) (λ i d h. omega arith) in
    inr (omega (arith, n, e, places_is t.classes (omega (arith, g.few))))

-- in the greatest room a pair that has no cell finds room for one
pub place_of_pair : (t : Counts) (lo hi n : ℕ) → IsCounts t → lo < hi → hi < t.classes → HasPlace t lo hi n →
    (n ≡ 0) ⊎ ((0 < count_of t.cells lo hi) ⊎ (length t.cells < t.room))
place_of_pair t lo hi n g o w (inl h) = inl h
place_of_pair t lo hi n g o w (inr (inl h)) = inr (inl h)
place_of_pair t lo hi n g o w (inr (inr (inl h))) = inr (inr h)
place_of_pair t lo hi n g o w (inr (inr (inr h))) = inr (place_by t lo hi g o w h (cases_lt 0 (count_of t.cells lo hi)))
