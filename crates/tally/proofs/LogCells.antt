-- What the entries of a log come to: a cell put into an ascending list, and all of them put in.
use Rattle.std.proofs.Common.{◌≡◌, ℕ, ◌+◌, ◌<◌, ◌≤◌, ◌⊎◌, inl, inr, List, [], ◌∷◌, ◌++◌, length, get_or, take, refl, sym, ap, ◌∙◌, subst, arith}
use Rattle.std.specs.Prelude.{Some, None, All, Option, find}
use Rattle.std.specs.List.Sorted.{IsPermutation}
use Rattle.std.proofs.lemmas.Bool.{cases_lt}
use Rattle.std.proofs.lemmas.Bool.Decides.{nat_tests}
use Rattle.std.proofs.lemmas.List.Sums.{sum_by-cons, sum_by-append, sum_by_push, sum_by-le-sum_by}
use Rattle.std.proofs.lemmas.List.Sorted.{All-permutation, sum_by-IsPermutation}
use Rattle.std.proofs.lemmas.List.{take_more}
use Rattle.std.proofs.lemmas.List.Elements.{All-cons, All-head, All-tail, All-push, All-append, All-take}
use Rattle.std.proofs.lemmas.List.Kept.{AllPairs-cons}
use Rattle.tally.specs.declared.cells.TheConstants.{MAX_TOTAL}
use Rattle.tally.specs.declared.cells.Cell.{Cell}
use Rattle.tally.specs.Counts.{is_from, count_of, total_of, Before, IsAscending, IsCell, IsCounts}
use Rattle.tally.specs.Log.{with_more, with_cell, cells_of, amount, first_of, first_with, IsLog}
use Rattle.tally.proofs.Places.{UpTo, Order, same, before, behind, order}
use Rattle.tally.proofs.Walk.{count_here, count_other, before_differs, behind_differs, from_here, from_later}
use Rattle.lemmas.proofs.Naturals.{same_or_not}
use Rattle.lemmas.proofs.Outcomes.{same_some}
use Rattle.tally.proofs.RowTables.{one_of}
use Rattle.tally.proofs.Equal.{ascending_head, ascending_tail, before_all, count_before, same_cells}
use Rattle.tally.proofs.Ascending.{Differs, put_first, put_later, raise_first}

-- where a cell goes in
with_cell-same : (x c : Cell) (cells : List Cell) → c.lo ≡ x.lo → c.hi ≡ x.hi → with_cell x (c ∷ cells) ≡ with_more c x.n ∷ cells
with_cell-same x c cells e f = grind (arith, nat_tests)

with_cell-behind : (x c : Cell) (cells : List Cell) → Before c.lo c.hi x.lo x.hi → with_cell x (c ∷ cells) ≡ c ∷ with_cell x cells
with_cell-behind x c cells h = grind (arith, nat_tests)

with_cell-before : (x c : Cell) (cells : List Cell) → Before x.lo x.hi c.lo c.hi → with_cell x (c ∷ cells) ≡ x ∷ c ∷ cells
with_cell-before x c cells h = grind (arith, nat_tests)

abbrev After : Cell → Cell → Type 0
After c d = Before c.lo c.hi d.lo d.hi

all_after : (x c : Cell) (cells : List Cell) → After x c → IsAscending (c ∷ cells) → All (After x) (c ∷ cells)
all_after x c cells h a = All-cons (After x) c cells h (before_all h cells (ascending_head c cells a))

all_differ : (x : Cell) (cells : List Cell) → All (After x) cells → All (Differs x.lo x.hi) cells
all_differ x cells a = λ k d h. before_differs (a k d h)

-- a predicate on all cells, with one with_cell in
module _ (P : Cell → Type 0) (x : Cell) (p : P x) (up : (c : Cell) → P c → P (with_more c x.n)) where
  all_with_by : (c : Cell) (cells : List Cell) → All P (c ∷ cells) → All P (with_cell x cells) → Order c.lo c.hi x.lo x.hi →
      All P (with_cell x (c ∷ cells))
  all_with_by c cells a next (same e f) =
      subst (All P) (sym (with_cell-same x c cells e f))
      (All-cons P (with_more c x.n) cells (up c (All-head P c cells a)) (All-tail P c cells a))
  all_with_by c cells a next (before h) =
      subst (All P) (sym (with_cell-behind x c cells h)) (All-cons P c (with_cell x cells) (All-head P c cells a) next)
  all_with_by c cells a next (behind h) = subst (All P) (sym (with_cell-before x c cells h)) (All-cons P x (c ∷ cells) p a)

  pub all-with_cell : (cells : List Cell) → All P cells → All P (with_cell x cells)
  all-with_cell [] a = All-cons P x [] p a
  all-with_cell (c ∷ cells) a = all_with_by c cells a (all-with_cell cells (All-tail P c cells a)) (order c.lo c.hi x.lo x.hi)

module _ (x : Cell) where
  ascending_by : (c : Cell) (cells : List Cell) → IsAscending (c ∷ cells) → IsAscending (with_cell x cells) → Order c.lo c.hi x.lo x.hi →
      IsAscending (with_cell x (c ∷ cells))
  ascending_by c cells a next (same e f) =
      subst IsAscending (sym (with_cell-same x c cells e f))
      (AllPairs-cons After (with_more c x.n) cells (ascending_head c cells a) (ascending_tail c cells a))
  ascending_by c cells a next (before h) =
      subst IsAscending (sym (with_cell-behind x c cells h))
      (AllPairs-cons After c (with_cell x cells) (all-with_cell (After c) x h (λ d g. g) cells (ascending_head c cells a)) next)
  ascending_by c cells a next (behind h) =
      subst IsAscending (sym (with_cell-before x c cells h)) (AllPairs-cons After x (c ∷ cells) (all_after x c cells h a) a)

  pub ascending-with_cell : (cells : List Cell) → IsAscending cells → IsAscending (with_cell x cells)
  ascending-with_cell [] a = AllPairs-cons After x [] (λ k d h. absurd (omega arith)) a
  ascending-with_cell (c ∷ cells) a =
      ascending_by c cells a (ascending-with_cell cells (ascending_tail c cells a)) (order c.lo c.hi x.lo x.hi)

  count_by : (c : Cell) (cells : List Cell) (a b : ℕ) → IsAscending (c ∷ cells) →
      count_of (with_cell x cells) a b ≡ count_of cells a b + one_of a b x.lo x.hi x.n →
      Order c.lo c.hi x.lo x.hi → count_of (with_cell x (c ∷ cells)) a b ≡ count_of (c ∷ cells) a b + one_of a b x.lo x.hi x.n
  count_by c cells a b g next (same e f) =
      ap (λ l. count_of l a b) (with_cell-same x c cells e f) ∙ raise_first x.lo x.hi x.n a b c cells e f (same_or_not c.lo c.hi a b)
  count_by c cells a b g next (before h) =
      ap (λ l. count_of l a b) (with_cell-behind x c cells h)
      ∙ put_later x.lo x.hi x.n a b c cells (with_cell x cells) (behind_differs h) (same_or_not c.lo c.hi a b) next
  count_by c cells a b g next (behind h) =
      ap (λ l. count_of l a b) (with_cell-before x c cells h)
      ∙ put_first x.lo x.hi x.n a b (c ∷ cells) (all_differ x (c ∷ cells) (all_after x c cells h g)) (same_or_not x.lo x.hi a b)

  -- one cell with_cell in is counted
  pub count_of-with_cell : (cells : List Cell) (a b : ℕ) → IsAscending cells →
      count_of (with_cell x cells) a b ≡ count_of cells a b + one_of a b x.lo x.hi x.n
  count_of-with_cell [] a b g = put_first x.lo x.hi x.n a b [] (λ k d h. absurd (omega arith)) (same_or_not x.lo x.hi a b)
  count_of-with_cell (c ∷ cells) a b g =
      count_by c cells a b g (count_of-with_cell cells a b (ascending_tail c cells g)) (order c.lo c.hi x.lo x.hi)

  total_by : (c : Cell) (cells : List Cell) → total_of (with_cell x cells) ≡ total_of cells + x.n → Order c.lo c.hi x.lo x.hi →
      total_of (with_cell x (c ∷ cells)) ≡ total_of (c ∷ cells) + x.n
  total_by c cells next (same e f) =
      omega (
        arith,
        ap total_of (with_cell-same x c cells e f),
        sum_by-cons (λ c. c.n) (with_more c x.n) cells,
        sum_by-cons
            (λ c. c.n) c cells,
      )
  total_by c cells next (before h) =
      omega (
        arith,
        ap total_of (with_cell-behind x c cells h),
        next,
        sum_by-cons (λ c. c.n) c (with_cell x cells),
        sum_by-cons
            (λ c. c.n) c cells,
      )
  total_by c cells next (behind h) = omega (arith, ap total_of (with_cell-before x c cells h), sum_by-cons (λ c. c.n) x (c ∷ cells))

  pub total_of-with_cell : (cells : List Cell) → total_of (with_cell x cells) ≡ total_of cells + x.n
  total_of-with_cell [] = omega (arith, sum_by-cons (λ c. c.n) x [])
  total_of-with_cell (c ∷ cells) = total_by c cells (total_of-with_cell cells) (order c.lo c.hi x.lo x.hi)

  length_by : (c : Cell) (cells : List Cell) →
      (length cells ≤ length (with_cell x cells)) × (length (with_cell x cells) ≤ length cells + 1) → Order c.lo c.hi x.lo x.hi →
      (length (c ∷ cells) ≤ length (with_cell x (c ∷ cells))) × (length (with_cell x (c ∷ cells)) ≤ length (c ∷ cells) + 1)
  length_by c cells next (same e f) = let q = ap length (with_cell-same x c cells e f) in (omega (arith, q), omega (arith, q))
  length_by c cells next (before h) =
      let q = ap length (with_cell-behind x c cells h) in (omega (arith, q, next.0), omega (arith, q, next.1))
  length_by c cells next (behind h) = let q = ap length (with_cell-before x c cells h) in (omega (arith, q), omega (arith, q))

  pub length-with_cell : (cells : List Cell) → (length cells ≤ length (with_cell x cells)) × (length (with_cell x cells) ≤ length cells + 1)
  length-with_cell [] = (omega arith, omega arith)
  length-with_cell (c ∷ cells) = length_by c cells (length-with_cell cells) (order c.lo c.hi x.lo x.hi)

  there_by : (c : Cell) (cells : List Cell) → IsAscending (c ∷ cells) → 0 < count_of (c ∷ cells) x.lo x.hi →
      (0 < count_of cells x.lo x.hi → length (with_cell x cells) ≡ length cells) → Order c.lo c.hi x.lo x.hi →
      length (with_cell x (c ∷ cells)) ≡ length (c ∷ cells)
  there_by c cells a h next (same e f) = ap length (with_cell-same x c cells e f)
  there_by c cells a h next (before g) =
      let n = next (omega (arith, count_other c cells x.lo x.hi (behind_differs g))) in
      omega (arith, ap length (with_cell-behind x c cells g), n)
  there_by c cells a h next (behind g) = absurd (omega (arith, count_before x.lo x.hi (c ∷ cells) (all_after x c cells g a)))

  -- a pair that has a cell keeps it
  pub length_there : (cells : List Cell) → IsAscending cells → 0 < count_of cells x.lo x.hi → length (with_cell x cells) ≡ length cells
  length_there [] a h = absurd (omega arith)
  length_there (c ∷ cells) a h = there_by c cells a h (length_there cells (ascending_tail c cells a)) (order c.lo c.hi x.lo x.hi)

  absent_by : (c : Cell) (cells : List Cell) → 0 < c.n → count_of (c ∷ cells) x.lo x.hi ≡ 0 →
      (count_of cells x.lo x.hi ≡ 0 → length (with_cell x cells) ≡ length cells + 1) → Order c.lo c.hi x.lo x.hi →
      length (with_cell x (c ∷ cells)) ≡ length (c ∷ cells) + 1
  absent_by c cells p h next (same e f) = absurd (omega (arith, count_here c cells x.lo x.hi e f))
  absent_by c cells p h next (before g) =
      let n = next (omega (arith, count_other c cells x.lo x.hi (behind_differs g))) in
      omega (arith, ap length (with_cell-behind x c cells g), n)
  absent_by c cells p h next (behind g) = omega (arith, ap length (with_cell-before x c cells g))

  -- a pair that has none gets one
  pub length_absent : (cells : List Cell) → All (λ c. 0 < c.n) cells → count_of cells x.lo x.hi ≡ 0 →
      length (with_cell x cells) ≡ length cells + 1
  length_absent [] a h = refl
  length_absent (c ∷ cells) a h =
      absent_by c cells (All-head (λ c. 0 < c.n) c cells a) h (length_absent cells (All-tail (λ c. 0 < c.n) c cells a))
      (order c.lo c.hi x.lo x.hi)

  -- behind all, and onto the last
  pub with_cell-end : (cells : List Cell) → All (λ c. After c x) cells → with_cell x cells ≡ cells ++ x ∷ []
  with_cell-end [] a = refl
  with_cell-end (c ∷ cells) a =
      with_cell-behind x c cells (All-head (λ c. After c x) c cells a)
      ∙ ap (λ l. c ∷ l) (with_cell-end cells (All-tail (λ c. After c x) c cells a))

  pub with_cell-last : (cells : List Cell) (c : Cell) → All (λ c. After c x) cells → c.lo ≡ x.lo → c.hi ≡ x.hi →
      with_cell x (cells ++ c ∷ []) ≡ cells ++ with_more c x.n ∷ []
  with_cell-last [] c a e f = with_cell-same x c [] e f
  with_cell-last (d ∷ cells) c a e f =
      with_cell-behind x d (cells ++ c ∷ []) (All-head (λ c. After c x) d cells a)
      ∙ ap (λ l. d ∷ l) (with_cell-last cells c (All-tail (λ c. After c x) d cells a) e f)

-- all entries
more_positive : (k m : ℕ) (c : Cell) → IsCell k c → IsCell k (with_more c m)
more_positive k m c g = let f = g.positive in record { ordered = g.ordered; within = g.within; positive = omega arith }

-- a predicate on the pairs of all entries
pub all-cells_of : (P : Cell → Type 0) → ((c : Cell) (m : ℕ) → P c → P (with_more c m)) → (entries : List Cell) → All P entries →
    All P (cells_of entries)
all-cells_of P up [] a = a
all-cells_of P up (x ∷ entries) a =
    all-with_cell P x (All-head P x entries a) (λ c h. up c x.n h) (cells_of entries) (all-cells_of P up entries (All-tail P x entries a))

pub ascending-cells_of : (entries : List Cell) → IsAscending (cells_of entries)
ascending-cells_of [] = λ i j d g h. absurd (omega arith)
ascending-cells_of (x ∷ entries) = ascending-with_cell x (cells_of entries) (ascending-cells_of entries)

abbrev pub amount_in : ℕ → ℕ → Cell → ℕ
amount_in a b c = one_of a b c.lo c.hi c.n

pub count_of-cells_of : (entries : List Cell) (a b : ℕ) → count_of (cells_of entries) a b ≡ amount entries a b
count_of-cells_of [] a b = refl
count_of-cells_of (x ∷ entries) a b =
    omega (
      arith,
      count_of-with_cell x (cells_of entries) a b (ascending-cells_of entries),
      count_of-cells_of entries a b,
      sum_by-cons
          (amount_in a b) x entries,
    )

pub total_of-cells_of : (entries : List Cell) → total_of (cells_of entries) ≡ total_of entries
total_of-cells_of [] = refl
total_of-cells_of (x ∷ entries) =
    omega (arith, total_of-with_cell x (cells_of entries), total_of-cells_of entries, sum_by-cons (λ c. c.n) x entries)

pub length-cells_of : (entries : List Cell) → length (cells_of entries) ≤ length entries
length-cells_of [] = omega arith
length-cells_of (x ∷ entries) = let p = length-with_cell x (cells_of entries) in omega (arith, p.1, length-cells_of entries)

pub each-cells_of : (k : ℕ) (entries : List Cell) → All (IsCell k) entries → All (IsCell k) (cells_of entries)
each-cells_of k entries a = all-cells_of (IsCell k) (λ c m h. more_positive k m c h) entries a

-- the order of entries is nothing
pub cells_of-same : (k : ℕ) (s t : List Cell) → All (IsCell k) s → All (IsCell k) t → ((a b : ℕ) → amount s a b ≡ amount t a b) →
    cells_of s ≡ cells_of t
cells_of-same k s t g h e =
    same_cells k (cells_of s) (cells_of t) (each-cells_of k s g) (each-cells_of k t h) (ascending-cells_of s) (ascending-cells_of t)
    (λ a b. count_of-cells_of s a b ∙ e a b ∙ sym (count_of-cells_of t a b))

pub cells_of-permutation : (k : ℕ) (s t : List Cell) → All (IsCell k) s → IsPermutation s t → cells_of t ≡ cells_of s
cells_of-permutation k s t g p =
    cells_of-same k t s (All-permutation (IsCell k) s t p g) g (λ a b. sum_by-IsPermutation (amount_in a b) s t p)

pub cells_of-push : (k : ℕ) (entries : List Cell) (x : Cell) → All (IsCell k) entries → IsCell k x →
    cells_of (entries ++ x ∷ []) ≡ with_cell x (cells_of entries)
cells_of-push k entries x a p =
    cells_of-same k (entries ++ x ∷ []) (x ∷ entries) (All-push (IsCell k) entries x a p) (All-cons (IsCell k) x entries p a)
    (λ a b. omega (arith, sum_by_push (amount_in a b) entries x, sum_by-cons (amount_in a b) x entries))

pub cells_of-more : (k : ℕ) (entries : List Cell) (i : ℕ) (d : Cell) → All (IsCell k) entries → i < length entries →
    cells_of (take (i + 1) entries) ≡ with_cell (get_or entries i d) (cells_of (take i entries))
cells_of-more k entries i d a h =
    ap cells_of (take_more entries i d h)
    ∙ cells_of-push k (take i entries) (get_or entries i d) (All-take (IsCell k) i entries a) (a i d h)

cells_of-first : (c : Cell) (cells : List Cell) → IsAscending (c ∷ cells) → with_cell c cells ≡ c ∷ cells
cells_of-first c [] a = refl
cells_of-first c (d ∷ cells) a = with_cell-before c d cells (All-head (After c) d cells (ascending_head c (d ∷ cells) a))

-- an ascending list comes to itself
pub cells_of-ascending : (cells : List Cell) → IsAscending cells → cells_of cells ≡ cells
cells_of-ascending [] a = refl
cells_of-ascending (c ∷ cells) a = ap (with_cell c) (cells_of-ascending cells (ascending_tail c cells a)) ∙ cells_of-first c cells a

-- an addition that a contract states, as a cell with_cell in
pub with_cell-from_counts : (k : ℕ) (s r : List Cell) (x : Cell) → All (IsCell k) s → All (IsCell k) r → IsAscending s → IsAscending r →
    IsCell k x →
    ((a b : ℕ) → count_of r a b ≡ count_of s a b + one_of a b x.lo x.hi x.n) → r ≡ with_cell x s
with_cell-from_counts k s r x g h a b p e =
    same_cells k r (with_cell x s) h (all-with_cell (IsCell k) x p (λ c. more_positive k x.n c) s g) b (ascending-with_cell x s a)
    (λ i j. e i j ∙ sym (count_of-with_cell x s i j a))

-- two parts of a log
module _ (k : ℕ) where
  parts_by : (x : Cell) (xs ys : List Cell) → All (IsCell k) xs →
      length (cells_of (xs ++ ys)) ≤ length (cells_of xs) + length (cells_of ys) →
      ((0 < amount xs x.lo x.hi) ⊎ (amount xs x.lo x.hi ≤ 0)) →
      length (with_cell x (cells_of (xs ++ ys))) ≤ length (with_cell x (cells_of xs)) + length (cells_of ys)
  parts_by x xs ys a next (inl h) =
      let p = length_there x (cells_of xs) (ascending-cells_of xs) (omega (arith, count_of-cells_of xs x.lo x.hi)) in
      let q = length_there x (cells_of (xs ++ ys)) (ascending-cells_of (xs ++ ys))
      (omega (arith, count_of-cells_of (xs ++ ys) x.lo x.hi, sum_by-append (amount_in x.lo x.hi) xs ys)) in
      omega (arith, p, q, next)
  parts_by x xs ys a next (inr h) =
      let p = length_absent x (cells_of xs) (λ i d w. (each-cells_of k xs a i d w).positive)
      (omega (arith, count_of-cells_of xs x.lo x.hi)) in
      let q = length-with_cell x (cells_of (xs ++ ys)) in
      omega (arith, p, q.1, next)

  pub length_parts : (xs ys : List Cell) → All (IsCell k) xs → length (cells_of (xs ++ ys)) ≤ length (cells_of xs) + length (cells_of ys)
  length_parts [] ys a = omega arith
  length_parts (x ∷ xs) ys a =
      let b = All-tail (IsCell k) x xs a in parts_by x xs ys b (length_parts xs ys b) (cases_lt 0 (amount xs x.lo x.hi))

  length_behind : (xs ys : List Cell) → length (cells_of xs) ≤ length (cells_of (ys ++ xs))
  length_behind xs [] = omega arith
  length_behind xs (y ∷ ys) = let p = length-with_cell y (cells_of (ys ++ xs)) in omega (arith, p.0, length_behind xs ys)

  pub length_part : (xs ys : List Cell) → All (IsCell k) xs → All (IsCell k) ys → length (cells_of xs) ≤ length (cells_of (xs ++ ys))
  length_part xs ys a b =
      let e = cells_of-same k (xs ++ ys) (ys ++ xs) (All-append (IsCell k) xs ys a b) (All-append (IsCell k) ys xs b a)
      (λ i j. omega (arith, sum_by-append (amount_in i j) xs ys, sum_by-append (amount_in i j) ys xs)) in
      omega (arith, ap length e, length_behind xs ys)

-- the first cell at or after a pair
module _ (lo hi : ℕ) (x : Cell) where
  earlier_none : Before x.lo x.hi lo hi → (o : Option Cell) → first_with lo hi x o ≡ o
  earlier_none h o = grind (arith, nat_tests)

  earlier_first : UpTo lo hi x.lo x.hi → (o : Option Cell) → first_with lo hi x o ≡ first_of x o
  earlier_first u o = grind (arith, nat_tests)

  first_same : (c : Cell) → c.lo ≡ x.lo → c.hi ≡ x.hi → first_of x (Some c) ≡ Some (with_more c x.n)
  first_same c e f = grind (arith, nat_tests)

  first_before : (c : Cell) → Before x.lo x.hi c.lo c.hi → first_of x (Some c) ≡ Some x
  first_before c h = grind (arith, nat_tests)

  first_behind : (c : Cell) → Before c.lo c.hi x.lo x.hi → first_of x (Some c) ≡ Some c
  first_behind c h = grind (arith, nat_tests)

  earlier_some : UpTo lo hi x.lo x.hi → (c : Cell) (o : Option Cell) → o ≡ Some c → first_with lo hi x o ≡ first_of x (Some c)
  earlier_some u c o e = earlier_first u o ∙ ap (first_of x) e

abbrev Side : ℕ → ℕ → Cell → Type 0
Side lo hi c = UpTo lo hi c.lo c.hi ⊎ Before c.lo c.hi lo hi

side : (lo hi : ℕ) (c : Cell) → Side lo hi c
side lo hi c = grind arith

up_same : (lo hi a b c d : ℕ) → a ≡ c → b ≡ d → UpTo lo hi a b → UpTo lo hi c d
up_same lo hi a b c d e f u = grind arith

before_same : (lo hi a b c d : ℕ) → a ≡ c → b ≡ d → Before a b lo hi → Before c d lo hi
before_same lo hi a b c d e f u = grind arith

up_later : (lo hi a b c d : ℕ) → UpTo lo hi a b → Before a b c d → UpTo lo hi c d
up_later lo hi a b c d u h = grind arith

module _ (lo hi : ℕ) (x : Cell) where
  abbrev Found : List Cell → Type 0
  Found cells = find (is_from lo hi) (with_cell x cells) ≡ first_with lo hi x (find (is_from lo hi) cells)

  found_alone : Side lo hi x → Found []
  found_alone (inl u) = from_here lo hi x [] u ∙ sym (earlier_first lo hi x u None)
  found_alone (inr h) = from_later lo hi x [] h ∙ sym (earlier_none lo hi x h None)

  found_by : (c : Cell) (cells : List Cell) → Found cells → Order c.lo c.hi x.lo x.hi → Side lo hi c → Side lo hi x → Found (c ∷ cells)
  found_by c cells next (same e f) (inl u) s =
      ap (find (is_from lo hi)) (with_cell-same x c cells e f) ∙ from_here lo hi (with_more c x.n) cells u
      ∙ sym (earlier_some lo hi x (up_same lo hi c.lo c.hi x.lo x.hi e f u) c (find (is_from lo hi) (c ∷ cells))
      (from_here lo hi c cells u) ∙ first_same lo hi x c e f)
  found_by c cells next (same e f) (inr h) s =
      ap (find (is_from lo hi)) (with_cell-same x c cells e f) ∙ from_later lo hi (with_more c x.n) cells h
      ∙ sym (earlier_none lo hi x (before_same lo hi c.lo c.hi x.lo x.hi e f h) (find (is_from lo hi) (c ∷ cells))
      ∙ from_later lo hi c cells h)
  found_by c cells next (before g) (inl u) s =
      ap (find (is_from lo hi)) (with_cell-behind x c cells g) ∙ from_here lo hi c (with_cell x cells) u
      ∙ sym (earlier_some lo hi x (up_later lo hi c.lo c.hi x.lo x.hi u g) c (find (is_from lo hi) (c ∷ cells))
      (from_here lo hi c cells u) ∙ first_behind lo hi x c g)
  found_by c cells next (before g) (inr h) s =
      ap (find (is_from lo hi)) (with_cell-behind x c cells g) ∙ from_later lo hi c (with_cell x cells) h ∙ next
      ∙ ap (first_with lo hi x) (sym (from_later lo hi c cells h))
  found_by c cells next (behind g) t (inl u) =
      ap (find (is_from lo hi)) (with_cell-before x c cells g) ∙ from_here lo hi x (c ∷ cells) u
      ∙ sym (earlier_some lo hi x u c (find (is_from lo hi) (c ∷ cells))
      (from_here lo hi c cells (up_later lo hi x.lo x.hi c.lo c.hi u g)) ∙ first_before lo hi x c g)
  found_by c cells next (behind g) t (inr h) =
      ap (find (is_from lo hi)) (with_cell-before x c cells g) ∙ from_later lo hi x (c ∷ cells) h
      ∙ sym (earlier_none lo hi x h (find (is_from lo hi) (c ∷ cells)))

  pub find-with_cell : (cells : List Cell) → Found cells
  find-with_cell [] = found_alone (side lo hi x)
  find-with_cell (c ∷ cells) = found_by c cells (find-with_cell cells) (order c.lo c.hi x.lo x.hi) (side lo hi c) (side lo hi x)

none_some : (c : Cell) (o : Option Cell) → o ≡ None → o ≡ Some c → ⊥
none_some c o e f = cc

found_le_by : (lo hi : ℕ) (c d : Cell) (cells : List Cell) → find (is_from lo hi) (c ∷ cells) ≡ Some d →
    (find (is_from lo hi) cells ≡ Some d → d.n ≤ total_of cells) → Side lo hi c → d.n ≤ total_of (c ∷ cells)
found_le_by lo hi c d cells e next (inl u) =
    omega (arith, sum_by-cons (λ c. c.n) c cells, ap (λ c. c.n) (same_some (from_here lo hi c cells u) e))
found_le_by lo hi c d cells e next (inr h) = omega (arith, sum_by-cons (λ c. c.n) c cells, next (sym (from_later lo hi c cells h) ∙ e))

-- a cell that was found is a part of the total
pub found_le : (lo hi : ℕ) (d : Cell) (cells : List Cell) → find (is_from lo hi) cells ≡ Some d → d.n ≤ total_of cells
found_le lo hi d [] e = absurd (none_some d (find (is_from lo hi) []) refl e)
found_le lo hi d (c ∷ cells) e = found_le_by lo hi c d cells e (found_le lo hi d cells) (side lo hi c)

part_le : (a b : ℕ) (c : Cell) → amount_in a b c ≤ c.n
part_le a b c = grind (arith, nat_tests)

pub amount_le : (entries : List Cell) (a b : ℕ) → amount entries a b ≤ total_of entries
amount_le entries a b = sum_by-le-sum_by (amount_in a b) (λ c. c.n) entries (λ c. part_le a b c)

-- what the fields of a log keep
pub counts_log : {k r t cap : ℕ} {entries : List Cell} → IsLog k r t entries cap →
    IsCounts (record { classes = k; room = r; cells = cells_of entries })
counts_log {k} {r} {t} {cap} {entries} g = record {
  few = g.few;
  many = g.many;
  most = g.most;
  held = g.held;
  each = each-cells_of k entries g.each;
  ascending = ascending-cells_of entries;
  total = omega (arith, total_of-cells_of entries, g.summed, g.limit);
}

-- one entry more, where the log may have been put in order before
module _ {k r t cap : ℕ} {old now : List Cell} (lo hi n : ℕ) (g : IsLog k r t old cap) (p : (now ≡ cells_of old) ⊎ (now ≡ old))
    (o : lo < hi) (w : hi < k) (f : 0 < n) (free : (n ≡ 0) ⊎ ((0 < count_of (cells_of old) lo hi) ⊎ (length (cells_of old) < r))) where
  abbrev x : Cell
  x = record { lo = lo; hi = hi; n = n }

  cell_x : IsCell k x
  cell_x = record { ordered = o; within = w; positive = f }

  same_by : (now ≡ cells_of old) ⊎ (now ≡ old) → (cells_of now ≡ cells_of old) × (All (IsCell k) now × (total_of now ≡ total_of old))
  same_by (inl e) = (
    ap cells_of e
        ∙ cells_of-ascending (cells_of old) (ascending-cells_of old),
    (subst (All (IsCell k)) (sym e) (each-cells_of k old g.each), ap total_of e ∙ total_of-cells_of old),
  )
  same_by (inr e) = (ap cells_of e, (subst (All (IsCell k)) (sym e) g.each, ap total_of e))

  pub log_put : cells_of (now ++ x ∷ []) ≡ with_cell x (cells_of old)
  log_put = let s = same_by p in cells_of-push k now x s.1.0 cell_x ∙ ap (with_cell x) s.0

  pub log_count : (a b : ℕ) → count_of (cells_of (now ++ x ∷ [])) a b ≡ count_of (cells_of old) a b + one_of a b lo hi n
  log_count a b = ap (λ l. count_of l a b) log_put ∙ count_of-with_cell x (cells_of old) a b (ascending-cells_of old)

  pub log_total : total_of (cells_of (now ++ x ∷ [])) ≡ total_of (cells_of old) + n
  log_total = ap total_of log_put ∙ total_of-with_cell x (cells_of old)

  pub log_length : length (cells_of (now ++ x ∷ [])) ≤ length (cells_of old) + 1
  log_length = let q = length-with_cell x (cells_of old) in omega (arith, ap length log_put, q.1)

  held_by : (n ≡ 0) ⊎ ((0 < count_of (cells_of old) lo hi) ⊎ (length (cells_of old) < r)) → length (with_cell x (cells_of old)) ≤ r
  held_by (inl e) = absurd (omega arith)
  held_by (inr (inl h)) = omega (arith, length_there x (cells_of old) (ascending-cells_of old) h, g.held)
  held_by (inr (inr h)) = let q = length-with_cell x (cells_of old) in omega (arith, q.1)

  pub log_more : (cap' : ℕ) → cap ≤ cap' → t + n ≤ MAX_TOTAL → IsLog k r (t + n) (now ++ x ∷ []) cap'
  log_more cap' c b = let s = same_by p in record {
    few = g.few;
    many = g.many;
    most = g.most;
    reserved = omega (arith, g.reserved, c);
    held = omega (arith, ap length log_put, held_by free);
    each = All-push (IsCell k) now x s.1.0 cell_x;
    summed = omega (arith, g.summed, s.1.1, sum_by_push (λ c. c.n) now x);
    limit = b;
  }

pub find_none : (lo hi : ℕ) (cells : List Cell) → 0 ≡ length cells → find (is_from lo hi) cells ≡ None
find_none lo hi [] e = refl
find_none lo hi (c ∷ cells) e = absurd (omega arith)

-- a log in order
pub cells_of-again : (old now : List Cell) → now ≡ cells_of old → cells_of now ≡ cells_of old
cells_of-again old now e = ap cells_of e ∙ cells_of-ascending (cells_of old) (ascending-cells_of old)

pub log-cells_of : {k r t cap : ℕ} {old : List Cell} (now : List Cell) (cap' : ℕ) → IsLog k r t old cap → now ≡ cells_of old →
    cap ≤ cap' → IsLog k r t now cap'
log-cells_of {k} {r} {t} {cap} {old} now cap' g e c = record {
  few = g.few;
  many = g.many;
  most = g.most;
  reserved = omega (arith, g.reserved, c);
  held = omega (arith, ap length (cells_of-again old now e), g.held);
  each = subst (All (IsCell k)) (sym e) (each-cells_of k old g.each);
  summed = g.summed ∙ sym (total_of-cells_of old) ∙ ap total_of (sym e);
  limit = g.limit;
}
