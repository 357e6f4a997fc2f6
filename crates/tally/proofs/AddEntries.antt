-- A tally to which entries are added, one after another; and the walk over the cells of a list.
use Rattle.std.proofs.Common.{◌≡◌, ℕ, ◌+◌, ◌<◌, ◌≤◌, ◌⊎◌, inl, inr, List, ◌∷◌, ◌++◌, length, get_or, take, drop, refl, sym, ap, ◌∙◌, subst, arith}
use Rattle.std.specs.Prelude.{Some, None, All, find}
use Rattle.std.proofs.lemmas.Bool.{cases_eq, cases_lt}
use Rattle.std.proofs.lemmas.List.{take_all, get_or_default, take-append-drop}
use Rattle.std.proofs.lemmas.List.Elements.{All-append, All-cons, All-take, All-drop}
use Rattle.std.proofs.lemmas.List.Sums.{sum_by-append, sum_by-cons, sum_by_more, sum_by_more_le}
use Rattle.tally.specs.declared.cells.TheConstants.{MAX_TOTAL}
use Rattle.tally.specs.declared.cells.Cell.{Cell}
use Rattle.tally.specs.Counts.{Counts, IsCounts, IsCell, IsAscending, Before, HasGreatestRoom, HasPlace, most_cells, count_of, total_of, is_from}
use Rattle.tally.specs.Log.{with_cell, cells_of, amount, IsLog}
use Rattle.tally.proofs.Places.{UpTo, places_is}
use Rattle.tally.proofs.RowTables.{one_of}
use Rattle.tally.proofs.Ascending.{Stands, find_at, find_end, cells_fit}
use Rattle.tally.proofs.LogCells.{amount_in, each-cells_of, ascending-cells_of, cells_of-same, cells_of-ascending, count_of-cells_of, total_of-cells_of, with_cell-from_counts, length_absent, length_parts, length_part}

-- s is t with the first i entries
pub record HasEntries (t s : Counts) (entries : List Cell) (i : ℕ) : Type 0 where
  pub counts : IsCounts s
  pub cells : s.cells ≡ cells_of (take i entries ++ t.cells)
  pub classes : s.classes ≡ t.classes
  pub room : s.room ≡ t.room

pub entries-none : (t : Counts) (entries : List Cell) → IsCounts t → HasEntries t t entries 0
entries-none t entries g = record { counts = g; cells = sym (cells_of-ascending t.cells g.ascending); classes = refl; room = refl }

module _ (t s : Counts) (entries : List Cell) (i : ℕ) (x : Cell) (first : IsCounts t) (all : All (IsCell t.classes) entries)
    (w : i < length entries) (e : x ≡ get_or entries i x) (m : HasEntries t s entries i) where
  pub entries-cell : IsCell s.classes x
  entries-cell = subst (λ k. IsCell k x) (sym m.classes) (subst (IsCell t.classes) (sym e) (all i x w))

  -- the entries so far, and one more
  put_more : cells_of (take (i + 1) entries ++ t.cells) ≡ with_cell x s.cells
  put_more =
      let k = t.classes in
      let old = take i entries ++ t.cells in
      let a = All-append (IsCell k) (take i entries) t.cells (All-take (IsCell k) i entries all) first.each in
      let b = All-append (IsCell k) (take (i + 1) entries) t.cells (All-take (IsCell k) (i + 1) entries all) first.each in
      let p = subst (λ n. IsCell n x) m.classes entries-cell in
      let n : (lo hi : ℕ) → amount (take (i + 1) entries) lo hi ≡ amount (take i entries) lo hi + amount_in lo hi x =
      λ lo hi. sum_by_more (amount_in lo hi) entries i x w ∙ ap (λ c. amount (take i entries) lo hi + amount_in lo hi c) (sym e) in
      cells_of-same k (take (i + 1) entries ++ t.cells) (x ∷ old) b (All-cons (IsCell k) x old p a)
      (λ lo hi. omega (
        arith,
        n lo hi,
        sum_by-append (amount_in lo hi) (take (i + 1) entries) t.cells,
        sum_by-append (amount_in lo hi) (take i entries) t.cells,
        sum_by-cons (amount_in lo hi) x old,
      ))
      ∙ ap (with_cell x) (sym m.cells)

  pub entries-more : (r : Counts) → IsCounts r → ((a b : ℕ) → count_of r.cells a b ≡ count_of s.cells a b + one_of a b x.lo x.hi x.n) →
      r.classes ≡ s.classes → r.room ≡ s.room → HasEntries t r entries (i + 1)
  entries-more r g f k o = record {
    counts = g;
    cells = with_cell-from_counts s.classes s.cells r.cells x m.counts.each
        (subst (λ n. All (IsCell n) r.cells) k g.each) m.counts.ascending g.ascending entries-cell f
        ∙ sym put_more;
    classes = k ∙ m.classes;
    room = o ∙ m.room;
  }

  pub entries-total : total_of t.cells + total_of entries ≤ MAX_TOTAL → total_of s.cells + x.n ≤ MAX_TOTAL
  entries-total b =
      let n : total_of (take i entries) + x.n ≤ total_of entries = subst (λ c. total_of (take i entries) + c.n ≤ total_of entries) (sym e)
      (sum_by_more_le (λ c. c.n) entries i x w) in
      omega (
        arith,
        b,
        n,
        ap total_of m.cells,
        total_of-cells_of (take i entries ++ t.cells),
        sum_by-append (λ c. c.n)
            (take i entries) t.cells,
      )

  -- what the list so far has, and one more, is a part of all
  fits : length (with_cell x s.cells) ≤ length (cells_of entries) + length t.cells
  fits =
      let k = t.classes in
      let p = length_parts k (take (i + 1) entries) t.cells (All-take (IsCell k) (i + 1) entries all) in
      let q = length_part k (take (i + 1) entries) (drop (i + 1) entries) (All-take (IsCell k) (i + 1) entries all)
      (All-drop (IsCell k) (i + 1) entries all) in
      omega (
        arith,
        p,
        q,
        ap length put_more,
        ap (λ l. length (cells_of l)) (take-append-drop (i + 1) entries),
        ap length
            (cells_of-ascending t.cells first.ascending),
      )

  room_by : length t.cells + length (cells_of entries) ≤ t.room → ((0 < count_of s.cells x.lo x.hi) ⊎ (count_of s.cells x.lo x.hi ≤ 0)) →
      HasPlace s x.lo x.hi x.n
  room_by h (inl n) = inr (inl n)
  room_by h (inr n) =
      let p = length_absent x s.cells (λ j d v. (m.counts.each j d v).positive) (omega arith) in
      inr (inr (inl (omega (arith, h, p, fits, m.room))))

  pub entries-room : HasGreatestRoom t ⊎ (length t.cells + length (cells_of entries) ≤ t.room) → HasPlace s x.lo x.hi x.n
  entries-room (inl h) = inr (inr (inr (let b = ap most_cells m.classes in m.room ∙ h ∙ sym b)))
  entries-room (inr h) = room_by h (cases_lt 0 (count_of s.cells x.lo x.hi))

-- all entries
module _ (t s : Counts) (entries : List Cell) (i : ℕ) (first : IsCounts t) (all : All (IsCell t.classes) entries) (h : length entries ≤ i)
    (m : HasEntries t s entries i) where
  whole : s.cells ≡ cells_of (entries ++ t.cells)
  whole = m.cells ∙ ap (λ l. cells_of (l ++ t.cells)) (take_all i entries h)

  pub entries-counts : (a b : ℕ) → count_of s.cells a b ≡ count_of t.cells a b + count_of (cells_of entries) a b
  entries-counts a b =
      omega (
        arith,
        ap (λ l. count_of l a b) whole,
        count_of-cells_of (entries ++ t.cells) a b,
        sum_by-append (amount_in a b) entries t.cells,
        count_of-cells_of entries a b,
        count_of-cells_of t.cells a b,
        ap (λ l. count_of l a b) (cells_of-ascending t.cells first.ascending),
      )

  pub entries-sum : total_of s.cells ≡ total_of t.cells + total_of (cells_of entries)
  entries-sum =
      omega (
        arith,
        ap total_of whole,
        total_of-cells_of (entries ++ t.cells),
        sum_by-append
            (λ c. c.n) entries t.cells,
        total_of-cells_of entries,
      )

  pub entries-length : length s.cells ≤ length t.cells + length (cells_of entries)
  entries-length =
      omega (arith, ap length whole, length_parts t.classes entries t.cells all, ap length (cells_of-ascending t.cells first.ascending))

-- two logs, one behind the other
module _ {k r j t u cap more : ℕ} {old others : List Cell} (g : IsLog k r t old cap) (o : IsLog k j u others more) where
  pub append_counts : (a b : ℕ) → count_of (cells_of (old ++ others)) a b ≡ count_of (cells_of old) a b + count_of (cells_of others) a b
  append_counts a b =
      omega (
        arith,
        count_of-cells_of (old ++ others) a b,
        sum_by-append
            (amount_in a b) old others,
        count_of-cells_of old a b,
        count_of-cells_of others a b,
      )

  pub append_total : total_of (cells_of (old ++ others)) ≡ total_of (cells_of old) + total_of (cells_of others)
  append_total =
      omega (arith, total_of-cells_of (old ++ others), sum_by-append (λ c. c.n) old others, total_of-cells_of old, total_of-cells_of others)

  pub append_length : length (cells_of (old ++ others)) ≤ length (cells_of old) + length (cells_of others)
  append_length = length_parts k old others g.each

  all_most : length (cells_of (old ++ others)) ≤ most_cells k
  all_most =
      let e = each-cells_of k (old ++ others) (All-append (IsCell k) old others g.each o.each) in
      omega (
        arith,
        cells_fit k (cells_of (old ++ others)) 0 (ascending-cells_of (old ++ others)) e (omega arith)
            (λ i d h. omega arith),
        places_is k (omega (arith, g.few)),
      )

  held_by : (r ≡ most_cells k) ⊎ (length (cells_of old) + length (cells_of others) ≤ r) → length (cells_of (old ++ others)) ≤ r
  held_by (inl e) = omega (arith, all_most)
  held_by (inr h) = omega (arith, append_length)

  pub append_log : (cap' : ℕ) → cap ≤ cap' → (r ≡ most_cells k) ⊎ (length (cells_of old) + length (cells_of others) ≤ r) →
      t + u ≤ MAX_TOTAL →
      IsLog k r (t + u) (old ++ others) cap'
  append_log cap' c h b = record {
    few = g.few;
    many = g.many;
    most = g.most;
    reserved = omega (arith, g.reserved, c);
    held = held_by h;
    each = All-append (IsCell k) old others g.each o.each;
    summed = omega (arith, g.summed, o.summed, sum_by-append (λ c. c.n) old others);
    limit = b;
  }

anywhere : (a b : ℕ) → UpTo 0 0 a b
anywhere a b = grind arith

pub one_further : (a b : ℕ) → Before a b a (b + 1)
one_further a b = grind arith

pub further : (a b c d : ℕ) → Before a b c d → Before a b c (d + 1)
further a b c d h = grind arith

behind_one : (a b c d : ℕ) → Before a b c d → UpTo a (b + 1) c d
behind_one a b c d h = grind arith

stands_first : (cells : List Cell) → Stands 0 0 cells 0
stands_first cells = record {
  bound = omega arith;
  before = λ k d h. absurd (omega arith);
  from = λ k d g h. anywhere (get_or cells k d).lo (get_or cells k d).hi;
}

-- the first cell of a list
pub found_first : (cells : List Cell) (d : Cell) → 0 < length cells → find (is_from 0 0) cells ≡ Some (get_or cells 0 d)
found_first cells d h = find_at 0 0 cells 0 d (stands_first cells) h

next_before : (cells : List Cell) (i : ℕ) (x : Cell) → IsAscending cells → i < length cells → x ≡ get_or cells i x → (k : ℕ) (d : Cell) →
    k < i + 1 → ((k ≡ i) ⊎ ((k ≡ i) → ⊥)) →
    Before (get_or cells k d).lo (get_or cells k d).hi x.lo (x.hi + 1)
next_before cells i x a w e k d h (inl q) =
    let f : get_or cells k d ≡ x = ap (λ n. get_or cells n d) q ∙ get_or_default cells i d x w ∙ sym e in
    subst (λ c. Before c.lo c.hi x.lo (x.hi + 1)) (sym f) (one_further x.lo x.hi)
next_before cells i x a w e k d h (inr q) =
    let f : get_or cells i d ≡ x = get_or_default cells i d x w ∙ sym e in
    further (get_or cells k d).lo (get_or cells k d).hi x.lo x.hi
    (subst (λ c. Before (get_or cells k d).lo (get_or cells k d).hi c.lo c.hi) f (a k i d (omega arith) w))

stands_next : (cells : List Cell) (i : ℕ) (x : Cell) → IsAscending cells → i < length cells → x ≡ get_or cells i x →
    Stands x.lo (x.hi + 1) cells (i + 1)
stands_next cells i x a w e = record {
  bound = omega arith;
  before = λ k d h. next_before cells i x a w e k d h (cases_eq k i);
  from = λ k d g h.
      let f : get_or cells i d ≡ x = get_or_default cells i d x w ∙ sym e in
      behind_one x.lo x.hi (get_or cells k d).lo (get_or cells k d).hi
      (subst (λ c. Before c.lo c.hi (get_or cells k d).lo (get_or cells k d).hi) f (a i k d (omega arith) h));
}

-- and the one behind a cell
pub found_next : (cells : List Cell) (i : ℕ) (x d : Cell) → IsAscending cells → i < length cells → x ≡ get_or cells i x →
    i + 1 < length cells →
    find (is_from x.lo (x.hi + 1)) cells ≡ Some (get_or cells (i + 1) d)
found_next cells i x d a w e h = find_at x.lo (x.hi + 1) cells (i + 1) d (stands_next cells i x a w e) h

-- behind the last cell there is none
pub found_last : (cells : List Cell) (i : ℕ) (x : Cell) → IsAscending cells → i < length cells → x ≡ get_or cells i x →
    length cells ≤ i + 1 → find (is_from x.lo (x.hi + 1)) cells ≡ None
found_last cells i x a w e h = find_end x.lo (x.hi + 1) cells (i + 1) x (stands_next cells i x a w e) h
