-- Cells in rows, and back.
use Rattle.std.proofs.Common.{◌≡◌, ◌≢◌, ◌⊎◌, inl, inr, ℕ, suc, ◌+◌, ◌-◌, ◌<◌, ◌≤◌, Bool, true, false, if◌then◌else◌, ◌==◌, nat_le, nat_lt, ◌&&◌, List, [], ◌∷◌, ◌++◌, map, length, refl, sym, ap, subst, ◌∙◌, arith}
use Rattle.std.specs.Prelude.{Some, None}
use Rattle.std.specs.Option.{option_or}
use Rattle.std.proofs.lemmas.Bool.{cases_eq, and_parts, and_from, ltb-true, lt-ltb, leb-true, le-leb}
use Rattle.std.proofs.lemmas.Bool.Decides.{nat_tests}
use Rattle.lemmas.proofs.Outcomes.{both_none, none_passed}
use Rattle.tally.specs.declared.cells.Cell.{Cell}
use Rattle.tally.specs.declared.cells.Bin.{Bin}
use Rattle.tally.specs.Counts.{IsCell}
use Rattle.tally.specs.tables.Bins.{AreBinsFrom}
use Rattle.segment.specs.segment_rules.Tests.{wrong_bin}
use Rattle.segment.proofs.on_segment_rules.CellsFrom.{IsFrom, AreCellsFrom}
use Rattle.segment.proofs.on_segment_rules.Ordered.{bins_kept, kept_bins}
use Rattle.store_bytes.specs.segment_bytes.Rows.{RowValue, cell_in, cells_of_rows, bin_of, before_rows, rows_of, AreRowsFrom, wrong_row}

same_lo : (x y : ℕ) → x ≡ y → (x == y) ≡ true
same_lo x y e = grind (arith, nat_tests)

other_lo : (x y : ℕ) → x ≢ y → (x == y) ≡ false
other_lo x y n = grind (arith, nat_tests)

pub join_row : (c : Cell) (r : RowValue) (rs : List RowValue) → c.lo ≡ r.lo
    → before_rows c (r ∷ rs) ≡ record { lo = r.lo; bins = bin_of c ∷ r.bins } ∷ rs
join_row c r rs e = ap (λ b. (if b then record { lo = r.lo; bins = bin_of c ∷ r.bins } ∷ rs else record
    { lo = c.lo; bins = bin_of c ∷ [] } ∷ r ∷ rs)) (same_lo c.lo r.lo e)

pub new_row : (c : Cell) (r : RowValue) (rs : List RowValue) → c.lo ≢ r.lo
    → before_rows c (r ∷ rs) ≡ record { lo = c.lo; bins = bin_of c ∷ [] } ∷ r ∷ rs
new_row c r rs n = ap (λ b. (if b then record { lo = r.lo; bins = bin_of c ∷ r.bins } ∷ rs else record
    { lo = c.lo; bins = bin_of c ∷ [] } ∷ r ∷ rs)) (other_lo c.lo r.lo n)

-- ---- the cells of the rows of cells are these cells

cells_before : (c : Cell) (rs : List RowValue) → cells_of_rows (before_rows c rs) ≡ c ∷ cells_of_rows rs
cells_before c [] = refl
cells_before c (r ∷ rs) = by (cases_eq c.lo r.lo)
  where
    there : (lo : ℕ) → c.lo ≡ lo → cell_in lo (bin_of c) ≡ c
    there lo e = ap (λ l. cell_in l (bin_of c)) (sym e)

    by : ((c.lo ≡ r.lo) ⊎ (c.lo ≢ r.lo)) → cells_of_rows (before_rows c (r ∷ rs)) ≡ c ∷ cells_of_rows (r ∷ rs)
    by (inl e) = ap cells_of_rows (join_row c r rs e) ∙ ap (λ x. x ∷ cells_of_rows (r ∷ rs)) (there r.lo e)
    by (inr n) = ap cells_of_rows (new_row c r rs n)

pub cells_again : (cs : List Cell) → cells_of_rows (rows_of cs) ≡ cs
cells_again [] = refl
cells_again (c ∷ cs) = cells_before c (rows_of cs) ∙ ap (λ (l : List Cell). c ∷ l) (cells_again cs)

-- ---- the rows of the cells of rows are these rows

pub row_again : (lo classes : ℕ) (b : Bin) (bs : List Bin) (rs : List RowValue) → AreRowsFrom (lo + 1) classes rs
    → rows_of (cells_of_rows rs) ≡ rs → rows_of (map (cell_in lo) (b ∷ bs) ++ cells_of_rows rs) ≡ record { lo = lo; bins = b ∷ bs } ∷ rs
row_again lo classes b [] [] a e = refl
row_again lo classes b [] (r ∷ rs) a e = ap (before_rows (cell_in lo b)) e
    ∙ new_row (cell_in lo b) r rs (λ f. absurd (omega (arith, f, a.0)))
row_again lo classes b (d ∷ bs) rs a e = ap (before_rows (cell_in lo b)) (row_again lo classes d bs rs a e)
    ∙ join_row (cell_in lo b) (record { lo = lo; bins = d ∷ bs }) rs refl

filled_row : (classes : ℕ) (r : RowValue) (rs : List RowValue) → 0 < length r.bins → AreRowsFrom (r.lo + 1) classes rs
    → rows_of (cells_of_rows rs) ≡ rs → rows_of (cells_of_rows (r ∷ rs)) ≡ r ∷ rs
filled_row classes r rs some a e = by r.bins refl
  where
    back : (l : List Bin) → r.bins ≡ l → record { lo = r.lo; bins = l } ≡ r
    back l f = ap (λ (x : List Bin). record { lo = r.lo; bins = x }) (sym f)

    by : (l : List Bin) → r.bins ≡ l → rows_of (map (cell_in r.lo) r.bins ++ cells_of_rows rs) ≡ r ∷ rs
    by [] f = absurd (omega (arith, some, ap length f))
    by (b ∷ bs) f = ap (λ (l : List Bin). rows_of (map (cell_in r.lo) l ++ cells_of_rows rs)) f ∙ row_again r.lo classes b bs rs a e
        ∙ ap (λ x. x ∷ rs) (back (b ∷ bs) f)

pub rows_again : (from classes : ℕ) (rs : List RowValue) → AreRowsFrom from classes rs → rows_of (cells_of_rows rs) ≡ rs
rows_again from classes [] a = refl
rows_again from classes (r ∷ rs) a = filled_row classes r rs a.1 a.3 (rows_again (r.lo + 1) classes rs a.3)

-- ---- the rows of cells that ascend

-- rows that stand behind a cell at (lo, hi - 1)
abbrev Behind : ℕ → ℕ → ℕ → List RowValue → Type 0
Behind lo hi classes [] = Unit {0}
Behind lo hi classes (r ∷ rs) = (0 < length r.bins) × AreRowsFrom (r.lo + 1) classes rs ×
    (((lo < r.lo) × AreBinsFrom (r.lo + 1) classes r.bins) ⊎ ((lo ≡ r.lo) × AreBinsFrom hi classes r.bins))

-- rows that begin with a cell at (lo, hi)
abbrev Begun : ℕ → ℕ → ℕ → List RowValue → Type 0
Begun lo hi classes [] = ⊥
Begun lo hi classes (r ∷ rs) = (lo ≡ r.lo) × (0 < length r.bins) × AreBinsFrom hi classes r.bins × AreRowsFrom (r.lo + 1) classes rs

begun : (classes : ℕ) (c : Cell) (rs : List RowValue) → IsCell classes c → Behind c.lo (c.hi + 1) classes rs
    → Begun c.lo c.hi classes (before_rows c rs)
begun classes c [] v b = (refl, omega arith, (omega arith, v.within, v.positive, tt), tt)
begun classes c (r ∷ rs) v (some, rest, inl far) =
    subst (Begun c.lo c.hi classes) (sym (new_row c r rs (λ e. absurd (omega (arith, e, far.0)))))
    (refl, omega arith, (omega arith, v.within, v.positive, tt), (omega (arith, far.0), some, far.1, rest))
begun classes c (r ∷ rs) v (some, rest, inr near) =
    subst (Begun c.lo c.hi classes) (sym (join_row c r rs near.0)) (near.0, omega arith, (omega arith, v.within, v.positive, near.1), rest)

lower_bins : (from less to : ℕ) (bs : List Bin) → less ≤ from → AreBinsFrom from to bs → AreBinsFrom less to bs
lower_bins from less to [] h a = tt
lower_bins from less to (b ∷ bs) h a = (omega (arith, h, a.0), a.1, a.2, a.3)

behind : (lo hi classes : ℕ) (c : Cell) (rs : List RowValue) → c.lo < c.hi → IsFrom lo hi c → Begun c.lo c.hi classes rs
    → Behind lo hi classes rs
behind lo hi classes c [] o at b = absurd b
behind lo hi classes c (r ∷ rs) o (inl far) b = (
  b.1,
  b.3,
  inl
      (omega (arith, far, b.0), lower_bins c.hi (r.lo + 1) classes r.bins (omega (arith, o, b.0)) b.2),
)
behind lo hi classes c (r ∷ rs) o (inr near) b = (b.1, b.3, inr (near.0 ∙ b.0, lower_bins c.hi hi classes r.bins near.1 b.2))

rows_behind : (lo hi classes : ℕ) (cs : List Cell) → AreCellsFrom lo hi classes cs → Behind lo hi classes (rows_of cs)
rows_behind lo hi classes [] a = tt
rows_behind lo hi classes (c ∷ cs) a = behind lo hi classes c (before_rows c (rows_of cs)) a.1.ordered a.0
    (begun classes c (rows_of cs) a.1 (rows_behind c.lo (c.hi + 1) classes cs a.2))

rows_lower : (from classes : ℕ) (rs : List RowValue) (lo hi : ℕ) → from ≤ lo → lo < hi → Begun lo hi classes rs
    → AreRowsFrom from classes rs
rows_lower from classes [] lo hi h o b = absurd b
rows_lower from classes (r ∷ rs) lo hi h o b = (
  omega (arith, b.0, h),
  b.1,
  lower_bins hi (r.lo + 1) classes r.bins
      (omega (arith, o, b.0)) b.2,
  b.3,
)

pub rows_from : (from classes : ℕ) (cs : List Cell) → AreCellsFrom from 0 classes cs → AreRowsFrom from classes (rows_of cs)
rows_from from classes [] a = tt
rows_from from classes (c ∷ cs) a =
    rows_lower from classes (before_rows c (rows_of cs)) c.lo c.hi (at_least from c.lo c.hi a.0) a.1.ordered
    (begun classes c (rows_of cs) a.1 (rows_behind c.lo (c.hi + 1) classes cs a.2))
  where
    at_least : (from x y : ℕ) → (from < x) ⊎ ((from ≡ x) × (0 ≤ y)) → from ≤ x
    at_least from x y h = grind arith

pub rows_are : (classes : ℕ) (cs : List Cell) → AreCellsFrom 0 0 classes cs → AreRowsFrom 0 classes (rows_of cs)
rows_are classes cs a = rows_from 0 classes cs a

-- ---- the test of rows

pub rows_ok : (from classes index : ℕ) (rs : List RowValue) → wrong_row from classes index rs ≡ None → AreRowsFrom from classes rs
rows_ok from classes index [] e = tt
rows_ok from classes index (r ∷ rs) e =
    let t = none_passed (nat_le from r.lo && nat_lt 0 (length r.bins))
    (option_or (wrong_bin (r.lo + 1) classes index r.bins) (wrong_row (r.lo + 1) classes (index + length r.bins) rs)) index e in
    let b = and_parts (nat_le from r.lo) (nat_lt 0 (length r.bins)) t.0 in
    let n = both_none (wrong_bin (r.lo + 1) classes index r.bins) (wrong_row (r.lo + 1) classes (index + length r.bins) rs) t.1 in (
      leb-true from r.lo b.0,
      ltb-true 0 (length r.bins) b.1,
      bins_kept (r.lo + 1) classes index r.bins n.0,
      rows_ok (r.lo + 1) classes (index + length r.bins) rs n.1,
    )

pub ok_rows : (from classes index : ℕ) (rs : List RowValue) → AreRowsFrom from classes rs → wrong_row from classes index rs ≡ None
ok_rows from classes index [] a = refl
ok_rows from classes index (r ∷ rs) a =
    ap (λ b. (if b then option_or (wrong_bin (r.lo + 1) classes index r.bins)
    (wrong_row (r.lo + 1) classes (index + length r.bins) rs) else Some index))
    (and_from (nat_le from r.lo) (nat_lt 0 (length r.bins)) (le-leb from r.lo a.0) (lt-ltb 0 (length r.bins) a.1))
    ∙ ap (λ o. option_or o (wrong_row (r.lo + 1) classes (index + length r.bins) rs)) (kept_bins (r.lo + 1) classes index r.bins a.2)
    ∙ ok_rows (r.lo + 1) classes (index + length r.bins) rs a.3

-- ---- how many rows there are, and how many cells they have

pub rows_few : (from classes : ℕ) (rs : List RowValue) → AreRowsFrom from classes rs → length rs ≤ classes - 1 - from
rows_few from classes [] a = omega arith
rows_few from classes (r ∷ rs) a = let n = rows_few (r.lo + 1) classes rs a.3 in by r.bins a.1 a.2 n
  where
    by : (l : List Bin) → 0 < length l → AreBinsFrom (r.lo + 1) classes l → length rs ≤ classes - 1 - (r.lo + 1)
        → suc (length rs) ≤ classes - 1 - from
    by [] some b n = absurd (omega (arith, some))
    by (x ∷ l) some b n = omega (arith, b.0, b.1, n, a.0)

pub rows_sum : (cs : List Cell) → length (rows_of cs) ≤ length cs
rows_sum [] = omega arith
rows_sum (c ∷ cs) = let n = rows_sum cs in by (rows_of cs) n
  where
    most : (b : Bool) (x y : List RowValue) (n : ℕ) → length x ≤ n → length y ≤ n → length (if b then x else y) ≤ n
    most true x y n h g = h
    most false x y n h g = g

    by : (rs : List RowValue) → length rs ≤ length cs → length (before_rows c rs) ≤ suc (length cs)
    by [] n = omega arith
    by (r ∷ rs) n = most (c.lo == r.lo) _ _ (suc (length cs)) (omega (arith, n)) (omega (arith, n))
