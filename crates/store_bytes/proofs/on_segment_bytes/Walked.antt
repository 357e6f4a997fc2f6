-- Walking through the cells of a segment, row by row.
use Rattle.std.proofs.Common.{◌≡◌, ◌⊎◌, inl, inr, ℕ, zero, suc, ◌+◌, ◌-◌, ◌<◌, ◌≤◌, true, false, List, [], ◌∷◌, ◌++◌, map, nat_le, nat_lt, refl, sym, ap, subst, ◌∙◌, arith}
use Rattle.std.specs.Prelude.{◌==◌, ◌&&◌, ◌||◌, if◌then◌else◌}
use Rattle.std.proofs.lemmas.Bool.{cases_lt}
use Rattle.std.proofs.lemmas.Bool.Decides.{nat_tests}
use Rattle.tally.specs.declared.cells.Cell.{Cell}
use Rattle.tally.specs.declared.cells.Bin.{Bin}
use Rattle.tally.specs.Counts.{Before, count_of}
use Rattle.tally.proofs.AddEntries.{further as one_behind, one_further}
use Rattle.tally.proofs.Walk.{count_here, count_other, behind_differs}
use Rattle.segment.proofs.on_segment_rules.CellsFrom.{IsFrom, AreCellsFrom}
use Rattle.segment.specs.Parts.{bins_from}
use Rattle.segment.proofs.TableSums.{none as listed_none, some as listed_some}
use Rattle.store_bytes.specs.segment_bytes.Rows.{cell_in, rows_of}
use Rattle.store_bytes.specs.segment_bytes.Writing.{cells_after, row_of}
use Rattle.store_bytes.proofs.on_segment_bytes.Rows.{cells_again, row_again, rows_from}

from_true : (lo hi a b : ℕ) → (lo < a) ⊎ ((lo ≡ a) × (hi ≤ b)) → (nat_lt lo a || (lo == a && nat_le hi b)) ≡ true
from_true lo hi a b h = grind (arith, nat_tests)

from_false : (lo hi a b : ℕ) → Before a b lo hi → (nat_lt lo a || (lo == a && nat_le hi b)) ≡ false
from_false lo hi a b h = grind (arith, nat_tests)

keep : (lo hi : ℕ) (c : Cell) (cs : List Cell) → IsFrom lo hi c → cells_after lo hi (c ∷ cs) ≡ c ∷ cs
keep lo hi c cs h = ap (λ b. if b then c ∷ cs else cells_after lo hi cs) (from_true lo hi c.lo c.hi h)

skip : (lo hi : ℕ) (c : Cell) (cs : List Cell) → Before c.lo c.hi lo hi → cells_after lo hi (c ∷ cs) ≡ cells_after lo hi cs
skip lo hi c cs h = ap (λ b. if b then c ∷ cs else cells_after lo hi cs) (from_false lo hi c.lo c.hi h)

after_all : (lo hi k : ℕ) (cs : List Cell) → AreCellsFrom lo hi k cs → cells_after lo hi cs ≡ cs
after_all lo hi k [] a = refl
after_all lo hi k (c ∷ cs) a = keep lo hi c cs a.0

pub after_start : (k : ℕ) (cs : List Cell) → AreCellsFrom 0 0 k cs → cells_after 0 0 cs ≡ cs
after_start k cs a = after_all 0 0 k cs a

not_here : (a b lo hi x y : ℕ) → (a < x) ⊎ ((a ≡ x) × (b ≤ y)) → Before lo hi a b → (x ≡ lo) × (y ≡ hi) → ⊥
not_here a b lo hi x y h g e = grind arith

further : (a b lo hi x y : ℕ) → (a < x) ⊎ ((a ≡ x) × (b ≤ y)) → Before lo hi a b → Before lo hi x (y + 1)
further a b lo hi x y h g = grind arith

-- a pair before all cells counts nothing
count_none : (a b k lo hi : ℕ) (cs : List Cell) → AreCellsFrom a b k cs → Before lo hi a b → count_of cs lo hi ≡ 0
count_none a b k lo hi [] o h = refl
count_none a b k lo hi (c ∷ cs) o h =
    count_other c cs lo hi (not_here a b lo hi c.lo c.hi o.0 h)
    ∙ count_none c.lo (c.hi + 1) k lo hi cs o.2 (further a b lo hi c.lo c.hi o.0 h)

-- what stands at a pair, and the cells behind it
record Next (lo hi : ℕ) (cs : List Cell) : Type 0 where
  none : count_of cs lo hi ≡ 0 → cells_after lo hi cs ≡ cells_after lo (hi + 1) cs
  some : 0 < count_of cs lo hi → cells_after lo hi cs ≡ record { lo = lo; hi = hi; n = count_of cs lo hi } ∷ cells_after lo (hi + 1) cs

before_from : (lo hi a b : ℕ) → Before lo hi a b → (lo < a) ⊎ ((lo ≡ a) × (hi ≤ b))
before_from lo hi a b h = grind arith

before_next : (lo hi a b : ℕ) → Before lo hi a b → (lo < a) ⊎ ((lo ≡ a) × (hi + 1 ≤ b))
before_next lo hi a b h = grind arith

same_cell : (c : Cell) (lo hi n : ℕ) → c.lo ≡ lo → c.hi ≡ hi → n ≡ c.n → c ≡ record { lo = lo; hi = hi; n = n }
same_cell c lo hi n e f g = ap (λ x. made x c.hi c.n) e ∙ ap (λ x. made lo x c.n) f ∙ ap (made lo hi) (sym g)
  where
    made : ℕ → ℕ → ℕ → Cell
    made a b c = record { lo = a; hi = b; n = c }

next_by : (a b k lo hi : ℕ) (c : Cell) (cs : List Cell) → AreCellsFrom a b k (c ∷ cs) → Next lo hi cs
    → (Before lo hi c.lo c.hi ⊎ (((c.lo ≡ lo) × (c.hi ≡ hi)) ⊎ Before c.lo c.hi lo hi)) → Next lo hi (c ∷ cs)
next_by a b k lo hi c cs o rest (inl h) =
    let z = count_none c.lo c.hi k lo hi (c ∷ cs) (inr (refl, omega arith), o.1, o.2) h in
    record {
      none = λ e. keep lo hi c cs (before_from lo hi c.lo c.hi h) ∙ sym (keep lo (hi + 1) c cs (before_next lo hi c.lo c.hi h));
      some = λ g. absurd (omega (arith, g, z));
    }
next_by a b k lo hi c cs o rest (inr (inl e)) =
    let n = count_here c cs lo hi e.0 e.1 in
    let p = o.1.positive in
    let past : cells_after lo (hi + 1) (c ∷ cs) ≡ cs =
    subst (λ x. cells_after x (hi + 1) (c ∷ cs) ≡ cs) e.0
    (subst (λ y. cells_after c.lo (y + 1) (c ∷ cs) ≡ cs) e.1
    (skip c.lo (c.hi + 1) c cs (one_further c.lo c.hi) ∙ after_all c.lo (c.hi + 1) k cs o.2)) in
    record {
      none = λ z. absurd (omega (arith, z, n, p));
      some = λ g.
          keep lo hi c cs (inr (sym e.0, omega (arith, e.1)))
          ∙ ap (λ x. x ∷ cs) (same_cell c lo hi (count_of (c ∷ cs) lo hi) e.0 e.1 n)
          ∙ ap (λ (l : List Cell). record { lo = lo; hi = hi; n = count_of (c ∷ cs) lo hi } ∷ l) (sym past);
    }
next_by a b k lo hi c cs o rest (inr (inr h)) =
    let n = count_other c cs lo hi (behind_differs h) in
    record {
      none = λ z. skip lo hi c cs h ∙ rest.none (sym n ∙ z) ∙ sym (skip lo (hi + 1) c cs (one_behind c.lo c.hi lo hi h));
      some = λ g.
          skip lo hi c cs h ∙ rest.some (omega (arith, g, n))
          ∙ ap (λ m. record { lo = lo; hi = hi; n = m } ∷ cells_after lo (hi + 1) cs) (sym n)
          ∙ ap (λ (l : List Cell). record { lo = lo; hi = hi; n = count_of (c ∷ cs) lo hi } ∷ l)
          (sym (skip lo (hi + 1) c cs (one_behind c.lo c.hi lo hi h)));
    }

three : (a b x y : ℕ) → Before x y a b ⊎ (((a ≡ x) × (b ≡ y)) ⊎ Before a b x y)
three a b x y = grind arith

next_cell : (a b k lo hi : ℕ) (cs : List Cell) → AreCellsFrom a b k cs → Next lo hi cs
next_cell a b k lo hi [] o = record { none = λ e. refl; some = λ h. absurd (omega (arith, h)) }
next_cell a b k lo hi (c ∷ cs) o = next_by a b k lo hi c cs o (next_cell c.lo (c.hi + 1) k lo hi cs o.2) (three c.lo c.hi lo hi)

-- no cell of the row is behind its last pair
row_ended : (a b k lo hi : ℕ) (cs : List Cell) → AreCellsFrom a b k cs → k ≤ hi → cells_after lo hi cs ≡ cells_after (lo + 1) 0 cs
row_ended a b k lo hi [] o h = refl
row_ended a b k lo hi (c ∷ cs) o h =
    let e : (nat_lt lo c.lo || (lo == c.lo && nat_le hi c.hi)) ≡ (nat_lt (lo + 1) c.lo || ((lo + 1) == c.lo && nat_le 0 c.hi)) =
    same lo hi k c.lo c.hi o.1.within h in
    ap (λ t. if t then c ∷ cs else cells_after lo hi cs) e
    ∙ ap (λ (l : List Cell). if nat_lt (lo + 1) c.lo || ((lo + 1) == c.lo && nat_le 0 c.hi) then c ∷ cs else l)
    (row_ended c.lo (c.hi + 1) k lo hi cs o.2 h)
  where
    same : (lo hi k x y : ℕ) → y < k → k ≤ hi → (nat_lt lo x || (lo == x && nat_le hi y)) ≡
        (nat_lt (lo + 1) x || ((lo + 1) == x && nat_le 0 y))
    same lo hi k x y w h = grind (arith, nat_tests)

module _ (k lo : ℕ) (cs : List Cell) (o : AreCellsFrom 0 0 k cs) where
  row_by : (hi keys : ℕ) → ((0 < count_of cs lo hi) ⊎ (count_of cs lo hi ≤ 0))
      → cells_after lo (hi + 1) cs ≡ map (cell_in lo) (bins_from (count_of cs lo) (hi + 1) keys) ++ cells_after (lo + 1) 0 cs
      → cells_after lo hi cs ≡ map (cell_in lo) (bins_from (count_of cs lo) hi (suc keys)) ++ cells_after (lo + 1) 0 cs
  row_by hi keys (inl lt) next =
      (next_cell 0 0 k lo hi cs o).some lt
      ∙ ap (λ (l : List Cell). record { lo = lo; hi = hi; n = count_of cs lo hi } ∷ l) next
      ∙ ap (λ (l : List Bin). map (cell_in lo) l ++ cells_after (lo + 1) 0 cs)
      (sym (listed_some (count_of cs lo hi) (bins_from (count_of cs lo) (hi + 1) keys)
      (record { key = hi; n = count_of cs lo hi } ∷ bins_from (count_of cs lo) (hi + 1) keys) lt))
  row_by hi keys (inr le) next =
      (next_cell 0 0 k lo hi cs o).none (omega (arith, le)) ∙ next
      ∙ ap (λ (l : List Bin). map (cell_in lo) l ++ cells_after (lo + 1) 0 cs)
      (sym (listed_none (count_of cs lo hi) (bins_from (count_of cs lo) (hi + 1) keys)
      (record { key = hi; n = count_of cs lo hi } ∷ bins_from (count_of cs lo) (hi + 1) keys) (omega (arith, le))))

  row_from : (hi keys : ℕ) → hi + keys ≡ k → cells_after lo hi cs ≡ map (cell_in lo) (bins_from (count_of cs lo) hi keys) ++ cells_after
      (lo + 1) 0 cs
  row_from hi zero e = row_ended 0 0 k lo hi cs o (omega (arith, e))
  row_from hi (suc keys) e = row_by hi keys (cases_lt 0 (count_of cs lo hi)) (row_from (hi + 1) keys (omega (arith, e)))

-- no cell has its upper level at or below its lower one
low_none : (a b k lo hi : ℕ) (cs : List Cell) → AreCellsFrom a b k cs → hi ≤ lo + 1 → cells_after lo 0 cs ≡ cells_after lo hi cs
low_none a b k lo hi [] o h = refl
low_none a b k lo hi (c ∷ cs) o h =
    let e = same lo hi c.lo c.hi o.1.ordered h in
    ap (λ t. if t then c ∷ cs else cells_after lo 0 cs) e
    ∙ ap (λ (l : List Cell). if nat_lt lo c.lo || (lo == c.lo && nat_le hi c.hi) then c ∷ cs else l)
    (low_none c.lo (c.hi + 1) k lo hi cs o.2 h)
  where
    same : (lo hi x y : ℕ) → x < y → hi ≤ lo + 1 → (nat_lt lo x || (lo == x && nat_le 0 y)) ≡ (nat_lt lo x || (lo == x && nat_le hi y))
    same lo hi x y w h = grind (arith, nat_tests)

-- the cells from a row on are those of the row, and those behind it
pub cells_row : (k lo : ℕ) (cs : List Cell) → AreCellsFrom 0 0 k cs → lo < k
    → cells_after lo 0 cs ≡ map (cell_in lo) (bins_from (count_of cs lo) (lo + 1) (k - 1 - lo)) ++ cells_after (lo + 1) 0 cs
cells_row k lo cs o lt = low_none 0 0 k lo (lo + 1) cs o (omega arith) ∙ row_from k lo cs o (lo + 1) (k - 1 - lo) (omega (arith, lt))

after_from : (a b k lo hi : ℕ) (cs : List Cell) → AreCellsFrom a b k cs → AreCellsFrom lo hi k (cells_after lo hi cs)
after_from a b k lo hi [] o = tt
after_from a b k lo hi (c ∷ cs) o =
    elim (side lo hi c.lo c.hi) [
      | inl h ↦ subst (AreCellsFrom lo hi k) (sym (keep lo hi c cs h)) (h, o.1, o.2)
      | inr h ↦ subst (AreCellsFrom lo hi k) (sym (skip lo hi c cs h)) (after_from c.lo (c.hi + 1) k lo hi cs o.2)
    ]
  where
    side : (lo hi x y : ℕ) → ((lo < x) ⊎ ((lo ≡ x) × (hi ≤ y))) ⊎ Before x y lo hi
    side lo hi x y = grind arith

rows_by : (k lo : ℕ) (bins : List Bin) (rest : List Cell) → AreCellsFrom (lo + 1) 0 k rest
    → rows_of (map (cell_in lo) bins ++ rest) ≡ row_of lo bins ++ rows_of rest
rows_by k lo [] rest o = refl
rows_by k lo (b ∷ bins) rest o =
    ap (λ (l : List Cell). rows_of (map (cell_in lo) (b ∷ bins) ++ l)) (sym (cells_again rest))
    ∙ row_again lo k b bins (rows_of rest) (rows_from (lo + 1) k rest o) (ap rows_of (cells_again rest))

-- and so are the rows
pub rows_row : (k lo : ℕ) (cs : List Cell) → AreCellsFrom 0 0 k cs → lo < k
    → rows_of (cells_after lo 0 cs) ≡ row_of lo (bins_from (count_of cs lo) (lo + 1) (k - 1 - lo)) ++ rows_of (cells_after (lo + 1) 0 cs)
rows_row k lo cs o lt =
    ap rows_of (cells_row k lo cs o lt)
    ∙ rows_by k lo (bins_from (count_of cs lo) (lo + 1) (k - 1 - lo)) (cells_after (lo + 1) 0 cs) (after_from 0 0 k (lo + 1) 0 cs o)

-- behind the last row there is nothing
pub after_end : (a b k lo : ℕ) (cs : List Cell) → AreCellsFrom a b k cs → k ≤ lo + 1 → cells_after lo 0 cs ≡ []
after_end a b k lo [] o h = refl
after_end a b k lo (c ∷ cs) o h = skip lo 0 c cs (inl (omega (arith, h, o.1.ordered, o.1.within))) ∙ after_end c.lo (c.hi + 1) k lo cs o.2 h
