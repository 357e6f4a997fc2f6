-- Cells in order, one by one from a pair on: another form of `AreCells`.
use Rattle.std.proofs.Common.{◌≡◌, ◌⊎◌, ℕ, ◌+◌, ◌<◌, ◌≤◌, List, [], ◌∷◌, arith}
use Rattle.std.specs.Prelude.{All, slice_index_or}
use Rattle.std.proofs.lemmas.List.Elements.{All-nil, All-cons, All-head, All-tail}
use Rattle.std.proofs.lemmas.List.Kept.{AllPairs-cons}
use Rattle.tally.specs.declared.cells.Cell.{Cell}
use Rattle.tally.specs.Counts.{Before, IsAscending, IsCell}
use Rattle.tally.proofs.Equal.{ascending_head, ascending_tail}
use Rattle.segment.specs.segment_rules.Rules.{AreCells}

-- the cell is at or after the pair
abbrev pub IsFrom : ℕ → ℕ → Cell → Type 0
IsFrom lo hi c = (lo < c.lo) ⊎ ((lo ≡ c.lo) × (hi ≤ c.hi))

-- cells ascend strictly from (lo, hi) on, below so many classes, and none counts nothing
abbrev pub AreCellsFrom : ℕ → ℕ → ℕ → List Cell → Type 0
AreCellsFrom lo hi classes [] = Unit {0}
AreCellsFrom lo hi classes (c ∷ cs) = IsFrom lo hi c × IsCell classes c × AreCellsFrom c.lo (c.hi + 1) classes cs

from_before : (c d : Cell) → Before c.lo c.hi d.lo d.hi → IsFrom c.lo (c.hi + 1) d
from_before c d b = grind arith

before_from : (c d : Cell) → IsFrom c.lo (c.hi + 1) d → Before c.lo c.hi d.lo d.hi
before_from c d f = grind arith

from_further : (lo hi : ℕ) (c d : Cell) → IsFrom lo hi c → IsFrom c.lo (c.hi + 1) d → IsFrom lo hi d
from_further lo hi c d f g = grind arith

-- all are at or after the pair that the first is at or after
all_from : (lo hi k : ℕ) (cs : List Cell) → AreCellsFrom lo hi k cs → All (IsFrom lo hi) cs
all_from lo hi k [] a = All-nil (IsFrom lo hi)
all_from lo hi k (c ∷ cs) a = All-cons (IsFrom lo hi) c cs a.0
    (λ i d h. from_further lo hi c (slice_index_or cs i d) a.0 (all_from c.lo (c.hi + 1) k cs a.2 i d h))

in_order_from : (lo hi k : ℕ) (cs : List Cell) → All (IsFrom lo hi) cs → All (IsCell k) cs → IsAscending cs → AreCellsFrom lo hi k cs
in_order_from lo hi k [] f e a = tt
in_order_from lo hi k (c ∷ cs) f e a = (
  All-head (IsFrom lo hi) c cs f,
  All-head (IsCell k) c cs e,
  in_order_from c.lo (c.hi + 1) k cs (λ i d h. from_before c (slice_index_or cs i d) (ascending_head c cs a i d h))
      (All-tail (IsCell k) c cs e) (ascending_tail c cs a),
)

from_none : (c : Cell) → IsFrom 0 0 c
from_none c = grind arith

pub cells_in_order : (k : ℕ) (cs : List Cell) → AreCells k cs → AreCellsFrom 0 0 k cs
cells_in_order k cs a = in_order_from 0 0 k cs (λ i d h. from_none (slice_index_or cs i d)) a.each a.ascending

each_cell : (lo hi k : ℕ) (cs : List Cell) → AreCellsFrom lo hi k cs → All (IsCell k) cs
each_cell lo hi k [] a = All-nil (IsCell k)
each_cell lo hi k (c ∷ cs) a = All-cons (IsCell k) c cs a.1 (each_cell c.lo (c.hi + 1) k cs a.2)

ascending_from : (lo hi k : ℕ) (cs : List Cell) → AreCellsFrom lo hi k cs → IsAscending cs
ascending_from lo hi k [] a = λ i j d g h. absurd (omega arith)
ascending_from lo hi k (c ∷ cs) a =
    AllPairs-cons (λ c d. Before c.lo c.hi d.lo d.hi) c cs (λ i d h. before_from c (slice_index_or cs i d)
    (all_from c.lo (c.hi + 1) k cs a.2 i d h)) (ascending_from c.lo (c.hi + 1) k cs a.2)

pub are_cells : (lo hi k : ℕ) (cs : List Cell) → AreCellsFrom lo hi k cs → AreCells k cs
are_cells lo hi k cs a = record { each = each_cell lo hi k cs a; ascending = ascending_from lo hi k cs a }
