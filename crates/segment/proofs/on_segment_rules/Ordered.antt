-- The order rule: the test finds what the rule says.
use Rattle.std.proofs.Common.{◌≡◌, ℕ, ◌+◌, ◌<◌, ◌≤◌, true, List, [], ◌∷◌, Some, None, refl, ap, ◌∙◌, arith}
use Rattle.std.specs.Prelude.{if◌then◌else◌}
use Rattle.std.proofs.lemmas.Bool.Decides.{nat_tests}
use Rattle.tally.specs.declared.cells.Cell.{Cell}
use Rattle.tally.specs.declared.cells.Bin.{Bin}
use Rattle.tally.specs.Counts.{IsCell}
use Rattle.tally.specs.tables.Bins.{AreBinsFrom}
use Rattle.lemmas.proofs.Outcomes.{none_passed}
use Rattle.segment.specs.segment_rules.Rules.{AreCells}
use Rattle.segment.specs.segment_rules.Tests.{is_cell_from, wrong_cell, is_bin_from, wrong_bin}
use Rattle.segment.proofs.on_segment_rules.CellsFrom.{IsFrom, AreCellsFrom, cells_in_order, are_cells}

cell_parts : (lo hi k : ℕ) (c : Cell) → is_cell_from lo hi k c ≡ true → IsFrom lo hi c × ((c.lo < c.hi) × ((c.hi < k) × (0 < c.n)))
cell_parts lo hi k c e = grind (arith, nat_tests)

cell_of : (lo hi k : ℕ) (c : Cell) → is_cell_from lo hi k c ≡ true → IsFrom lo hi c × IsCell k c
cell_of lo hi k c e = let p = cell_parts lo hi k c e in (p.0, record { ordered = p.1.0; within = p.1.1.0; positive = p.1.1.1 })

parts_true : (lo hi k : ℕ) (c : Cell) → IsFrom lo hi c → c.lo < c.hi → c.hi < k → 0 < c.n → is_cell_from lo hi k c ≡ true
parts_true lo hi k c f a b d = grind (arith, nat_tests)

bin_of : (from to : ℕ) (b : Bin) → is_bin_from from to b ≡ true → (from ≤ b.key) × ((b.key < to) × (0 < b.n))
bin_of from to b e = grind (arith, nat_tests)

bin_true : (from to : ℕ) (b : Bin) → from ≤ b.key → b.key < to → 0 < b.n → is_bin_from from to b ≡ true
bin_true from to b a d e = grind (arith, nat_tests)

cells_from : (lo hi k i : ℕ) (cs : List Cell) → wrong_cell lo hi k i cs ≡ None → AreCellsFrom lo hi k cs
cells_from lo hi k i [] e = tt
cells_from lo hi k i (c ∷ cs) e =
    let t = none_passed (is_cell_from lo hi k c) (wrong_cell c.lo (c.hi + 1) k (i + 1) cs) i e in
    let o = cell_of lo hi k c t.0 in
    (o.0, o.1, cells_from c.lo (c.hi + 1) k (i + 1) cs t.1)

no_cell_wrong : (lo hi k i : ℕ) (cs : List Cell) → AreCellsFrom lo hi k cs → wrong_cell lo hi k i cs ≡ None
no_cell_wrong lo hi k i [] a = refl
no_cell_wrong lo hi k i (c ∷ cs) a =
    ap (λ b. if b then wrong_cell c.lo (c.hi + 1) k (i + 1) cs else Some i) (parts_true lo hi k c a.0 a.1.ordered a.1.within a.1.positive)
    ∙ no_cell_wrong c.lo (c.hi + 1) k (i + 1) cs a.2

pub cells_kept : (k : ℕ) (cs : List Cell) → wrong_cell 0 0 k 0 cs ≡ None → AreCells k cs
cells_kept k cs e = are_cells 0 0 k cs (cells_from 0 0 k 0 cs e)

pub kept_cells : (k : ℕ) (cs : List Cell) → AreCells k cs → wrong_cell 0 0 k 0 cs ≡ None
kept_cells k cs a = no_cell_wrong 0 0 k 0 cs (cells_in_order k cs a)

pub bins_kept : (from to i : ℕ) (bs : List Bin) → wrong_bin from to i bs ≡ None → AreBinsFrom from to bs
bins_kept from to i [] e = tt
bins_kept from to i (b ∷ bs) e =
    let t = none_passed (is_bin_from from to b) (wrong_bin (b.key + 1) to (i + 1) bs) i e in
    let o = bin_of from to b t.0 in
    (o.0, o.1.0, o.1.1, bins_kept (b.key + 1) to (i + 1) bs t.1)

pub kept_bins : (from to i : ℕ) (bs : List Bin) → AreBinsFrom from to bs → wrong_bin from to i bs ≡ None
kept_bins from to i [] a = refl
kept_bins from to i (b ∷ bs) a =
    ap (λ t. if t then wrong_bin (b.key + 1) to (i + 1) bs else Some i) (bin_true from to b a.0 a.1 a.2)
    ∙ kept_bins (b.key + 1) to (i + 1) bs a.3
