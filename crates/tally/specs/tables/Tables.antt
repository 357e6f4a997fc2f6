-- Tables of counts.
--   raise, lower     one more, one less at a place
--   sum_of_tables    two tables, place by place
--   is_at            1 where two places are the same
--   table_with_bins  a table after bins were put into it
use Rattle.std.specs.Prelude.{ℕ, ◌+◌, ◌-◌, List, [], ◌∷◌, slice_index, slice_set, ◌==◌, if◌then◌else◌}
use Rattle.tally.specs.declared.cells.Bin.{Bin}

-- one more, one less at a place
abbrev pub raise : List ℕ → ℕ → List ℕ
raise t i = slice_set t i (slice_index t i + 1)

abbrev pub lower : List ℕ → ℕ → List ℕ
lower t i = slice_set t i (slice_index t i - 1)

-- place by place
abbrev pub sum_of_tables : List ℕ → List ℕ → List ℕ
sum_of_tables [] ys = []
sum_of_tables (x ∷ xs) [] = x ∷ xs
sum_of_tables (x ∷ xs) (y ∷ ys) = (x + y) ∷ sum_of_tables xs ys

abbrev pub is_at : ℕ → ℕ → ℕ
is_at k r = if r == k then 1 else 0

-- each bin puts its count at its key's place, so many places further on
abbrev pub table_with_bins : ℕ → List ℕ → List Bin → List ℕ
table_with_bins by t [] = t
table_with_bins by t (b ∷ bins) = table_with_bins by (slice_set t (b.key + by) b.n) bins
