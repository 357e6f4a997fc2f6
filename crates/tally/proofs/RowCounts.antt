-- The counts of a row, as a table or a log gives them.
use Rattle.std.proofs.Common.{◌≡◌, ℕ, suc, ◌+◌, ◌<◌, ◌≤◌, ◌^◌, ◌⊎◌, inl, inr, List, length, take, arith}
use Rattle.std.specs.Prelude.{slice_index, slice_index_or}
use Rattle.std.proofs.lemmas.Bool.{cases_lt}
use Rattle.std.proofs.lemmas.List.{get_or_past}
use Rattle.std.proofs.lemmas.List.Sums.{sum_by_more_le}
use Rattle.tally.specs.declared.cells.Cell.{Cell}
use Rattle.tally.specs.Counts.{total_of}
use Rattle.tally.specs.Layout.{row_start}
use Rattle.tally.specs.Log.{amount}
use Rattle.tally.proofs.Places.{rows_ascend}
use Rattle.tally.proofs.LogCells.{amount_le}

-- a row ends within the table
pub row_end : (k lo n m : ℕ) → lo + 1 + n ≡ k → m ≡ row_start k k → row_start k lo + n ≤ m
row_end k lo n m e f = omega (arith, rows_ascend k (suc lo) k (omega arith))

module _ (entries : List Cell) (out : List ℕ) (lo i k : ℕ) (d : Cell) (within : i < length entries) where
  fits_by : total_of entries < 2 ^ 64 → ((k : ℕ) → k < length out → slice_index out k ≡ amount (take i entries) lo (lo + 1 + k)) →
      ((k < length out) ⊎ (length out ≤ k)) → slice_index out k + (slice_index_or entries i d).n < 2 ^ 64
  fits_by total so_far (inl lt) =
      omega (arith, so_far k lt, amount_le (take i entries) lo (lo + 1 + k), sum_by_more_le (λ c. c.n) entries i d within)
  fits_by total so_far (inr le) = omega (arith, get_or_past out k 0 le, sum_by_more_le (λ c. c.n) entries i d within)

  -- one entry more does not wrap
  pub row_fits : total_of entries < 2 ^ 64 → ((k : ℕ) → k < length out → slice_index out k ≡ amount (take i entries) lo (lo + 1 + k)) →
      slice_index out k + (slice_index_or entries i d).n < 2 ^ 64
  row_fits total so_far = fits_by total so_far (cases_lt k (length out))
