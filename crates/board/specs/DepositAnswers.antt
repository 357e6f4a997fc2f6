-- What a deposit answers.
--   HasSample        a name names an interval that has a sample
--   IsDepositAnswer  the answer, and what it leaves
--   IsBlockNumber    the number of a name among the blocks of a window, where it is one
use Rattle.std.specs.Prelude.{◌≡◌, ◌+◌, ◌*◌, ◌≤◌, ◌<◌, ◌++◌, ◌∷◌, [], ℕ, Option, Some, None, slice_index_or}
use Rattle.segment.specs.declared.segment_rules.name.Name.{Name}
use Rattle.segment.specs.Segment.{SegmentValue}
use Rattle.segment.specs.Name.{name_of}
use Rattle.board.specs.flow.Flow.{hits}
use Rattle.board.specs.Board.{BoardValue, Row, IsBlockOf, Fits}
use Rattle.board.specs.declared.windows.Deposit.{Deposit}
use Rattle.board.specs.declared.windows.Deposit.TheVariants.{Placed, Stranger, Double}
use Rattle.board.specs.declared.flow.TheConstants.{BLOCKS_PER_WINDOW}

pub record HasSample (b : BoardValue) (g i : ℕ) (n : Name) : Type 0 where
  pub place : ℕ
  pub within : place < BLOCKS_PER_WINDOW
  pub interval : (r : Row) (d : SegmentValue) → n ≡ name_of (slice_index_or (slice_index_or b.rows g r).slots place d)
  pub from : n.from ≤ i
  pub to : i < n.to

-- A block of the board's window is placed where nothing has its first sample.
abbrev pub IsDepositAnswer : BoardValue → BoardValue → SegmentValue → Deposit → Type 0
IsDepositAnswer old new s Placed =
    Fits old (name_of s) × (hits s.gauge s.from old.arrivals ≡ 0) × (new.arrivals ≡ old.arrivals ++ name_of s ∷ [])
IsDepositAnswer old new s (Stranger n) = (Fits old (name_of s) → ⊥) × (n ≡ name_of s) × (new ≡ old)
IsDepositAnswer old new s (Double n) =
    Fits old (name_of s) × (1 ≤ hits s.gauge s.from old.arrivals) × HasSample old s.gauge s.from n × (new ≡ old)

abbrev pub IsBlockNumber : ℕ → ℕ → ℕ → Name → Option ℕ → Type 0
IsBlockNumber block gauges start n (Some k) =
    (k < BLOCKS_PER_WINDOW) × (n.gauge < gauges) × (n.from < n.to) × (n.to ≤ n.from + block)
    × (n.from ≡ start + k * block) × (n.to ≤ start + BLOCKS_PER_WINDOW * block)
IsBlockNumber block gauges start n None = IsBlockOf block gauges start n → ⊥
