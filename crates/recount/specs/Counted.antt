-- What a running count and a recount have come to.
--   HasCountedSamples   what is kept of samples that come in pieces
--   IsRecount           what was found of samples when all were read
use Rattle.std.specs.Prelude.{◌≡◌, ◌<◌, ◌≤◌, ◌+◌, ◌-◌, ℕ, ℤ, List, length}
use Rattle.calibration.specs.Gain.{GainValue}
use Rattle.calibration.specs.Grid.{GridValue}
use Rattle.calibration.specs.History.{history}
use Rattle.turning_points.specs.Turned.{HasGiven}
use Rattle.turning_points.specs.three_point.Run.{CountedRange, half_units_of_pair, three_point}
use Rattle.turning_points.specs.three_point.Live.{HasCounted}
use Rattle.tally.specs.Counts.{Counts, count_of, total_of}
use Rattle.tally.specs.declared.cells.TheConstants.{MAX_TOTAL}
use Rattle.segment.specs.Counts.{kinds_of}
use Rattle.recount.specs.declared.running.RunningCount.{RunningCount}
use Rattle.recount.specs.declared.count.Recount.{Recount}

-- the half units of each pair in these ranges
abbrev pub HoldsPairs : Counts → List CountedRange → Type 0
HoldsPairs t given = (lo hi : ℕ) → lo < hi → count_of t.cells lo hi ≡ half_units_of_pair lo hi given

-- By a gain and a grid: how many of the samples w are of each kind, and what the run handed to a counter of the points
-- of their history that no further sample can take away, with the live points and the last two points that the history
-- goes on from. The counter, with the members of its trait, had room for `start` half units, and a half unit is left
-- for each sample still to come.
pub record HasCountedSamples {C : Type 0} (classes room : C → ℕ) (holds : C → List CountedRange → Type 0) (start : ℕ)
    (grid : GridValue) (gain : GainValue) (count : RunningCount C) (w : List ℤ) : Type 0 where
  pub counts : count.counts ≡ kinds_of grid gain w
  pub decided : List ℕ
  pub turned : HasGiven (history grid gain w) decided count.turner
  pub counted : HasCounted decided count.run.live (holds count.counter)
  pub levels : count.run.classes ≡ grid.classes
  pub takes : classes count.counter ≡ grid.classes
  pub enough : MAX_TOTAL ≤ start
  pub places : start + length count.run.live ≤ room count.counter + count.counts.used

-- the same of a counter by pair, which begins with nothing
abbrev pub HasCountedPairs : GridValue → GainValue → RunningCount Counts → List ℤ → Type 0
HasCountedPairs grid gain count w =
    HasCountedSamples (λ (t : Counts). t.classes) (λ (t : Counts). MAX_TOTAL - total_of t.cells) HoldsPairs MAX_TOTAL
    grid gain count w

-- By a gain and a grid: how many of the samples w are of each kind, and the half units of each pair of levels in the
-- three-point count of their history.
pub record IsRecount (grid : GridValue) (gain : GainValue) (r : Recount) (w : List ℤ) : Type 0 where
  pub counts : r.counts ≡ kinds_of grid gain w
  pub classes : r.pairs.classes ≡ grid.classes
  pub halves : (lo hi : ℕ) → lo < hi → count_of r.pairs.cells lo hi ≡ three_point (history grid gain w) lo hi
