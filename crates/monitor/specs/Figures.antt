-- What is kept of samples that come in pieces.
use Rattle.std.specs.Prelude.{◌≡◌, ◌<◌, ◌-◌, ◌^◌, ℕ, ℤ, List, length, slice_index, sum}
use Rattle.calibration.specs.Gain.{GainValue}
use Rattle.calibration.specs.Grid.{GridValue}
use Rattle.turning_points.specs.three_point.Run.{CountedRange, half_units_at_range}
use Rattle.recount.specs.Counted.{HasCountedSamples}
use Rattle.recount.specs.declared.running.RunningCount.{RunningCount}

-- the half units that a count by range has room for
abbrev pub MOST_HALF_UNITS : ℕ
MOST_HALF_UNITS = 2 ^ 64 - 1

-- these half units are those of a list of ranges, at each range
abbrev pub HoldHalfUnits : List ℕ → List CountedRange → Type 0
HoldHalfUnits half_units ranges =
    (k : ℕ) → k < length half_units → slice_index half_units k ≡ half_units_at_range k ranges

-- By a gain and a grid: what a count by range, which began with no half unit, has come to over the samples w.
abbrev pub AreFigures : GridValue → GainValue → RunningCount (List ℕ) → List ℤ → Type 0
AreFigures grid gain f w =
    HasCountedSamples (λ (h : List ℕ). length h) (λ (h : List ℕ). MOST_HALF_UNITS - sum h) HoldHalfUnits MOST_HALF_UNITS
    grid gain f w
