-- The recordings that are made from a seed, and how they are counted.
--   demo_grid, demo_gain   128 classes of 1 N/mm² from -64 N/mm² on, and a raw value of 1 is 1 N/mm²
--   made_at                the samples of a gauge: those from the seed and its number
--   IsStart                a lane at the start of its recording
use Rattle.std.specs.Prelude.{◌≡◌, ℕ, ◌+◌, ℤ, pos, List, Some}
use Rattle.recording.specs.Samples.{sample_bytes}
use Rattle.recording.specs.Synth.{made_samples}
use Rattle.calibration.specs.Gain.{GainValue}
use Rattle.calibration.specs.Grid.{GridValue}
use Rattle.calibration.specs.History.{history}
use Rattle.recording.specs.declared.lane_ends.end.End.TheVariants.{More}
use Rattle.count_workers.specs.declared.lane_loans.lane.Lane.{Lane}
use Rattle.demo_command.specs.declared.made.TheConstants.{CLASSES, WIDTH, LOW_KPA, REFERENCE, KPA}

abbrev pub demo_grid : GridValue
demo_grid = record { classes = CLASSES; w2 = WIDTH; low_kpa = LOW_KPA; reference = REFERENCE }

abbrev pub demo_gain : GainValue
demo_gain = record { num = KPA; den = 1; offset = pos 0 }

abbrev pub made_at : ℕ → ℕ → ℕ → List ℤ
made_at seed samples g = made_samples samples (seed + g)

abbrev pub levels_at : ℕ → ℕ → ℕ → List ℕ
levels_at seed samples g = history demo_grid demo_gain (made_at seed samples g)

-- a lane whose source has all bytes of its recording left
pub record IsStart (seed samples g : ℕ) (lane : Lane (List ℕ)) : Type 0 where
  pub gauge : lane.gauge ≡ g
  pub gain : lane.gain ≡ demo_gain
  pub at : lane.at ≡ 0
  pub end : lane.end ≡ More
  pub src : lane.src ≡ Some (sample_bytes (made_at seed samples g))
