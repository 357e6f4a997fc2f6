-- How a lane stands to its recording.
--   SourceStands  where its source stands
--   IsLane        so it does, and has its gauge's gain; AreLanes: each of a list
--   AreReady      each lane may be read in a round
--   AreHeldTo     so it may, and each gauge is held up to where its lane is
--   IsFaulty      a read fault has raised its source's count
--   HasNoFaults   no call of its source failed
use Rattle.std.specs.Prelude.{◌≡◌, ◌≢◌, ◌<◌, ◌≤◌, ℕ, ℤ, List, length, drop, Some, slice_index, slice_index_or}
use Rattle.recording.specs.Samples.{samples, torn_bytes}
use Rattle.calibration.specs.declared.limits.TheConstants.{MAX_SAMPLES}
use Rattle.calibration.specs.Gain.{GainValue}
use Rattle.recording.specs.declared.lane_ends.end.End.{End}
use Rattle.recording.specs.declared.lane_ends.end.End.TheVariants.{More, Ended, Torn, ReadFault, TooLong}
use Rattle.count_workers.specs.declared.lane_loans.lane.Lane.{Lane}
use Rattle.count_workers.specs.lane_loans.Lent.{CanRound}
use Rattle.site_config.specs.recorded.Recorded.{Recorded}

-- of these samples, and so many bytes behind them, `at` samples were read, and the source has `left`
abbrev pub SourceStands : List ℤ → ℕ → List ℕ → ℕ → End → Type 0
SourceStands w torn left at More = (samples left ≡ drop at w) × (torn_bytes left ≡ torn)
SourceStands w torn left at Ended = (at ≡ length w) × (torn ≡ 0)
SourceStands w torn left at (Torn bytes) = (at ≡ length w) × (torn ≡ bytes) × (0 < bytes)
SourceStands w torn left at ReadFault = Unit {0}
SourceStands w torn left at TooLong = (at ≡ MAX_SAMPLES) × (MAX_SAMPLES < length w)

-- what is said of the recording holds where the source tells
pub record IsLane {C : Type 0} (tells : Type 0) (left : C → List ℕ) (r : Recorded) (g : ℕ)
    (lane : Lane C) : Type 0 where
  pub gain : (d : GainValue) → lane.gain ≡ slice_index_or r.setup.gains g d
  pub within : tells → lane.at ≤ length (r.samples g)
  pub stood : tells → (src : C) → lane.src ≡ Some src →
      SourceStands (r.samples g) (r.torn g) (left src) lane.at lane.end

abbrev pub AreLanes : {C : Type 0} → Type 0 → (C → List ℕ) → Recorded → List (Lane C) → Type 0
AreLanes {C} tells left r lanes =
    (g : ℕ) (d : Lane C) → g < length lanes → IsLane tells left r g (slice_index_or lanes g d)

abbrev pub AreReady : {C : Type 0} → List (Lane C) → Type 0
AreReady {C} lanes = (g : ℕ) (d : Lane C) → g < length lanes → CanRound g (slice_index_or lanes g d)

abbrev pub AreHeldTo : {C : Type 0} → List ℕ → List (Lane C) → Type 0
AreHeldTo {C} ends lanes = (g : ℕ) (d : Lane C) → g < length lanes
    → CanRound g (slice_index_or lanes g d) × (slice_index ends g ≡ (slice_index_or lanes g d).at)

module _ {C : Type 0} where
  pub record HasSource (lane : Lane C) : Type 0 where
    pub src : C
    pub has : lane.src ≡ Some src

  abbrev pub IsNew : Lane C → Type 0
  IsNew lane = lane.end ≡ More

  abbrev pub HasEnded : Lane C → Type 0
  HasEnded lane = lane.end ≢ More

  -- it didn't end by a read fault
  abbrev pub HasNotFailed : Lane C → Type 0
  HasNotFailed lane = lane.end ≢ ReadFault

  -- nor because it is too long
  abbrev pub IsWhole : Lane C → Type 0
  IsWhole lane = (lane.end ≢ ReadFault) × (lane.end ≢ TooLong)

  abbrev pub HasNoFaults : (C → ℕ) → Lane C → Type 0
  HasNoFaults faults lane = (src : C) → lane.src ≡ Some src → faults src ≡ 0

  abbrev pub IsFaulty : (C → ℕ) → Lane C → Type 0
  IsFaulty faults lane = (src : C) → lane.src ≡ Some src → lane.end ≡ ReadFault → 0 < faults src
