-- The lanes are a round ahead of what was told.
use Rattle.std.proofs.Common.{◌≡◌, ◌<◌, ◌++◌, ℕ, suc, List, length, ◌∙◌, arith}
use Rattle.std.specs.List.{All}
use Rattle.std.specs.Prelude.{slice_index, slice_index_or}
use Rattle.outside.specs.station.Station.{Lines}
use Rattle.count_workers.specs.declared.lane_loans.lane.Lane.{Lane}
use Rattle.count_workers.proofs.on_lane_loans.Walking.{some_of}
use Rattle.count_workers.specs.round_making.Resting.{PreparedValue}
use Rattle.count_workers.specs.round_making.Round.{RoundDone}
use Rattle.site_config.specs.recorded.Recorded.{Recorded}
use Rattle.count_command.specs.held_samples.Told.{round_lines, held_lines, held_after}
use Rattle.site_lanes.specs.Lanes.{AreLanes, AreHeldTo, IsWhole}
use Rattle.count_command.specs.held_rounds.Telling.{HasTold}
use Rattle.count_command.proofs.on_held_rounds.RoundOf.{at_next, lines_more}

pub record IsAhead {C : Type 0} (block : ℕ) (r : Recorded) (n : List ℕ) (told told2 : Lines) (ends : List ℕ)
    (lanes : List (Lane C)) : Type 0 where
  pub rounds : ℕ
  pub are : told2 ≡ told ++ held_lines block r n rounds
  pub ends_at : (g : ℕ) → g < r.gauges → slice_index ends g ≡ held_after block r n rounds g
  pub at : (g : ℕ) (d : Lane C) → g < length lanes → (slice_index_or lanes g d).at ≡ held_after block r n (suc rounds) g

held_at : {C : Type 0} (block : ℕ) (r : Recorded) (n : List ℕ) (k : ℕ) (ends : List ℕ) (lanes : List (Lane C)) → r.gauges ≡ length lanes →
    AreHeldTo ends lanes
    → ((g : ℕ) (d : Lane C) → g < length lanes → (slice_index_or lanes g d).at ≡ held_after block r n k g)
    → (g : ℕ) → g < r.gauges → slice_index ends g ≡ held_after block r n k g
held_at block r n k ends lanes many held at g lt =
    let within : g < length lanes = omega (arith, lt, many) in
    let d = some_of lanes (omega (arith, within)) in (held g d within).1 ∙ at g d within

module _ {C : Type 0} {tells : Type 0} {left : C → List ℕ} {faults : C → ℕ} {old new : PreparedValue} {lanes lanes2 : List (Lane C)}
    (done : RoundDone tells left faults old new lanes lanes2) (count : length lanes ≡ old.gauges) (r : Recorded)
    (many : r.gauges ≡ length lanes)
    (t : tells) (are : AreLanes tells left r lanes) (n : List ℕ) (told : Lines) where
  -- after the first round
  pub ahead_first : (told2 : Lines) (ends : List ℕ) → AreHeldTo ends lanes → All IsWhole lanes2 → HasTold old.block r n told told2 lanes
      → IsAhead old.block r n told told2 ends lanes2
  ahead_first told2 ends held whole was = record {
    rounds = was.rounds;
    are = was.are;
    ends_at = held_at old.block r n was.rounds ends lanes many held was.at;
    at = at_next done ends held count r n was.rounds t are whole was.at;
  }

  -- after one more, and the puts of the one before
  pub ahead_on : (told2 told3 : Lines) (ends ends2 : List ℕ) → AreHeldTo ends2 lanes → All IsWhole lanes2
      → told3 ≡ told2 ++ round_lines r.names (slice_index ends) (slice_index ends2) r.gauges
      → IsAhead old.block r n told told2 ends lanes → IsAhead old.block r n told told3 ends2 lanes2
  ahead_on told2 told3 ends ends2 held whole here was =
      let to = held_at old.block r n (suc was.rounds) ends2 lanes many held was.at in
      record {
        rounds = suc was.rounds;
        are = lines_more r n old.block was.rounds told told2 told3 (slice_index ends) (slice_index ends2) was.are was.ends_at to here;
        ends_at = to;
        at = at_next done ends2 held count r n (suc was.rounds) t are whole was.at;
      }

-- after the last puts
pub ahead_last : {C : Type 0} (block : ℕ) (r : Recorded) (n : List ℕ) (told told2 told3 : Lines) (ends ends2 : List ℕ)
    (lanes : List (Lane C))
    → r.gauges ≡ length lanes → AreHeldTo ends2 lanes → told3 ≡ told2 ++ round_lines r.names (slice_index ends) (slice_index ends2) r.gauges
    → IsAhead block r n told told2 ends lanes → HasTold block r n told told3 lanes
ahead_last block r n told told2 told3 ends ends2 lanes many held here was = record {
  rounds = suc was.rounds;
  are = lines_more r n block was.rounds told told2 told3 (slice_index ends) (slice_index ends2) was.are was.ends_at
      (held_at block r n (suc was.rounds) ends2 lanes many held was.at) here;
  at = was.at;
}
