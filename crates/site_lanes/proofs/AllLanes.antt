-- From what a round does to each lane to what a run keeps of all of them.
use Rattle.std.proofs.Common.{◌≡◌, ◌≤◌, ◌<◌, ℕ, ◌+◌, ◌*◌, min, List, length, sym, ◌∙◌, arith}
use Rattle.std.specs.Prelude.{slice_index_or}
use Rattle.std.specs.List.{All}
use Rattle.calibration.specs.declared.limits.TheConstants.{MAX_SAMPLES}
use Rattle.recording.specs.declared.lane_ends.end.End.TheVariants.{More, ReadFault, TooLong}
use Rattle.count_workers.specs.declared.lane_loans.lane.Lane.{Lane}
use Rattle.count_workers.specs.round_making.Resting.{PreparedValue}
use Rattle.count_workers.specs.round_making.Round.{LaneDone, RoundDone}
use Rattle.site_config.specs.recorded.Recorded.{Recorded}
use Rattle.site_lanes.specs.Lanes.{AreReady, AreLanes, HasSource, IsFaulty, IsWhole}
use Rattle.site_lanes.proofs.AfterRound.{lane_after, faulty_after, reached}
use Rattle.board.specs.declared.flow.TheConstants.{BLOCKS_PER_WINDOW}

module _ {C : Type 0} {tells : Type 0} {left : C → List ℕ} {faults : C → ℕ} {old new : PreparedValue} {lanes lanes2 : List (Lane C)}
    (done : RoundDone tells left faults old new lanes lanes2) (count : length lanes ≡ old.gauges) (ready : AreReady lanes) where
  lane : (g : ℕ) (d : Lane C) → g < length lanes2
      → LaneDone tells left faults old.block (slice_index_or lanes g d) (slice_index_or lanes2 g d)
  lane g d lt = done.lane g d (omega (arith, lt, done.long, count))

  known : (g : ℕ) → g < length lanes2 → g < length lanes
  known g lt = omega (arith, lt, done.long)

  limit : (g : ℕ) (d : Lane C) → g < length lanes2 → (slice_index_or lanes g d).at ≤ MAX_SAMPLES
  limit g d lt = (ready g d (known g lt)).at

  pub ready_after : AreReady lanes2
  ready_after g d lt = record {
    src = (lane g d lt).now;
    has = (lane g d lt).has;
    gauge = (lane g d lt).gauge ∙ (ready g d (known g lt)).gauge;
    at = (lane g d lt).limit;
  }

  pub lanes_after : (r : Recorded) → AreLanes tells left r lanes → AreLanes tells left r lanes2
  lanes_after r are g d lt = lane_after (lane g d lt) (limit g d lt) r g (are g d (known g lt))

  pub all_faulty_after : All (IsFaulty faults) lanes → All (IsFaulty faults) lanes2
  all_faulty_after were g d lt = faulty_after (lane g d lt) (limit g d lt) (were g d (known g lt))

  pub sources_after : All HasSource lanes2
  sources_after g d lt = record { src = (lane g d lt).now; has = (lane g d lt).has }

  -- a lane that is whole now was before
  pub whole_before : All IsWhole lanes2 → All IsWhole lanes
  whole_before whole g d lt =
      let lt2 : g < length lanes2 = omega (arith, lt, done.long) in
      let l = lane g d lt2 in
      let now = whole g d lt2 in (
        (λ e. now.0 ((l.ended (λ f. no_read (sym f ∙ e))).1 ∙ e)),
        (λ e. now.1 ((l.ended (λ f. no_long (sym f ∙ e))).1 ∙ e)),
      )
    where
      no_read : More ≡ ReadFault → ⊥
      no_read e = cc

      no_long : More ≡ TooLong → ⊥
      no_long e = cc

  -- each round brings a lane that is whole a round further, up to the end of its recording
  pub all_reached : (r : Recorded) (a : ℕ → ℕ) → tells → AreLanes tells left r lanes → All IsWhole lanes2
      → ((g : ℕ) (d : Lane C) → g < length lanes → (slice_index_or lanes g d).at ≡ min (a g) (length (r.samples g)))
      → (g : ℕ) (d : Lane C) → g < length lanes2 → (slice_index_or lanes2 g d).at
      ≡ min (a g + BLOCKS_PER_WINDOW * old.block) (length (r.samples g))
  all_reached r a t are whole was g d lt =
      reached (lane g d lt) (limit g d lt) r g (a g) t (are g d (known g lt)) (whole g d lt).0 (whole g d lt).1 (was g d (known g lt))
