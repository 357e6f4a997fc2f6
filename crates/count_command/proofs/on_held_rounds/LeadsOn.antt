-- The board that a round filled leads on from what was stored beside it.
use Rattle.std.proofs.Common.{◌≡◌, ◌<◌, ℕ, List, length, refl, sym, ◌∙◌, ap, subst, arith}
use Rattle.std.specs.Prelude.{Result, Ok, Err, OnOk, slice_index}
use Rattle.calibration.specs.declared.setup.Setup.{Setup}
use Rattle.board.specs.Board.{BoardValue}
use Rattle.count_workers.specs.declared.lane_loans.lane.Lane.{Lane}
use Rattle.count_workers.specs.lane_loans.Lent.{at_of}
use Rattle.count_workers.specs.round_making.Resting.{PreparedValue, IsSameBut}
use Rattle.count_workers.specs.round_making.Round.{RoundDone}
use Rattle.site_config.specs.recorded.Recorded.{Recorded}
use Rattle.count_command.specs.held_samples.Fronts.{AreFronts, FrontsEnd, FrontsStand}
use Rattle.count_command.specs.held_rounds.Beside.{Leads, IsBoardFor}
use Rattle.site_lanes.specs.Lanes.{AreLanes, AreReady, AreHeldTo}
use Rattle.site_lanes.proofs.AllLanes.{lanes_after}
use Rattle.count_command.proofs.on_held_rounds.RoundOf.{at_is, can_first, fronts_next, fronts_end, fronts_stand}

-- from where the lanes were
module _ {C : Type 0} {tells : Type 0} {left : C → List ℕ} {faults : C → ℕ} {old new : PreparedValue} {lanes lanes2 : List (Lane C)}
    (done : RoundDone tells left faults old new lanes lanes2) (count : length lanes ≡ old.gauges) (ends : List ℕ)
    (held : AreHeldTo ends lanes) where
  pub leads_next : (s : Setup) → old.grid ≡ s.grid → Leads s ends new.board lanes2
  leads_next s grid = record {
    fronts = subst (λ (n : ℕ). AreFronts s ends new.board n) (sym (done.long ∙ count))
        (fronts_next done ends held count s old.gauges refl grid);
    to = subst (λ (n : ℕ). FrontsEnd (at_of lanes2) new.board n) (sym (done.long ∙ count))
        (fronts_end done ends held count old.gauges refl);
  }

  pub stands_next : (r : Recorded) → r.gauges ≡ length lanes → tells → AreLanes tells left r lanes →
      AreLanes tells left r lanes2 × FrontsStand r new.board
  stands_next r all t are = (
    lanes_after done count (can_first ends lanes held) r are,
    fronts_stand done ends held count r
        (all ∙ count) t are,
  )

-- after puts the lanes are where the held segments end
module _ {C : Type 0} (gauges : ℕ) (lanes : List (Lane C)) (many : length lanes ≡ gauges) (can : AreReady lanes)
    (s : Setup) (ends : List ℕ) (board : BoardValue) (leads : Leads s ends board lanes) where
  pub held_after : (ends2 : List ℕ) → ((to : ℕ → ℕ) → FrontsEnd to board gauges → (g : ℕ) → g < gauges → slice_index ends2 g ≡ to g) →
      AreHeldTo ends2 lanes
  held_after ends2 stored g d lt = (
    can g d lt,
    stored (at_of lanes) (subst (λ (n : ℕ). FrontsEnd (at_of lanes) board n) many leads.to) g (omega (arith, lt, many))
        ∙ at_is lanes g d lt,
  )

  pub held_last : {E : Type 0} (result : Result (Unit {0}) E) (ends2 : List ℕ) →
      ((to : ℕ → ℕ) → FrontsEnd to board gauges → OnOk result ((g : ℕ) → g < gauges → slice_index ends2 g ≡ to g)) →
      OnOk result (AreHeldTo ends2 lanes)
  held_last (Err e) ends2 stored = tt
  held_last (Ok u) ends2 stored = held_after ends2 stored

-- the board that was handed out is for the plan
pub board_for : (old run now : PreparedValue) (out board : BoardValue) → IsBoardFor old run.board → run.grid ≡ old.grid →
    run.block ≡ old.block
    → run.gauges ≡ old.gauges → IsSameBut run now board → out ≡ run.board → IsBoardFor now out
board_for old run now out board is grid block gauges same handed = (
  ap (λ (b : BoardValue). b.grid) handed ∙ is.0 ∙ sym grid ∙ sym same.grid,
  ap (λ (b : BoardValue). b.block) handed ∙ is.1 ∙ sym block ∙ sym same.block,
  ap (λ (b : BoardValue). length b.rows) handed ∙ is.2 ∙ sym gauges ∙ sym same.gauges,
)
