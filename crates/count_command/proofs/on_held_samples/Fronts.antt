-- The front of one gauge, among those of a round.
use Rattle.std.proofs.Common.{◌≡◌, ◌≢◌, ◌≤◌, ◌<◌, ◌+◌, ◌++◌, [], ◌∷◌, inl, inr, ℕ, ℤ, List, length, slice_index, slice_range, append_assoc, sym, ◌∙◌, ap, subst, arith}
use Rattle.std.proofs.lemmas.Bool.{cases_eq}
use Rattle.outside.specs.station.Station.{Lines}
use Rattle.count_command.specs.held_samples.Told.{gauge_lines}
use Rattle.calibration.specs.Grid.{GridValue}
use Rattle.calibration.specs.declared.setup.Setup.{Setup}
use Rattle.board.specs.Board.{StandsIn as StandsFor}
use Rattle.segment.specs.segment_rules.Parts.{PartsValue}
use Rattle.store_bytes.specs.store_head.Head.{HeadValue}
use Rattle.segment.specs.Segment.{SegmentValue, IsSegment}
use Rattle.segment.specs.Parts.{parts_of}
use Rattle.segment.specs.Standing.{PartsStand}
use Rattle.segment.proofs.PartsStanding.{parts_stand}
use Rattle.segment_store.specs.Holds.{gain_at, StandsIn}
use Rattle.site_config.specs.declared.config.Config.{Config}
use Rattle.site_config.specs.Valid.{IsConfig, name_of}
use Rattle.count_command.specs.held_samples.Going.{AreNames}
use Rattle.count_command.specs.held_samples.Fronts.{IsHeldTo}
use Rattle.count_command.specs.held_samples.Kept.{Kept, standing, beginning, Meets, MayFollow}
use Rattle.count_command.proofs.on_held_samples.Going.{all_more}

pub are_names : (config : Config) → IsConfig config → AreNames (name_of config) (length config.gauges)
are_names config is = record { letters = is.names; differ = is.differ }

-- what stands for samples does so by its parts
stands_in : (setup : Setup) (w : ℕ → List ℤ) (front : SegmentValue) → IsSegment front → front.grid ≡ setup.grid
    → StandsFor front (gain_at setup front.gauge) (w front.gauge) → StandsIn setup w (parts_of front)
stands_in setup w front rules over stands =
    let gain = gain_at setup front.gauge in
    let samples = slice_range (w front.gauge) front.from front.to in
    subst (λ (g : GridValue). PartsStand g gain (parts_of front) samples) over (parts_stand front rules gain samples stands)

-- what a store has keeps what it must with a front behind it that may follow
pub meets_more : (kept : Kept) (head : HeadValue) (bodies : List PartsValue) (front : SegmentValue) → IsSegment front
    → front.grid ≡ head.setup.grid → Meets kept head bodies → MayFollow kept front → Meets kept head (bodies ++ parts_of front ∷ [])
meets_more (standing setup w) head bodies front rules over meets follows = (
  meets.0,
  all_more (StandsIn setup w) bodies (parts_of front) meets.1
      (stands_in setup w front rules (over ∙ ap (λ (s : Setup). s.grid) meets.0) follows),
)
meets_more (beginning first was) head bodies front rules over meets follows =
    let last = parts_of front ∷ [] in
    (meets.0, (meets.1.0 ++ last, ap (λ (b : List PartsValue). b ++ last) meets.1.1 ∙ append_assoc was meets.1.0 last))

pub not_same : (h k g : ℕ) → h < k → g ≡ k → h ≢ g
not_same h k g lt is e = omega (arith, lt, is, e)

pub not_same_after : (h k g : ℕ) → k + 1 ≤ h → g ≡ k → h ≢ g
not_same_after h k g le is e = omega (arith, le, is, e)

pub told_named : (told told2 : Lines) (name name2 : List ℕ) (from to : ℕ) → told2 ≡ told ++ gauge_lines name2 from to → name ≡ name2 →
    told2 ≡ told ++ gauge_lines name from to
told_named told told2 name name2 from to is same = is ∙ ap (λ (n : List ℕ). told ++ gauge_lines n from to) (sym same)

less : (h k : ℕ) → h < k + 1 → h ≢ k → h < k
less h k lt other = grind arith

pub held_before : (ends now : List ℕ) (to : ℕ → ℕ) (front : SegmentValue) (k : ℕ) → front.gauge ≡ k →
    IsHeldTo ends front.gauge front.to now → front.to ≡ to k
    → ((h : ℕ) → h < k → slice_index ends h ≡ to h) → (h : ℕ) → h < k + 1 → slice_index now h ≡ to h
held_before ends now to front k gauge held is before h lt = elim (cases_eq h k) [
  | inl same ↦ ap (slice_index now) (same ∙ sym gauge) ∙ held.here ∙ is ∙ ap to (sym same)
  | inr other ↦ held.others h (λ e. other (e ∙ gauge)) ∙ before h (less h k lt other)
]
