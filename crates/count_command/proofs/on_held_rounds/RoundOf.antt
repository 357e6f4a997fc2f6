-- From what a round does to each lane to what a run keeps of all of them.
use Rattle.std.proofs.Common.{◌≡◌, ◌≤◌, ◌<◌, ⊎_elim, ℕ, zero, suc, ◌+◌, ◌-◌, ◌*◌, ◌++◌, min, ℤ, List, [], ◌∷◌, length, take, drop, refl, sym, ◌∙◌, ap, subst, arith, append_assoc, mul-suc}
use Rattle.std.specs.List.{All}
use Rattle.std.specs.Prelude.{slice_index, slice_index_or, slice_range}
use Rattle.outside.specs.station.Station.{Lines}
use Rattle.calibration.specs.declared.setup.Setup.{Setup}
use Rattle.calibration.specs.Gain.{GainValue}
use Rattle.segment.specs.Segment.{SegmentValue, Stands}
use Rattle.segment.specs.Name.{name_of}
use Rattle.segment_store.specs.Holds.{gain_at}
use Rattle.board.specs.flow.Flow.{name_of_samples}
use Rattle.segment.specs.declared.segment_rules.name.Name.{Name}
use Rattle.recording.specs.Samples.{samples}
use Rattle.count_workers.specs.declared.lane_loans.lane.Lane.{Lane}
use Rattle.count_workers.specs.lane_loans.Lent.{at_of}
use Rattle.count_workers.proofs.on_lane_loans.Walking.{some_of}
use Rattle.count_workers.specs.round_making.Resting.{PreparedValue}
use Rattle.count_workers.specs.round_making.Round.{RoundDone}
use Rattle.site_config.specs.recorded.Recorded.{Recorded}
use Rattle.count_command.specs.held_samples.Told.{round_lines, held_after, held_lines}
use Rattle.count_command.specs.held_samples.Fronts.{StandsInRecording, AreFronts, FrontsEnd, FrontsStand}
use Rattle.site_lanes.specs.Lanes.{AreLanes, AreReady, AreHeldTo, IsWhole}
use Rattle.count_command.proofs.on_held_samples.Going.{round_both}
use Rattle.site_lanes.proofs.AfterRound.{stood_more}
use Rattle.site_lanes.proofs.AllLanes.{all_reached}
use Rattle.recording.proofs.on_lane_ends.Giving.{more_or_not}
use Rattle.board.specs.declared.flow.TheConstants.{BLOCKS_PER_WINDOW}

pub at_is : {C : Type 0} (lanes : List (Lane C)) (g : ℕ) (d : Lane C) → g < length lanes → at_of lanes g ≡ (slice_index_or lanes g d).at
at_is [] g d lt = absurd (omega (arith, lt))
at_is (x ∷ xs) zero d lt = refl
at_is (x ∷ xs) (suc g) d lt = at_is xs g d (omega (arith, lt))

pub can_first : {C : Type 0} (ends : List ℕ) (lanes : List (Lane C)) → AreHeldTo ends lanes → AreReady lanes
can_first ends lanes held g d lt = (held g d lt).0

-- the lines of one round more
pub lines_more : (r : Recorded) (n : List ℕ) (block k : ℕ) (told told2 told3 : Lines) (ends ends2 : ℕ → ℕ) →
    told2 ≡ told ++ held_lines block r n k
    → ((g : ℕ) → g < r.gauges → ends g ≡ held_after block r n k g) → ((g : ℕ) → g < r.gauges → ends2 g ≡ held_after block r n (suc k) g)
    → told3 ≡ told2 ++ round_lines r.names ends ends2 r.gauges → told3 ≡ told ++ held_lines block r n (suc k)
lines_more r n block k told told2 told3 ends ends2 so_far from to here =
    here ∙ ap (λ (l : Lines). l ++ round_lines r.names ends ends2 r.gauges) so_far
    ∙ append_assoc told (held_lines block r n k) (round_lines r.names ends ends2 r.gauges)
    ∙ ap (λ (l : Lines). told ++ (held_lines block r n k ++ l))
    (round_both r.names ends (held_after block r n k) ends2 (held_after block r n (suc k)) r.gauges from to)

front_stands : (r : Recorded) (front : SegmentValue) (g at to : ℕ) (gain : GainValue) (left : List ℕ) → name_of front ≡
    name_of_samples g at to
    → gain ≡ gain_at r.setup g → samples left ≡ drop at (r.samples g) → Stands front gain (take (to - at) (samples left))
    → StandsInRecording r front
front_stands r front g at to gain left name is rest stands =
    let same : take (to - at) (samples left) ≡ slice_range (r.samples front.gauge) front.from front.to =
    ap (take (to - at)) rest ∙ ap (λ (x : Name). slice_range (r.samples x.gauge) x.from x.to) (sym name) in
    subst (λ (l : List ℤ). Stands front (gain_at r.setup front.gauge) l) same
    (subst (λ (k : GainValue). Stands front k (take (to - at) (samples left))) (is ∙ ap (λ (x : Name). gain_at r.setup x.gauge) (sym name))
    stands)

-- all lanes, which stand where the gauges are held
module _ {C : Type 0} {tells : Type 0} {left : C → List ℕ} {faults : C → ℕ} {old new : PreparedValue} {lanes lanes2 : List (Lane C)}
    (done : RoundDone tells left faults old new lanes lanes2) (ends : List ℕ) (held : AreHeldTo ends lanes)
    (count : length lanes ≡ old.gauges) where
  ready : AreReady lanes
  ready = can_first ends lanes held

  pub fronts_next : (setup : Setup) (gauges : ℕ) → gauges ≡ old.gauges → old.grid ≡ setup.grid → AreFronts setup ends new.board gauges
  fronts_next setup gauges many grid g front lt is =
      let within : g < length lanes = omega (arith, lt, many, count) in
      let d = some_of lanes (omega (arith, within)) in
      let done_front = done.front g d front (omega (arith, lt, many)) is in
      let was = held g d within in
      record {
        gauge = is.gauge;
        grid = is.grid ∙ done.board.0 ∙ grid;
        next = ap (λ (x : Name). x.from) done_front.name ∙ sym was.1;
        ascends = omega (
          arith,
          (done.lane g d (omega (arith, lt, many))).samples.0,
          ap (λ (x : Name). x.from) done_front.name,
          ap (λ (x : Name). x.to) done_front.name,
        );
        short = let e : front.to ≤ front.from + BLOCKS_PER_WINDOW * old.block = omega (
          arith,
          (done.lane g d (omega (arith, lt, many))).samples.1,
          ap (λ (x : Name). x.from) done_front.name,
          ap (λ (x : Name). x.to) done_front.name,
        ) in subst (λ (b : ℕ). front.to ≤ front.from + BLOCKS_PER_WINDOW * b) (sym done.board.1) e;
      }

  pub fronts_end : (gauges : ℕ) → gauges ≡ old.gauges → FrontsEnd (at_of lanes2) new.board gauges
  fronts_end gauges many g front lt is =
      let within : g < length lanes2 = omega (arith, lt, many, count, done.long) in
      let d = some_of lanes2 (omega (arith, within)) in
      ap (λ (x : Name). x.to) (done.front g d front (omega (arith, lt, many)) is).name ∙ sym (at_is lanes2 g d within)

  pub fronts_stand : (r : Recorded) → r.gauges ≡ old.gauges → tells → AreLanes tells left r lanes → FrontsStand r new.board
  fronts_stand r many t are g front lt is some =
      let within : g < length lanes = omega (arith, lt, many, count) in
      let d = some_of lanes (omega (arith, within)) in
      let f = done.front g d front (omega (arith, lt, many)) is in
      let l = done.lane g d (omega (arith, lt, many)) in
      let was = are g d within in
      let can = (held g d within).0 in
      ⊎_elim
      (λ more. front_stands r front g (slice_index_or lanes g d).at (slice_index_or lanes2 g d).at (slice_index_or lanes g d).gain
      (left l.before)
      (f.name ∙ ap (λ (n : ℕ). record { gauge = n; from = (slice_index_or lanes g d).at; to = (slice_index_or lanes2 g d).at }) can.gauge)
      (was.gain _) (stood_more (r.samples g) (r.torn g) (left l.before) (slice_index_or lanes g d).at more (was.stood t l.before l.was)).0
      (f.stands l.before l.was t))
      (λ other. absurd (omega (arith, some, (l.ended other).0, ap (λ (x : Name). x.from) f.name, ap (λ (x : Name). x.to) f.name)))
      (more_or_not (slice_index_or lanes g d).end)

  -- where all lanes stand at the end of so many rounds, they stand at the end of one more
  pub at_next : (r : Recorded) (n : List ℕ) (k : ℕ) → tells → AreLanes tells left r lanes → All IsWhole lanes2
      → ((g : ℕ) (d : Lane C) → g < length lanes → (slice_index_or lanes g d).at ≡ held_after old.block r n k g)
      → (g : ℕ) (d : Lane C) → g < length lanes2 → (slice_index_or lanes2 g d).at ≡ held_after old.block r n (suc k) g
  at_next r n k t are whole was g d lt =
      let step = all_reached done count ready r (λ h. slice_index n h + BLOCKS_PER_WINDOW * old.block * k) t are whole was g d lt in
      let window = BLOCKS_PER_WINDOW * old.block in
      let more : window * suc k ≡ window * k + window = mul-suc window k in
      step ∙ ap (λ (m : ℕ). min m (length (r.samples g))) (let e : slice_index n g + window * k + window ≡ slice_index n g +
      window * suc k = omega (arith, more) in e)
