-- Rounds over made recordings, and what was joined so far.
use Rattle.std.proofs.Common.{◌≡◌, ◌≢◌, ◌≤◌, ◌<◌, ⊎_elim, ℕ, ◌+◌, ◌-◌, ◌*◌, ◌++◌, min, ℤ, List, [], length, take, drop, refl, sym, ◌∙◌, ap, subst, arith}
use Rattle.std.proofs.Math.Seq.{take-add}
use Rattle.std.proofs.lemmas.List.{get_or-replicate}
use Rattle.std.specs.Prelude.{Some, replicate, slice_index_or}
use Rattle.std.specs.List.{All}
use Rattle.outside.specs.Fault.{CountRose}
use Rattle.recording.specs.Samples.{samples, sample_bytes}
use Rattle.calibration.specs.declared.limits.TheConstants.{MAX_SAMPLES}
use Rattle.board.specs.declared.flow.TheConstants.{BLOCKS_PER_WINDOW}
use Rattle.calibration.specs.Gain.{GainValue}
use Rattle.segment.specs.declared.segment_rules.name.Name.{Name}
use Rattle.segment.specs.Segment.{SegmentValue, Stands, empty_at}
use Rattle.board.specs.Board.{BoardValue, IsFront}
use Rattle.segment.proofs.Empty.{empty_stands}
use Rattle.recording.specs.declared.lane_ends.end.End.{End}
use Rattle.recording.specs.declared.lane_ends.end.End.TheVariants.{More, Ended, Torn, ReadFault, TooLong}
use Rattle.recording.proofs.on_lane_ends.Giving.{more_or_not}
use Rattle.count_workers.specs.declared.lane_loans.lane.Lane.{Lane}
use Rattle.count_workers.proofs.on_lane_loans.Walking.{some_of}
use Rattle.count_workers.specs.round_making.Resting.{PreparedValue}
use Rattle.count_workers.specs.round_making.Round.{LaneDone, FrontDone, RoundDone}
use Rattle.site_config.specs.recorded.Recorded.{Recorded}
use Rattle.site_lanes.specs.Lanes.{SourceStands, IsLane, AreReady, AreLanes, IsWhole}
use Rattle.site_lanes.proofs.AfterRound.{stood_more}
use Rattle.site_lanes.proofs.AllLanes.{ready_after, lanes_after, all_reached}
use Rattle.calibration.specs.declared.limits.TheConstants.{MAX_DEMO_SAMPLES}
use Rattle.demo_command.specs.declared.made.TheConstants.{GAUGES, BLOCK}
use Rattle.demo_command.specs.Made.{demo_grid, demo_gain, made_at, IsStart}
use Rattle.demo_command.specs.Totals.{IsTotal, CanJoin, HasJoined}
use Rattle.demo_command.proofs.MadeBytes.{length-made, samples-made, torn_bytes-made}
use Rattle.lemmas.proofs.Outcomes.{same_some}

abbrev pub DemoLane : Type 0
DemoLane = Lane (List ℕ)

-- the recordings of all gauges, which have no names and no torn bytes
abbrev pub demo_recordings : ℕ → ℕ → Recorded
demo_recordings seed samples = record {
  setup = record { grid = demo_grid; gains = replicate GAUGES demo_gain };
  gauges = GAUGES;
  names = λ g. [];
  samples = made_at seed samples;
  torn = λ g. 0;
}

-- so many rounds were made of the recordings, and joined
pub record IsCounted (seed all rounds : ℕ) (p : PreparedValue) (lanes : List DemoLane) (totals : List SegmentValue) : Type 0 where
  pub gauges : p.gauges ≡ GAUGES
  pub block : p.block ≡ BLOCK
  pub grid : p.grid ≡ demo_grid
  pub lanes_long : length lanes ≡ GAUGES
  pub totals_long : length totals ≡ GAUGES
  pub ready : AreReady lanes
  pub are : AreLanes (Unit {0}) (λ (left : List ℕ). left) (demo_recordings seed all) lanes
  pub whole : All IsWhole lanes
  pub at : (g : ℕ) (d : DemoLane) → g < length lanes →
      (slice_index_or lanes g d).at ≡ min (BLOCKS_PER_WINDOW * BLOCK * rounds) (length (made_at seed all g))
  pub counted : (g : ℕ) (d : DemoLane) (e : SegmentValue) → g < GAUGES →
      IsTotal seed all g (slice_index_or lanes g d).at (slice_index_or totals g e)

-- a lane at the start
module _ (seed all g : ℕ) (lt : g < GAUGES) (lane : DemoLane) (start : IsStart seed all g lane) where
  start_stood : (left : List ℕ) → lane.src ≡ Some left → SourceStands (made_at seed all g) 0 left lane.at lane.end
  start_stood left has =
      let is : left ≡ sample_bytes (made_at seed all g) = same_some has start.src in
      subst (λ (l : List ℕ). SourceStands (made_at seed all g) 0 l lane.at lane.end) (sym is)
      (subst (λ (n : ℕ). SourceStands (made_at seed all g) 0 (sample_bytes (made_at seed all g)) n lane.end) (sym start.at)
      (subst (λ (e : End). SourceStands (made_at seed all g) 0 (sample_bytes (made_at seed all g)) 0 e) (sym start.end)
      (samples-made all (seed + g), torn_bytes-made all (seed + g))))

  pub start_lane : IsLane (Unit {0}) (λ (left : List ℕ). left) (demo_recordings seed all) g lane
  start_lane = record {
    gain = λ d. start.gain ∙ sym (get_or-replicate GAUGES g demo_gain d lt);
    within = λ t. omega (arith, start.at);
    stood = λ t. start_stood;
  }

  pub start_whole : IsWhole lane
  start_whole = ((λ e. not_read (sym start.end ∙ e)), (λ e. not_long (sym start.end ∙ e)))
    where
      not_read : More ≡ ReadFault → ⊥
      not_read e = cc

      not_long : More ≡ TooLong → ⊥
      not_long e = cc

-- a lane after a round
module _ (seed all g : ℕ) {block : ℕ} {old new : DemoLane}
    (done : LaneDone (Unit {0}) (λ (left : List ℕ). left) (λ (left : List ℕ). 0) block old new) where
  short : all ≤ MAX_DEMO_SAMPLES → length (made_at seed all g) < MAX_SAMPLES
  short few = omega (arith, few, length-made all (seed + g))

  not_too_long : (w : List ℤ) (left : List ℕ) (at : ℕ) (end : End) → length w < MAX_SAMPLES → SourceStands w 0 left at end → end ≢ TooLong
  not_too_long w left at More less s = λ e. absurd cc
  not_too_long w left at Ended less s = λ e. absurd cc
  not_too_long w left at (Torn b) less s = λ e. absurd cc
  not_too_long w left at ReadFault less s = λ e. absurd cc
  not_too_long w left at TooLong less s = λ e. omega (arith, less, s.1)

  pub whole_after : all ≤ MAX_DEMO_SAMPLES → IsLane (Unit {0}) (λ (left : List ℕ). left) (demo_recordings seed all) g new → IsWhole old
      → IsWhole new
  whole_after few lane was = (
    (λ e. ⊎_elim (λ more. never (done.cause more e)) (λ other. was.0 (sym (done.ended other).1 ∙ e)) (more_or_not old.end)),
    not_too_long (made_at seed all g) done.now new.at new.end (short few) (lane.stood tt done.now done.has),
  )
    where
      never : CountRose 0 0 → ⊥
      never rose = omega (arith, rose)

  -- what the front stands for
  pub front_samples : IsLane (Unit {0}) (λ (left : List ℕ). left) (demo_recordings seed all) g old
      → take (new.at - old.at) (samples done.before) ≡ take (new.at - old.at) (drop old.at (made_at seed all g))
  front_samples lane = ⊎_elim
      (λ more. ap (take (new.at - old.at)) (stood_more (made_at seed all g) 0 done.before old.at more
      (lane.stood tt done.before done.was)).0)
      (λ other. let none : new.at - old.at ≡ 0 = omega (arith, (done.ended other).0) in
      ap (λ (n : ℕ). take n (samples done.before)) none ∙ sym (ap (λ (n : ℕ). take n (drop old.at (made_at seed all g))) none))
      (more_or_not old.end)

-- a front that comes next, and is joined
module _ (seed all g : ℕ) (lt : g < GAUGES) {block : ℕ} {old new : DemoLane}
    (done : LaneDone (Unit {0}) (λ (left : List ℕ). left) (λ (left : List ℕ). 0) block old new)
    (lane : IsLane (Unit {0}) (λ (left : List ℕ). left) (demo_recordings seed all) g old) (v : SegmentValue)
    (total : IsTotal seed all g old.at v)
    (board : BoardValue) (over : board.grid ≡ demo_grid)
    (fronts : (front : SegmentValue) → IsFront board g front → FrontDone (Unit {0}) (λ (left : List ℕ). left) old new front) where
  gain_is : old.gain ≡ demo_gain
  gain_is = lane.gain demo_gain ∙ get_or-replicate GAUGES g demo_gain demo_gain lt

  pub can_join : new.at ≤ all → CanJoin board g v
  can_join within = record {
    grid = total.grid ∙ sym over;
    gauge = total.gauge;
    next = λ front is. total.to ∙ sym (ap (λ (n : Name). n.from) (fronts front is).name);
    room = λ front is. omega (
      arith,
      total.to,
      total.from,
      total.longest,
      within,
      done.samples.0,
      ap (λ (n : Name). n.from) (fronts front is).name,
      ap (λ (n : Name). n.to) (fronts front is).name,
    );
  }

  pub joined_total : (w : SegmentValue) → HasJoined board g v w → IsTotal seed all g new.at w
  joined_total w joined =
      let f = fronts joined.front joined.is in
      let rest = take (new.at - old.at) (drop old.at (made_at seed all g)) in
      let of_front : Stands joined.front demo_gain rest =
      subst (λ (l : List ℤ). Stands joined.front demo_gain l) (front_samples seed all g done lane)
      (subst (λ (k : GainValue). Stands joined.front k (take (new.at - old.at) (samples done.before))) gain_is
      (f.stands done.before done.was tt)) in
      let whole : take old.at (made_at seed all g) ++ rest ≡ take new.at (made_at seed all g) =
      sym (take-add old.at (new.at - old.at) (made_at seed all g))
      ∙ ap (λ (n : ℕ). take n (made_at seed all g)) (let e : old.at + (new.at - old.at) ≡ new.at = omega (arith, done.samples.0) in e) in
      record {
        grid = joined.start.0 ∙ total.grid;
        gauge = joined.start.1 ∙ total.gauge;
        from = joined.start.2 ∙ total.from;
        to = joined.end ∙ ap (λ (n : Name). n.to) f.name;
        longest = joined.start.3 ∙ total.longest;
        stands = subst (λ (l : List ℤ). Stands w demo_gain l) whole
            (joined.stands demo_gain (take old.at (made_at seed all g)) rest total.stands of_front);
      }

-- a segment in which nothing is counted
pub nothing_counted : (seed all g : ℕ) (v : SegmentValue) → v ≡ empty_at demo_grid g 0 all → IsTotal seed all g 0 v
nothing_counted seed all g v is = subst (λ (x : SegmentValue). IsTotal seed all g 0 x) (sym is) (record {
  grid = refl;
  gauge = refl;
  from = refl;
  to = refl;
  longest = refl;
  stands = empty_stands demo_grid g 0 all demo_gain;
})

-- before the first round
pub counted_starts : (seed all : ℕ) (p : PreparedValue) (lanes : List DemoLane) (totals : List SegmentValue) → p.gauges ≡ GAUGES
    → p.block ≡ BLOCK → p.grid ≡ demo_grid → length lanes ≡ GAUGES → length totals ≡ GAUGES →
    ((g : ℕ) (d : DemoLane) → g < GAUGES → IsStart seed all g (slice_index_or lanes g d))
    → ((g : ℕ) (d : SegmentValue) → g < GAUGES → slice_index_or totals g d ≡ empty_at demo_grid g 0 all)
    → IsCounted seed all 0 p lanes totals
counted_starts seed all p lanes totals gauges block grid lanes_long totals_long start nothing = record {
  gauges = gauges;
  block = block;
  grid = grid;
  lanes_long = lanes_long;
  totals_long = totals_long;
  ready = λ g d lt. let s = start g d (omega (arith, lt, lanes_long)) in record {
    src = sample_bytes (made_at seed all g);
    has = s.src;
    gauge = s.gauge;
    at = omega (arith, s.at);
  };
  are = λ g d lt. let here : g < GAUGES = omega (arith, lt, lanes_long) in start_lane seed all g here (slice_index_or lanes g d)
      (start g d here);
  whole = λ g d lt. let here : g < GAUGES = omega (arith, lt, lanes_long) in start_whole seed all g here (slice_index_or lanes g d)
      (start g d here);
  at = λ g d lt. none_read _ _ (start g d (omega (arith, lt, lanes_long))).at;
  counted = λ g d e lt. subst (λ (n : ℕ). IsTotal seed all g n (slice_index_or totals g e)) (sym (start g d lt).at)
      (nothing_counted seed all g (slice_index_or totals g e) (nothing g e lt));
} where
  none_read : (at len : ℕ) → at ≡ 0 → at ≡ min (BLOCKS_PER_WINDOW * BLOCK * 0) len
  none_read at len is = grind (arith, is)

-- a round more
module _ (seed all rounds : ℕ) (few : all ≤ MAX_DEMO_SAMPLES) {p p2 : PreparedValue} {lanes lanes2 : List DemoLane}
    {totals : List SegmentValue} (was : IsCounted seed all rounds p lanes totals)
    (done : RoundDone (Unit {0}) (λ (left : List ℕ). left) (λ (left : List ℕ). 0) p p2 lanes lanes2) where
  count : length lanes ≡ p.gauges
  count = was.lanes_long ∙ sym was.gauges

  are_lanes : AreLanes (Unit {0}) (λ (left : List ℕ). left) (demo_recordings seed all) lanes2
  are_lanes = lanes_after done count was.ready (demo_recordings seed all) was.are

  lane_done : (g : ℕ) (d : DemoLane) → g < GAUGES
      → LaneDone (Unit {0}) (λ (left : List ℕ). left) (λ (left : List ℕ). 0) p.block (slice_index_or lanes g d) (slice_index_or lanes2 g d)
  lane_done g d lt = done.lane g d (omega (arith, lt, was.gauges))

  within : (g : ℕ) (d : DemoLane) → g < GAUGES → (slice_index_or lanes2 g d).at ≤ all
  within g d lt =
      let e : (slice_index_or lanes2 g d).at ≤ length (made_at seed all g) =
      (are_lanes g d (omega (arith, lt, done.long, was.lanes_long))).within tt in
      omega (arith, e, length-made all (seed + g))

  pub can_join_all : (g : ℕ) (e : SegmentValue) → g < GAUGES → CanJoin p2.board g (slice_index_or totals g e)
  can_join_all g e here =
      let there : g < length lanes = omega (arith, here, was.lanes_long) in
      let d = some_of lanes (omega (arith, there)) in
      can_join seed all g here (lane_done g d here) (was.are g d there) (slice_index_or totals g e) (was.counted g d e here) p2.board
      (done.board.0 ∙ was.grid) (λ front is. done.front g d front (omega (arith, here, was.gauges)) is) (within g d here)

  pub counted_more : (totals2 : List SegmentValue) → length totals2 ≡ GAUGES
      → ((g : ℕ) (e : SegmentValue) → g < GAUGES → HasJoined p2.board g (slice_index_or totals g e) (slice_index_or totals2 g e))
      → IsCounted seed all (rounds + 1) p2 lanes2 totals2
  counted_more totals2 long joined = record {
    gauges = done.gauges ∙ was.gauges;
    block = done.block ∙ was.block;
    grid = done.grid ∙ was.grid;
    lanes_long = done.long ∙ was.lanes_long;
    totals_long = long;
    ready = ready_after done count was.ready;
    are = are_lanes;
    whole = all_whole;
    at = λ g d lt. all_reached done count was.ready (demo_recordings seed all) (λ h. BLOCKS_PER_WINDOW * BLOCK * rounds) tt was.are
        all_whole was.at g d lt
        ∙ ap (λ (n : ℕ). min n (length (made_at seed all g))) (further p.block was.block);
    counted = λ g d e lt. joined_total seed all g lt (lane_done g d lt) (was.are g d (omega (arith, lt, was.lanes_long)))
        (slice_index_or totals g e)
        (was.counted g d e lt) p2.board (done.board.0 ∙ was.grid) (λ front is. done.front g d front (omega (arith, lt, was.gauges)) is)
        (slice_index_or totals2 g e) (joined g e lt);
  } where
    all_whole : All IsWhole lanes2
    all_whole g d lt =
        let here : g < GAUGES = omega (arith, lt, done.long, was.lanes_long) in
        whole_after seed all g (lane_done g d here) few (are_lanes g d lt) (was.whole g d (omega (arith, lt, done.long)))

    further : (block : ℕ) → block ≡ BLOCK
        → BLOCKS_PER_WINDOW * BLOCK * rounds + BLOCKS_PER_WINDOW * block ≡ BLOCKS_PER_WINDOW * BLOCK * (rounds + 1)
    further block is = omega (arith, is)

-- after all rounds
pub counted_all : (seed all rounds : ℕ) (p : PreparedValue) (lanes : List DemoLane) (totals : List SegmentValue)
    → all ≤ BLOCKS_PER_WINDOW * BLOCK * rounds → IsCounted seed all rounds p lanes totals → (g : ℕ) (e : SegmentValue) → g < GAUGES
    → IsTotal seed all g all (slice_index_or totals g e)
counted_all seed all rounds p lanes totals enough c g e lt =
    let there : g < length lanes = omega (arith, lt, c.lanes_long) in
    let d = some_of lanes (omega (arith, there)) in
    subst (λ (n : ℕ). IsTotal seed all g n (slice_index_or totals g e)) (c.at g d there ∙ reached _ _ enough (length-made all (seed + g)))
    (c.counted g d e lt)
  where
    reached : (a len : ℕ) → all ≤ a → len ≡ all → min a len ≡ all
    reached a len le is = grind (arith, le, is)
