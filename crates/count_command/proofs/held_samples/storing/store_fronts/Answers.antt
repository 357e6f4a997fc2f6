use Rattle.std.proofs.Common.{◌≡◌, ◌≤◌, ◌<◌, ◌+◌, ◌*◌, ◌++◌, ℕ, List, length, slice_index, refl, sym, ◌∙◌, ap, subst, arith}
use Rattle.std.proofs.lemmas.Result.{IfOk-from_err}
use Rattle.board.specs.declared.flow.TheConstants.{BLOCKS_PER_WINDOW}
use Rattle.calibration.specs.declared.setup.Setup.{Setup}
use Rattle.store_bytes.specs.store_head.Head.{HeadValue}
use Rattle.segment_store.specs.Held.{ends_of}
use Rattle.site_config.specs.declared.limits.TheConstants.{MAX_NAME_BYTES}
use Rattle.site_config.specs.Valid.{name_of}
use Rattle.site_config.proofs.Named.{name_is, short_name}
use Rattle.site_config.specs.recorded.Recorded.{recordings}
use Rattle.count_command.specs.held_samples.Told.{round_lines}
use Rattle.count_command.proofs.on_held_samples.Going.{going_starts, going_then, same_lines, round_more, cause_of}
use Rattle.count_command.specs.held_samples.Pace.{window_of}
use Rattle.count_command.proofs.on_held_samples.Pace.{paced_starts, paced_then, paced_where, no_done}
use Rattle.count_command.proofs.on_held_samples.Fronts.{are_names, held_before, told_named, not_same, not_same_after}
use Rattle.count_command.proofs.held_samples.storing.store_fronts.Goals as goal

pub loop-gauge-init : goal.loop-gauge-init
loop-gauge-init g c = record {
  usable = c.requires.usable;
  head = refl;
  gauges = refl;
  there = c.requires.on;
  going = λ tells files kept stored stand. going_starts (recordings c.args.config.now files) _ _ _ _ _ _ stored
      (g.met.K.Station.only_now tells c.args.station.now);
  stored = λ tells kept stored stand. stored;
  paced = λ tells same bodies on. paced_starts (name_of c.args.config.now) (window_of c.args.config.now) _ bodies _ _ _ _ _ _ on
      (g.met.K.Station.only_now tells c.args.station.now);
  told = λ tells. same_lines _;
  before = λ to ends h lt. absurd (omega (arith, lt));
  after = λ h le. refl;
  later = omega arith;
  follows = c.requires.follows;
}

pub store_gauge-requires-clause-next : goal.store_gauge-requires-clause-next
store_gauge-requires-clause-next g c =
    let front = c.requires.fronts c.loop-gauge.gauge c.front.result.now (omega (arith, ap length c.as_slice-gauge-end.ensures))
    c.front.ensures in
    front.next ∙ sym (c.loop-gauge.invariant.after c.loop-gauge.gauge (omega arith)) ∙ ap (slice_index (ends_of c.loop-gauge.store.held))
    (sym front.gauge)

pub store_gauge-requires-clause-gauge : goal.store_gauge-requires-clause-gauge
store_gauge-requires-clause-gauge g c =
    let known : c.loop-gauge.gauge < length c.args.config.now.gauges = omega (arith, ap length c.as_slice-gauge-end.ensures) in
    let front = c.requires.fronts c.loop-gauge.gauge c.front.result.now known c.front.ensures in
    let many : length c.loop-gauge.store.held ≡ length c.args.config.now.gauges = c.loop-gauge.invariant.gauges ∙ c.requires.gauges.0 in (
      omega (arith, known, many, front.gauge),
      many ∙ sym c.requires.config.gains ∙ ap (λ (s : Setup). length s.gains) (sym c.requires.setup)
          ∙ ap (λ (h : HeadValue). length h.setup.gains) (sym c.loop-gauge.invariant.head),
    )

pub store_gauge-requires-clause-short : goal.store_gauge-requires-clause-short
store_gauge-requires-clause-short g c =
    let known : c.loop-gauge.gauge < length c.args.config.now.gauges = omega (arith, ap length c.as_slice-gauge-end.ensures) in
    let name = name_is c.args.config.now c.loop-gauge.gauge _ _ _ known c.as_slice.ensures c.as_str-name.ensures in
    subst (λ (l : List ℕ). length l ≤ MAX_NAME_BYTES) name (short_name (name_of c.args.config.now c.loop-gauge.gauge)
    (c.requires.config.names c.loop-gauge.gauge known))

pub returns-in_err-store_gauge-clause-stores : goal.returns-in_err-store_gauge-clause-stores
returns-in_err-store_gauge-clause-stores g c =
    let was = c.loop-gauge.invariant in
    let known : c.loop-gauge.gauge < length c.args.config.now.gauges = omega (arith, ap length c.as_slice-gauge-end.ensures) in
    let front = c.requires.fronts c.loop-gauge.gauge c.front.result.now known c.front.ensures in
    let name = ap (name_of c.args.config.now) front.gauge ∙ name_is c.args.config.now c.loop-gauge.gauge _ _ _ known c.as_slice.ensures
    c.as_str-name.ensures in
    let failed = c.from_residual.ensures.0 in
    record {
      going = λ tells files kept stored stand.
          going_then (was.going tells files kept stored stand) (c.store_gauge.ensures.going tells (recordings c.args.config.now files)
          (are_names c.args.config.now c.requires.config)
          (subst (λ (n : ℕ). n < length c.args.config.now.gauges) (sym front.gauge) known) name kept
          (was.stored tells kept stored stand) (stand c.loop-gauge.gauge c.front.result.now known c.front.ensures));
      stored = λ tells kept stored stand. IfOk-from_err c.from_residual.result _ failed;
      paced = λ tells same bodies on.
          let so_far = was.paced tells same bodies on in
          let short = subst (λ (b : ℕ). c.front.result.now.to ≤ c.front.result.now.from + BLOCKS_PER_WINDOW * b) same front.short in
          paced_where (λ done. absurd (no_done c.from_residual.result failed done)) (paced_then so_far tt
          (c.store_gauge.ensures.paced tells (name_of c.args.config.now) name (window_of c.args.config.now) short
          (bodies ++ (so_far.level tt).more) (so_far.level tt).on));
      lines = λ tells. IfOk-from_err c.from_residual.result _ failed;
      ends = λ to ends. IfOk-from_err c.from_residual.result _ failed;
      there = λ tells. IfOk-from_err c.from_residual.result _ failed;
      usable = IfOk-from_err c.from_residual.result _ failed;
      head = c.store_gauge.ensures.head ∙ was.head;
      gauges = c.store_gauge.ensures.gauges ∙ was.gauges;
      cause = cause_of c.from_residual.result was.later c.store_gauge.ensures.cause.later c.in_err-store_gauge.ensures.cause.failed;
    }

pub loop-gauge-preserved : goal.loop-gauge-preserved
loop-gauge-preserved g c =
    let known : c.loop-gauge.gauge < length c.args.config.now.gauges = omega (arith, ap length c.as_slice-gauge-end.ensures) in
    let front = c.requires.fronts c.loop-gauge.gauge c.front.result.now known c.front.ensures in
    let name = name_is c.args.config.now c.loop-gauge.gauge _ _ _ known c.as_slice.ensures c.as_str-name.ensures in
    let held = c.in_ok-store_gauge.ensures.held in
    record {
      usable = c.in_ok-store_gauge.ensures.usable;
      head = c.store_gauge.ensures.head ∙ c.loop-gauge.invariant.head;
      gauges = c.store_gauge.ensures.gauges ∙ c.loop-gauge.invariant.gauges;
      there = c.in_ok-store_gauge.ensures.there;
      going = λ tells files kept stored stand.
          going_then (c.loop-gauge.invariant.going tells files kept stored stand)
          (c.store_gauge.ensures.going tells (recordings c.args.config.now files) (are_names c.args.config.now c.requires.config)
          (subst (λ (n : ℕ). n < length c.args.config.now.gauges) (sym front.gauge) known)
          (ap (name_of c.args.config.now) front.gauge ∙ name) kept (c.loop-gauge.invariant.stored tells kept stored stand)
          (stand c.loop-gauge.gauge c.front.result.now known c.front.ensures));
      stored = λ tells kept stored stand.
          c.in_ok-store_gauge.ensures.stored tells kept (c.loop-gauge.invariant.stored tells kept stored stand)
          (stand c.loop-gauge.gauge c.front.result.now known c.front.ensures);
      paced = λ tells same bodies on.
          let was = c.loop-gauge.invariant.paced tells same bodies on in
          let short = subst (λ (b : ℕ). c.front.result.now.to ≤ c.front.result.now.from + BLOCKS_PER_WINDOW * b) same front.short in
          paced_where (λ done. refl) (paced_then was tt (c.in_ok-store_gauge.ensures.paced tells (name_of c.args.config.now)
          (ap (name_of c.args.config.now) front.gauge ∙ name) (window_of c.args.config.now) short (bodies ++ (was.level tt).more)
          (was.level tt).on));
      told = λ tells. round_more (name_of c.args.config.now) (slice_index (ends_of c.args.store.now.held))
          (slice_index (ends_of c.loop-gauge.store.held)) (slice_index (ends_of c.store_gauge.new.store.held)) c.loop-gauge.gauge
          c.front.result.now.from c.front.result.now.to _ _ _ (c.loop-gauge.invariant.told tells)
          (told_named (g.K.Station.told c.loop-gauge.station) (g.K.Station.told c.store_gauge.new.station)
          (name_of c.args.config.now c.loop-gauge.gauge) c.as_str-name.result.now c.front.result.now.from c.front.result.now.to
          (c.in_ok-store_gauge.ensures.told tells) name)
          (sym front.next) (ap (slice_index (ends_of c.store_gauge.new.store.held)) (sym front.gauge) ∙ held.here)
          (λ h lt. sym (held.others h (not_same h c.loop-gauge.gauge _ lt front.gauge)));
      before = λ to ends h lt. held_before _ _ to c.front.result.now c.loop-gauge.gauge front.gauge held
          (ends c.loop-gauge.gauge c.front.result.now known c.front.ensures) (λ k less. c.loop-gauge.invariant.before to ends k less) h lt;
      after = λ h le. held.others h (not_same_after h c.loop-gauge.gauge _ le front.gauge) ∙ c.loop-gauge.invariant.after h
          (omega (arith, le));
      later = omega (arith, c.store_gauge.ensures.cause.later, c.loop-gauge.invariant.later);
      follows = c.store_gauge.ensures.follows;
    }

pub returns-clause-stores : goal.returns-clause-stores
returns-clause-stores g c =
    let was = c.loop-gauge.invariant in
    let all : c.loop-gauge.gauge ≡ length c.args.config.now.gauges = omega
    (arith, c.loop-gauge-test.false, ap length c.as_slice-gauge-end.ensures) in
    let told = g.K.Station.told in
    record {
      going = was.going;
      stored = was.stored;
      paced = λ tells same bodies on. paced_where (λ done. tt) (was.paced tells same bodies on);
      lines = λ tells.
          subst (λ (k : ℕ). told c.loop-gauge.station ≡ told c.args.station.now ++
          round_lines (name_of c.args.config.now) (slice_index (ends_of c.args.store.now.held))
          (slice_index (ends_of c.loop-gauge.store.held)) k) all (was.told tells);
      ends = λ to ends h lt. was.before to ends h (omega (arith, lt, all));
      there = was.there;
      usable = was.usable;
      head = was.head;
      gauges = was.gauges;
      cause = record { later = was.later; failed = tt };
    }
