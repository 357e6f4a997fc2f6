use Rattle.std.proofs.Common.{◌≡◌, ◌≤◌, ◌<◌, ◌*◌, List, ℕ, length, slice_index, sym, ◌∙◌, ap, subst, arith}
use Rattle.board.specs.declared.flow.TheConstants.{BLOCKS_PER_WINDOW}
use Rattle.segment.specs.declared.segment_rules.name.Name.{Name}
use Rattle.segment_store.specs.Held.{ends_of}
use Rattle.site_config.specs.declared.limits.TheConstants.{MAX_NAME_BYTES}
use Rattle.site_config.specs.declared.config.Config.{Config}
use Rattle.site_config.specs.Valid.{name_of}
use Rattle.site_config.proofs.Named.{name_is, short_name}
use Rattle.site_config.specs.recorded.Recorded.{recordings}
use Rattle.count_command.specs.held_samples.Pace.{window_of}
use Rattle.count_command.specs.watching.Seen.{IsSeenLine}
use Rattle.count_command.specs.watching.Steps.{IsSeenLineOf}
use Rattle.count_command.proofs.on_watching.OnlySeen.{only_starts, only_then}
use Rattle.count_command.proofs.on_watching.SeenNumbers.{SeenSoFar, seen_start, seen_more, seen_all}
use Rattle.count_command.proofs.watching.seen_telling.tell_seen.Goals as goal

pub tell_gauge-requires-clause-short : goal.tell_gauge-requires-clause-short
tell_gauge-requires-clause-short g c =
    let known : c.loop-gauge.gauge < length c.args.config.now.gauges = omega (arith, ap length c.as_slice-gauge-end.ensures) in
    let name = name_is c.args.config.now c.loop-gauge.gauge _ _ _ known c.as_slice.ensures c.as_str-name.ensures in
    subst (λ (l : List ℕ). length l ≤ MAX_NAME_BYTES) name (short_name (name_of c.args.config.now c.loop-gauge.gauge)
    (c.requires.config.names c.loop-gauge.gauge known))

-- the line of a gauge that is told is one of what was seen
gauge_line : (c : Config) (starts ends : List ℕ) (k start step held : ℕ) (name : List ℕ) → k < length c.gauges → name_of c k ≡ name
    → start ≡ slice_index starts k → step ≡ window_of c → held ≡ slice_index ends k
    → (line : List ℕ) → IsSeenLineOf name start step held line → IsSeenLine c starts ends line
gauge_line c starts ends k start step held name known named from by to line of = record {
  gauge = k;
  known = known;
  of = subst (λ (n : List ℕ). IsSeenLineOf n (slice_index starts k) (window_of c) (slice_index ends k) line) (sym named)
      (subst (λ (n : ℕ). IsSeenLineOf name n (window_of c) (slice_index ends k) line) from
      (subst (λ (n : ℕ). IsSeenLineOf name start n (slice_index ends k) line) by
      (subst (λ (n : ℕ). IsSeenLineOf name start step n line) to of)));
}

pub returns-in_err-tell_gauge-clause-only : goal.returns-in_err-tell_gauge-clause-only
returns-in_err-tell_gauge-clause-only g c =
    let known : c.loop-gauge.gauge < length c.args.config.now.gauges = omega (arith, ap length c.as_slice-gauge-end.ensures) in
    let held : c.name-held.result.to ≡ slice_index (ends_of c.args.store.now.held) c.loop-gauge.gauge =
    ap (λ (n : Name). n.to) c.name-held.ensures.value ∙ c.held.ensures.end in
    λ tells. only_then g.K.Station _ _ _ _ _ (gauge_line c.args.config.now c.args.ends.now (ends_of c.args.store.now.held)
    c.loop-gauge.gauge _ _ _ c.as_str-name.result.now known
    (name_is c.args.config.now c.loop-gauge.gauge _ _ _ known c.as_slice.ensures c.as_str-name.ensures) c.start.ensures
    (ap (λ (b : ℕ). BLOCKS_PER_WINDOW * b) c.from.ensures) held) (c.loop-gauge.invariant.only tells) (c.tell_gauge.ensures.only tells)

pub loop-gauge-init : goal.loop-gauge-init
loop-gauge-init g c = record {
  only = λ tells. only_starts g.K.Station _ _ (g.met.K.Station.only_now tells c.args.station.now);
  told = λ tells. seen_start _ _ _ _ _;
  later = omega arith;
}

pub loop-gauge-preserved : goal.loop-gauge-preserved
loop-gauge-preserved g c =
    let known : c.loop-gauge.gauge < length c.args.config.now.gauges = omega (arith, ap length c.as_slice-gauge-end.ensures) in
    let held : c.name-held.result.to ≡ slice_index (ends_of c.args.store.now.held) c.loop-gauge.gauge =
    ap (λ (n : Name). n.to) c.name-held.ensures.value ∙ c.held.ensures.end in
    let name = name_is c.args.config.now c.loop-gauge.gauge _ _ _ known c.as_slice.ensures c.as_str-name.ensures in
    record {
      only = λ tells. only_then g.K.Station _ _ _ _ _ (gauge_line c.args.config.now c.args.ends.now (ends_of c.args.store.now.held)
          c.loop-gauge.gauge _ _ _ c.as_str-name.result.now known name c.start.ensures
          (ap (λ (b : ℕ). BLOCKS_PER_WINDOW * b) c.from.ensures) held) (c.loop-gauge.invariant.only tells)
          (c.tell_gauge.ensures.only tells);
      told = λ tells. seen_more (name_of c.args.config.now) (slice_index c.args.ends.now) (slice_index (ends_of c.args.store.now.held))
          (BLOCKS_PER_WINDOW * c.from.result) c.loop-gauge.gauge c.as_str-name.result.now c.start.result c.name-held.result.to _ _ _
          (c.loop-gauge.invariant.told tells) (c.in_ok-tell_gauge.ensures.told tells) name c.start.ensures held;
      later = omega (arith, c.loop-gauge.invariant.later, c.tell_gauge.ensures.cause.later);
    }

pub returns-clause-told : goal.returns-clause-told
returns-clause-told g c = λ tells files held.
    let k = g.K.Station in
    let past : c.loop-gauge.gauge ≡ length c.args.config.now.gauges =
    omega (arith, c.loop-gauge-test.false, ap length c.as_slice-gauge-end.ensures) in
    seen_all c.args.config.now.block (recordings c.args.config.now files) c.args.ends.now (ends_of c.args.store.now.held) c.loop-gauge.gauge
    _ _ c.requires.config.block.0 past held
    (subst (λ (b : ℕ). SeenSoFar (name_of c.args.config.now) (slice_index c.args.ends.now) (slice_index (ends_of c.args.store.now.held))
    (BLOCKS_PER_WINDOW * b) c.loop-gauge.gauge (k.told c.args.station.now) (k.told c.loop-gauge.station)) c.from.ensures
    (c.loop-gauge.invariant.told tells))
