use Rattle.std.proofs.Common.{◌<◌, ◌≤◌, ◌++◌, ℕ, List, length, refl, ◌∙◌, ap, subst, arith}
use Rattle.outside.specs.Sink.{AppendsPrefix}
use Rattle.calibration.specs.declared.limits.TheConstants.{MAX_NAME_BYTES}
use Rattle.lemmas.proofs.Outcomes.{on_err}
use Rattle.segment.specs.Segment.{SegmentValue}
use Rattle.site_config.specs.Valid.{name_of}
use Rattle.site_config.proofs.Named.{name_is, short_name}
use Rattle.report_command.specs.site_report.Report.{names_of, window_lines, window_of_gauge}
use Rattle.report_command.proofs.on_site_report.HeldFigures.{agree_held}
use Rattle.report.proofs.Printed.{lines_more, lines_front, lines_whole, lines_start}
use Rattle.report_command.proofs.on_site_report.Windowed.{window_is}
use Rattle.report_command.proofs.site_report.window_printing.print_windows.Goals as goal

pub print_window-requires-clause-name : goal.print_window-requires-clause-name
print_window-requires-clause-name g c =
    let known : c.loop-gauge.gauge < length c.args.config.now.gauges = omega (arith, ap length c.as_slice-gauge-end.ensures) in
    subst (λ (l : List ℕ). length l ≤ MAX_NAME_BYTES) (name_is c.args.config.now c.loop-gauge.gauge _ _ _ known c.as_slice.ensures
    c.as_str-name.ensures)
    (short_name (name_of c.args.config.now c.loop-gauge.gauge) (c.requires.config.names c.loop-gauge.gauge known))

pub loop-gauge-init : goal.loop-gauge-init
loop-gauge-init g c = record {
  classes = refl;
  printed = λ tells figures agrees. lines_start (window_of_gauge c.args.config.now (names_of c.args.segments.now) figures) (length
      c.args.config.now.gauges)
      (g.O.Sink.written c.args.out.now);
  later = omega arith;
}

pub loop-gauge-preserved : goal.loop-gauge-preserved
loop-gauge-preserved g c =
    let was = c.loop-gauge.invariant in
    let known : c.loop-gauge.gauge < length c.args.config.now.gauges = omega (arith, ap length c.as_slice-gauge-end.ensures) in
    let grid = ap (λ (x : SegmentValue). x.grid) c.index-segments-gauge.is
    ∙ c.requires.setup c.loop-gauge.gauge c.index-segments-gauge.result (omega (arith, known, c.requires.gauges)) in
    let name = name_is c.args.config.now c.loop-gauge.gauge _ _ _ known c.as_slice.ensures c.as_str-name.ensures in
    record {
      classes = c.print_window.ensures.classes ∙ was.classes;
      printed = λ tells figures agrees. lines_more (window_of_gauge c.args.config.now (names_of c.args.segments.now) figures)
          c.loop-gauge.gauge
          (length c.args.config.now.gauges)
          (g.O.Sink.written c.args.out.now) (g.O.Sink.written c.loop-gauge.out) (g.O.Sink.written c.print_window.new.out)
          (window_lines c.args.config.now (names_of c.args.segments.now) figures) known (was.printed tells figures agrees)
          (c.in_ok-print_window.ensures.ok tells (figures c.loop-gauge.gauge)
          (agree_held c.args.config.now c.args.segments.now figures c.loop-gauge.gauge c.loop-gauge.gauge c.index-segments-gauge.result
          agrees refl
          (omega (arith, known, c.requires.gauges)) c.index-segments-gauge.is grid c.print_window.ensures.rules)
          ∙ ap (λ (t : List ℕ). g.O.Sink.written c.loop-gauge.out ++ t)
          (window_is c.args.config.now c.args.segments.now figures c.loop-gauge.gauge c.index-segments-gauge.result c.as_str-name.result.now
          (omega (arith, known, c.requires.gauges)) c.index-segments-gauge.is grid name));
      later = omega (arith, was.later, c.print_window.ensures.cause.later);
    }

pub returns-in_err-print_window-clause-failed : goal.returns-in_err-print_window-clause-failed
returns-in_err-print_window-clause-failed g c = λ tells figures agrees.
    let was = c.loop-gauge.invariant in
    let known : c.loop-gauge.gauge < length c.args.config.now.gauges = omega (arith, ap length c.as_slice-gauge-end.ensures) in
    let grid = ap (λ (x : SegmentValue). x.grid) c.index-segments-gauge.is
    ∙ c.requires.setup c.loop-gauge.gauge c.index-segments-gauge.result (omega (arith, known, c.requires.gauges)) in
    let name = name_is c.args.config.now c.loop-gauge.gauge _ _ _ known c.as_slice.ensures c.as_str-name.ensures in
    on_err _ (lines_front (window_of_gauge c.args.config.now (names_of c.args.segments.now) figures) c.loop-gauge.gauge (length
    c.args.config.now.gauges)
    (g.O.Sink.written c.args.out.now) (g.O.Sink.written c.loop-gauge.out) (g.O.Sink.written c.print_window.new.out)
    (window_lines c.args.config.now (names_of c.args.segments.now) figures) known (was.printed tells figures agrees)
    (subst (AppendsPrefix (g.O.Sink.written c.loop-gauge.out) (g.O.Sink.written c.print_window.new.out))
    (window_is c.args.config.now c.args.segments.now figures c.loop-gauge.gauge c.index-segments-gauge.result c.as_str-name.result.now
    (omega (arith, known, c.requires.gauges)) c.index-segments-gauge.is grid name)
    (c.in_err-print_window.ensures.failed tells (figures c.loop-gauge.gauge)
    (agree_held c.args.config.now c.args.segments.now figures c.loop-gauge.gauge c.loop-gauge.gauge c.index-segments-gauge.result agrees
    refl
    (omega (arith, known, c.requires.gauges)) c.index-segments-gauge.is grid c.print_window.ensures.rules))))

pub returns-clause-ok : goal.returns-clause-ok
returns-clause-ok g c = λ tells figures agrees. lines_whole (window_of_gauge c.args.config.now (names_of c.args.segments.now) figures)
    c.loop-gauge.gauge
    (length c.args.config.now.gauges) (g.O.Sink.written c.args.out.now) (g.O.Sink.written c.loop-gauge.out)
    (window_lines c.args.config.now (names_of c.args.segments.now) figures)
    (omega (arith, c.loop-gauge-test.false, ap length c.as_slice-gauge-end.ensures)) (c.loop-gauge.invariant.printed tells figures agrees)
