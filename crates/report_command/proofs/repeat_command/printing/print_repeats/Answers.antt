use Rattle.std.proofs.Common.{◌<◌, ◌≤◌, ◌++◌, ℕ, List, length, refl, ◌∙◌, ap, subst, sym, arith}
use Rattle.outside.specs.Sink.{AppendsPrefix}
use Rattle.calibration.specs.declared.setup.Setup.{Setup}
use Rattle.calibration.specs.declared.limits.TheConstants.{MAX_NAME_BYTES}
use Rattle.lemmas.proofs.Outcomes.{on_err}
use Rattle.segment_store.specs.Holds.{gain_at}
use Rattle.site_config.specs.Valid.{name_of}
use Rattle.site_config.proofs.Named.{name_is, short_name}
use Rattle.report.proofs.Printed.{lines_more, lines_front, lines_whole, lines_start}
use Rattle.report_command.specs.repeat_command.Printing.{repeat_texts, text_of_gauge}
use Rattle.report_command.proofs.on_repeat_command.Printed.{gauge_is}
use Rattle.report_command.proofs.on_repeat_command.Stand.{held_stands}
use Rattle.report_command.proofs.repeat_command.printing.print_repeats.Goals as goal

pub print_repeat-requires-clause-name : goal.print_repeat-requires-clause-name
print_repeat-requires-clause-name g c =
    let known : c.loop-gauge.gauge < length c.args.config.now.gauges = omega (arith, ap length c.as_slice-gauge-end.ensures) in
    subst (λ (l : List ℕ). length l ≤ MAX_NAME_BYTES) (name_is c.args.config.now c.loop-gauge.gauge _ _ _ known c.as_slice.ensures
    c.as_str-name.ensures)
    (short_name (name_of c.args.config.now c.loop-gauge.gauge) (c.requires.config.names c.loop-gauge.gauge known))

pub print_repeat-requires-clause-grid : goal.print_repeat-requires-clause-grid
print_repeat-requires-clause-grid g c =
    c.loop-gauge.invariant.grid ∙ sym (c.held.ensures.grid ∙ ap (λ (s : Setup). s.grid) c.requires.setup)

pub loop-gauge-init : goal.loop-gauge-init
loop-gauge-init g c = record {
  grid = c.requires.grid;
  classes = refl;
  printed = λ tells w all. lines_start (text_of_gauge c.args.config.now w) (length c.args.config.now.gauges)
      (g.O.Sink.written c.args.out.now);
  later = omega arith;
}

pub loop-gauge-preserved : goal.loop-gauge-preserved
loop-gauge-preserved g c =
    let was = c.loop-gauge.invariant in
    let config = c.args.config.now in
    let gauge = c.loop-gauge.gauge in
    let segment = c.held.result.now in
    let known : c.loop-gauge.gauge < length c.args.config.now.gauges = omega (arith, ap length c.as_slice-gauge-end.ensures) in
    let grid = c.held.ensures.grid ∙ ap (λ (s : Setup). s.grid) c.requires.setup in
    let name = name_is c.args.config.now c.loop-gauge.gauge _ _ _ known c.as_slice.ensures c.as_str-name.ensures in
    record {
      grid = c.print_repeat.ensures.grid ∙ was.grid;
      classes = c.print_repeat.ensures.classes ∙ was.classes;
      printed = λ tells w all. lines_more (text_of_gauge c.args.config.now w) c.loop-gauge.gauge (length c.args.config.now.gauges)
          (g.O.Sink.written c.args.out.now) (g.O.Sink.written c.loop-gauge.out) (g.O.Sink.written c.print_repeat.new.out)
          (repeat_texts c.args.config.now w) known (was.printed tells w all)
          (c.in_ok-print_repeat.ensures.ok tells (gain_at config.setup gauge) (w c.loop-gauge.gauge)
          (held_stands config c.args.store.now.held w gauge segment all (omega (arith, known, c.requires.gauges))
          (c.held.ensures.held segment))
          ∙ ap (λ (t : List ℕ). g.O.Sink.written c.loop-gauge.out ++ t)
          (gauge_is c.args.config.now w c.loop-gauge.gauge c.held.result.now.grid c.as_str-name.result.now grid name));
      later = omega (arith, was.later, c.print_repeat.ensures.cause.later);
    }

pub returns-in_err-print_repeat-clause-failed : goal.returns-in_err-print_repeat-clause-failed
returns-in_err-print_repeat-clause-failed g c = λ tells w all.
    let was = c.loop-gauge.invariant in
    let config = c.args.config.now in
    let gauge = c.loop-gauge.gauge in
    let segment = c.held.result.now in
    let known : c.loop-gauge.gauge < length c.args.config.now.gauges = omega (arith, ap length c.as_slice-gauge-end.ensures) in
    let grid = c.held.ensures.grid ∙ ap (λ (s : Setup). s.grid) c.requires.setup in
    let name = name_is c.args.config.now c.loop-gauge.gauge _ _ _ known c.as_slice.ensures c.as_str-name.ensures in
    on_err _ (lines_front (text_of_gauge c.args.config.now w) c.loop-gauge.gauge (length c.args.config.now.gauges)
    (g.O.Sink.written c.args.out.now) (g.O.Sink.written c.loop-gauge.out) (g.O.Sink.written c.print_repeat.new.out)
    (repeat_texts c.args.config.now w) known (was.printed tells w all)
    (subst (AppendsPrefix (g.O.Sink.written c.loop-gauge.out) (g.O.Sink.written c.print_repeat.new.out))
    (gauge_is c.args.config.now w c.loop-gauge.gauge c.held.result.now.grid c.as_str-name.result.now grid name)
    (c.in_err-print_repeat.ensures.failed tells (gain_at config.setup gauge) (w c.loop-gauge.gauge)
    (held_stands config c.args.store.now.held w gauge segment all (omega (arith, known, c.requires.gauges))
    (c.held.ensures.held segment)))))

pub returns-clause-ok : goal.returns-clause-ok
returns-clause-ok g c = λ tells w all. lines_whole (text_of_gauge c.args.config.now w) c.loop-gauge.gauge
    (length c.args.config.now.gauges) (g.O.Sink.written c.args.out.now) (g.O.Sink.written c.loop-gauge.out)
    (repeat_texts c.args.config.now w)
    (omega (arith, c.loop-gauge-test.false, ap length c.as_slice-gauge-end.ensures)) (c.loop-gauge.invariant.printed tells w all)
