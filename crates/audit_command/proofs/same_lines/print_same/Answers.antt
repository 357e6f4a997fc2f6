use Rattle.std.proofs.Common.{◌<◌, ◌++◌, ℕ, List, length, ◌∙◌, sym, ap, subst, arith}
use Rattle.outside.specs.Sink.{AppendsPrefix}
use Rattle.lemmas.proofs.Outcomes.{on_err}
use Rattle.status.specs.line_room.Room.{RoomValue}
use Rattle.report.proofs.Printed.{lines_more, lines_front}
use Rattle.audit_command.specs.Printing.{line_of_gauge, same_line, same_lines}
use Rattle.audit_command.proofs.same_lines.print_same.Goals as goal
use Rattle.site_config.proofs.Named.{name_is}

pub returns-in_err-put-clause-failed : goal.returns-in_err-put-clause-failed
returns-in_err-put-clause-failed g c = λ tells.
    let known : c.loop-gauge.gauge < length c.args.config.now.gauges = omega (arith, ap length c.as_slice-gauge-end.ensures) in
    let name = name_is c.args.config.now c.loop-gauge.gauge _ _ _ known c.as_slice.ensures c.as_str.ensures in
    let text = c.bytes.ensures ∙ (ap (λ (l : RoomValue). l.bytes) c.push_same.ensures ∙ ap same_line (sym name)) in
    on_err _ (lines_front (line_of_gauge c.args.config.now) c.loop-gauge.gauge (length c.args.config.now.gauges)
    (g.O.Sink.written c.args.out.now)
    (g.O.Sink.written c.loop-gauge.out) (g.O.Sink.written c.put.new.self) (same_lines c.args.config.now) known
    (c.loop-gauge.invariant.printed tells)
    (subst (AppendsPrefix (g.O.Sink.written c.loop-gauge.out) (g.O.Sink.written c.put.new.self)) text (c.in_err-put.ensures.failed tells)))

pub loop-gauge-preserved : goal.loop-gauge-preserved
loop-gauge-preserved g c =
    let was = c.loop-gauge.invariant in
    let known : c.loop-gauge.gauge < length c.args.config.now.gauges = omega (arith, ap length c.as_slice-gauge-end.ensures) in
    let name = name_is c.args.config.now c.loop-gauge.gauge _ _ _ known c.as_slice.ensures c.as_str.ensures in
    let text = c.bytes.ensures ∙ (ap (λ (l : RoomValue). l.bytes) c.push_same.ensures ∙ ap same_line (sym name)) in
    record {
      room = ap (λ (l : RoomValue). l.room) c.push_same.ensures;
      printed = λ tells. lines_more (line_of_gauge c.args.config.now) c.loop-gauge.gauge (length c.args.config.now.gauges)
          (g.O.Sink.written c.args.out.now) (g.O.Sink.written c.loop-gauge.out) (g.O.Sink.written c.put.new.self)
          (same_lines c.args.config.now) known
          (was.printed tells) (c.in_ok-put.ensures.ok tells ∙ ap (λ (t : List ℕ). g.O.Sink.written c.loop-gauge.out ++ t) text);
      later = omega (arith, was.later, c.put.ensures.cause.later);
    }
