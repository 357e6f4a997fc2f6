use Rattle.std.proofs.Common.{◌≡◌, ◌++◌, List, ℕ, ap, ◌∙◌, subst, arith}
use Rattle.std.specs.Prelude.{OnOk, OnErr}
use Rattle.outside.specs.Sink.{AppendsPrefix}
use Rattle.calibration.specs.History.{history}
use Rattle.repeating.specs.Repeating.{repeating_cycles}
use Rattle.report.specs.Page.{PageValue}
use Rattle.report_command.proofs.on_repeat_command.Printed.{count_is}
use Rattle.report_command.proofs.repeat_command.printing.print_repeat.Goals as goal

pub returns-clause-ok : goal.returns-clause-ok
returns-clause-ok g c = λ tells gain w s.
    let grid = c.args.segment.now.grid in
    let text = c.bytes.ensures ∙ (ap (λ (p : PageValue). p.bytes) c.repeat_text.ensures
    ∙ count_is c.of.new.self grid c.args.name.now (repeating_cycles (history grid gain w)) (c.of.ensures.grid ∙ c.requires.grid)
    (omega (arith, c.of.ensures.rules.limits.classes_from)) (c.of.ensures.stands gain w s)) in
    subst (λ (t : List ℕ). OnOk c.put.result (g.O.Sink.written c.put.new.self ≡ g.O.Sink.written c.args.out.now ++ t)) text
    (c.put.ensures.ok tells)

pub returns-clause-failed : goal.returns-clause-failed
returns-clause-failed g c = λ tells gain w s.
    let grid = c.args.segment.now.grid in
    let text = c.bytes.ensures ∙ (ap (λ (p : PageValue). p.bytes) c.repeat_text.ensures
    ∙ count_is c.of.new.self grid c.args.name.now (repeating_cycles (history grid gain w)) (c.of.ensures.grid ∙ c.requires.grid)
    (omega (arith, c.of.ensures.rules.limits.classes_from)) (c.of.ensures.stands gain w s)) in
    subst (λ (t : List ℕ). OnErr c.put.result (AppendsPrefix (g.O.Sink.written c.args.out.now) (g.O.Sink.written c.put.new.self) t)) text
    (c.put.ensures.failed tells)
