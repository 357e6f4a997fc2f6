use Rattle.std.proofs.Common.{◌≡◌, ◌++◌, List, ℕ, ap, ◌∙◌, subst}
use Rattle.std.specs.Prelude.{OnOk, OnErr}
use Rattle.outside.specs.Sink.{AppendsPrefix}
use Rattle.report.specs.Figures.{figures_of}
use Rattle.report.specs.Page.{PageValue}
use Rattle.report.proofs.SameCounts.{gauge_text-same}
use Rattle.report_command.proofs.site_report.printing.print_gauge.Goals as goal

pub returns-clause-ok : goal.returns-clause-ok
returns-clause-ok g c = λ tells figures agree.
    let text = c.bytes.ensures ∙ (ap (λ (p : PageValue). p.bytes) c.gauge_text.ensures.text
    ∙ gauge_text-same c.args.segment.now.grid (figures_of c.args.segment.now) figures agree
    c.grid-grid.ensures.rules.over.limits.classes_from
    c.args.name.now) in
    subst (λ (t : List ℕ). OnOk c.put.result (g.O.Sink.written c.put.new.self ≡ g.O.Sink.written c.args.out.now ++ t)) text
    (c.put.ensures.ok tells)

pub returns-clause-failed : goal.returns-clause-failed
returns-clause-failed g c = λ tells figures agree.
    let text = c.bytes.ensures ∙ (ap (λ (p : PageValue). p.bytes) c.gauge_text.ensures.text
    ∙ gauge_text-same c.args.segment.now.grid (figures_of c.args.segment.now) figures agree
    c.grid-grid.ensures.rules.over.limits.classes_from
    c.args.name.now) in
    subst (λ (t : List ℕ). OnErr c.put.result (AppendsPrefix (g.O.Sink.written c.args.out.now) (g.O.Sink.written c.put.new.self) t)) text
    (c.put.ensures.failed tells)
