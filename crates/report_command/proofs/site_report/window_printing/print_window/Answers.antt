use Rattle.std.proofs.Common.{◌++◌, List, ℕ, ap, ◌∙◌, subst, append_assoc}
use Rattle.outside.specs.Sink.{AppendsPrefix}
use Rattle.lemmas.proofs.Outcomes.{on_err}
use Rattle.std.proofs.lemmas.Result.{on_ok_weaker, on_err_weaker}
use Rattle.report.specs.Page.{PageValue}
use Rattle.report.specs.Texts.{gauge_text}
use Rattle.report.specs.Window.{window_line}
use Rattle.outside.proofs.Parts.{first_part_front, second_part_front}
use Rattle.report_command.proofs.site_report.window_printing.print_window.Goals as goal

pub returns-in_err-put-clause-failed : goal.returns-in_err-put-clause-failed
returns-in_err-put-clause-failed g c = λ tells figures agree.
    let v = c.args.segment.now in
    let name = c.args.name.now in
    let e = c.name-window.ensures.value in
    let line = c.bytes.ensures ∙ ap (λ (p : PageValue). p.bytes) c.window_line.ensures
    ∙ ap (λ n. window_line name n.from n.to) e in
    let old = g.O.Sink.written c.args.out.now in
    on_err _ (first_part_front old (g.O.Sink.written c.put.new.self) (window_line name v.from v.to) (gauge_text v.grid name figures)
    (subst (AppendsPrefix old (g.O.Sink.written c.put.new.self)) line (c.in_err-put.ensures.failed tells)))

pub returns-clause-ok : goal.returns-clause-ok
returns-clause-ok g c = λ tells figures agree.
    let v = c.args.segment.now in
    let name = c.args.name.now in
    let e = c.name-window.ensures.value in
    let line = c.bytes.ensures ∙ ap (λ (p : PageValue). p.bytes) c.window_line.ensures
    ∙ ap (λ n. window_line name n.from n.to) e in
    let old = g.O.Sink.written c.args.out.now in
    let text : List ℕ = gauge_text v.grid name figures in
    let first = c.in_ok-put.ensures.ok tells ∙ ap (λ (l : List ℕ). old ++ l) line in
    on_ok_weaker c.print_gauge.result (λ put. put ∙ ap (λ (l : List ℕ). l ++ text) first
    ∙ append_assoc old (window_line name v.from v.to) text) (c.print_gauge.ensures.ok tells figures agree)

pub returns-clause-failed : goal.returns-clause-failed
returns-clause-failed g c = λ tells figures agree.
    let v = c.args.segment.now in
    let name = c.args.name.now in
    let e = c.name-window.ensures.value in
    let line = c.bytes.ensures ∙ ap (λ (p : PageValue). p.bytes) c.window_line.ensures
    ∙ ap (λ n. window_line name n.from n.to) e in
    let old = g.O.Sink.written c.args.out.now in
    let first = c.in_ok-put.ensures.ok tells ∙ ap (λ (l : List ℕ). old ++ l) line in
    on_err_weaker c.print_gauge.result (λ put. second_part_front old (g.O.Sink.written c.put.new.self)
    (g.O.Sink.written c.print_gauge.new.out) (window_line name v.from v.to) (gauge_text v.grid name figures) first put)
    (c.print_gauge.ensures.failed tells figures agree)
