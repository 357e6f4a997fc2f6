use Rattle.std.proofs.Common.{◌<◌, List, ap, ◌∙◌, sym, subst, arith, get_or, length}
use Rattle.outside.specs.Sink.{AppendsPrefix}
use Rattle.lemmas.proofs.Outcomes.{on_err}
use Rattle.report.specs.Page.{PageValue}
use Rattle.site_config.specs.Valid.{name_of}
use Rattle.site_config.specs.declared.config.NamedDetail.{NamedDetail}
use Rattle.site_config.proofs.Named.{name_is}
use Rattle.report_command.specs.site_report.Report.{detail_lines}
use Rattle.report_command.proofs.on_site_report.Printed.{details_front, line_is}
use Rattle.report_command.proofs.site_report.printing.print_details.Goals as goal

pub returns-in_err-put-clause-failed : goal.returns-in_err-put-clause-failed
returns-in_err-put-clause-failed g c = λ tells.
    let within : c.loop-i.i < length c.args.damages.now = omega (arith, c.loop-i-test.true) in
    let within2 : c.loop-i.i < length c.args.config.now.details = omega (arith, within, c.requires.one_each) in
    let item = c.index-as_slice-i.is ∙ ap (λ (l : List NamedDetail). get_or l c.loop-i.i c.index-as_slice-i.result) c.as_slice.ensures in
    let on : c.index-as_slice-i.result.gauge < length c.args.config.now.gauges =
    subst (λ (d : NamedDetail). d.gauge < length c.args.config.now.gauges) (sym item)
    (c.requires.config.on c.loop-i.i c.index-as_slice-i.result within2) in
    let at : c.from.result < length c.args.config.now.gauges = omega (arith, on, c.from.ensures) in
    let gauge = ap (name_of c.args.config.now) (sym c.from.ensures)
    ∙ name_is c.args.config.now c.from.result _ c.index-as_slice-from.result _ at c.as_slice-in-loop-i.ensures c.as_str-gauge.ensures in
    let text = c.bytes.ensures ∙ (ap (λ (p : PageValue). p.bytes) c.detail_text.ensures
    ∙ line_is c.args.config.now c.args.config.now.details c.args.damages.now c.loop-i.i c.index-as_slice-i.result c.index-damages-i.result
    c.as_str.result.now c.as_str-gauge.result.now item c.index-damages-i.is c.as_str.ensures gauge) in
    on_err _ (details_front c.args.config.now c.args.config.now.details c.args.damages.now c.loop-i.i c.index-as_slice-i.result
    c.index-damages-i.result
    within2 within (g.O.Sink.written c.args.out.now) (g.O.Sink.written c.loop-i.out) (g.O.Sink.written c.put.new.self)
    (detail_lines c.args.config.now c.args.config.now.details c.args.damages.now) (c.loop-i.invariant.printed tells)
    (subst (AppendsPrefix (g.O.Sink.written c.loop-i.out) (g.O.Sink.written c.put.new.self)) text (c.in_err-put.ensures.failed tells)))
