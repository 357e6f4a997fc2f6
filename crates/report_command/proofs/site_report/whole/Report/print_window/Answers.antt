use Rattle.std.proofs.Common.{◌++◌, List, ℕ, ap, refl, ◌∙◌, sym, subst, append_assoc}
use Rattle.outside.specs.Sink.{AppendsPrefix}
use Rattle.lemmas.proofs.Outcomes.{on_err}
use Rattle.std.proofs.lemmas.Result.{on_ok_weaker, on_err_weaker}
use Rattle.report_command.specs.site_report.Damages.{AreDamages}
use Rattle.report_command.specs.site_report.Report.{IsWindowReport, names_of, window_lines, detail_lines}
use Rattle.outside.proofs.Parts.{first_part_front, second_part_front}
use Rattle.report_command.proofs.site_report.whole.Report.print_window.Goals as goal

pub returns-in_err-print_windows-clause-failed : goal.returns-in_err-print_windows-clause-failed
returns-in_err-print_windows-clause-failed g c = λ tells figures agrees.
    let config = c.args.config.now in
    let damages = c.sum_damages.new.damages.items in
    let front : (text : List ℕ) × IsWindowReport c.args.config.now (names_of c.args.segments.now) figures text
    × AppendsPrefix (g.O.Sink.written c.args.out.now) (g.O.Sink.written c.print_windows.new.out) text = (
      window_lines config (names_of c.args.segments.now) figures ++ detail_lines config config.details damages,
      record { damages = damages; are_damages = c.sum_damages.ensures.damages figures agrees; is_text = refl },
      first_part_front (g.O.Sink.written c.args.out.now) (g.O.Sink.written c.print_windows.new.out) (window_lines config (names_of
          c.args.segments.now) figures)
          (detail_lines config config.details damages) (c.in_err-print_windows.ensures.failed tells figures agrees),
    ) in
    on_err _ front

pub returns-clause-ok : goal.returns-clause-ok
returns-clause-ok g c = λ tells figures agrees.
    let config = c.args.config.now in
    let old = g.O.Sink.written c.args.out.now in
    let damages = c.deref.result.now in
    let first = window_lines config (names_of c.args.segments.now) figures in
    let second = detail_lines config config.details c.deref.result.now in
    on_ok_weaker c.print_details.result (λ put. (
      window_lines config (names_of c.args.segments.now) figures ++ detail_lines config config.details c.deref.result.now,
      record {
        damages = damages;
        are_damages = subst (AreDamages config figures) (sym c.deref.ensures.value) (c.sum_damages.ensures.damages figures agrees);
        is_text = refl;
      },
      put ∙ (ap (λ (l : List ℕ). l ++ detail_lines config config.details c.deref.result.now)
          (c.in_ok-print_windows.ensures.ok tells figures agrees)
          ∙ append_assoc old first second),
    )) (c.print_details.ensures.ok tells)

pub returns-clause-failed : goal.returns-clause-failed
returns-clause-failed g c = λ tells figures agrees.
    let config = c.args.config.now in
    let damages = c.deref.result.now in
    on_err_weaker c.print_details.result (λ put. (
      window_lines config (names_of c.args.segments.now) figures ++ detail_lines config config.details c.deref.result.now,
      record {
        damages = damages;
        are_damages = subst (AreDamages config figures) (sym c.deref.ensures.value) (c.sum_damages.ensures.damages figures agrees);
        is_text = refl;
      },
      second_part_front (g.O.Sink.written c.args.out.now) (g.O.Sink.written c.print_windows.new.out)
          (g.O.Sink.written c.print_details.new.out)
          (window_lines config (names_of c.args.segments.now) figures) (detail_lines config config.details c.deref.result.now)
          (c.in_ok-print_windows.ensures.ok tells figures agrees) put,
    )) (c.print_details.ensures.failed tells)
