use Rattle.std.proofs.Common.{◌∙◌, List, ap, sym, subst}
use Rattle.calibration.specs.declared.setup.Setup.{Setup}
use Rattle.segment.specs.Segment.{SegmentValue}
use Rattle.report_command.specs.site_report.Report.{Agrees, AreOver, figures_by}
use Rattle.count_command.proofs.AtEnd.{agrees}
use Rattle.count_command.proofs.opened.print_held.Goals as goal

pub print-requires-clause-setup : goal.print-requires-clause-setup
print-requires-clause-setup g c =
    subst (AreOver c.args.config.now.setup.grid) (sym c.segments.ensures.segments)
    (λ k d lt. c.segments.ensures.grids k d lt ∙ ap (λ (s : Setup). s.grid) c.requires.setup)

pub returns-in-Ok-clause-prints : goal.returns-in-Ok-clause-prints
returns-in-Ok-clause-prints g c = λ shows w stand.
    c.in-Ok.ensures.ok shows (figures_by c.args.config.now w)
    (subst (λ (h : List SegmentValue). Agrees c.args.config.now h (figures_by c.args.config.now w)) (sym c.segments.ensures.segments)
    (agrees c.args.config.now w c.args.store.now.held stand))

pub returns-in-Err-clause-prints : goal.returns-in-Err-clause-prints
returns-in-Err-clause-prints g c = λ shows w stand.
    c.in-Err.ensures.failed shows (figures_by c.args.config.now w)
    (subst (λ (h : List SegmentValue). Agrees c.args.config.now h (figures_by c.args.config.now w)) (sym c.segments.ensures.segments)
    (agrees c.args.config.now w c.args.store.now.held stand))
