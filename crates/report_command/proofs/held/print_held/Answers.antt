use Rattle.std.proofs.Common.{ap, subst, sym, ◌∙◌}
use Rattle.calibration.specs.declared.setup.Setup.{Setup}
use Rattle.report_command.specs.site_report.Report.{AreOver}
use Rattle.report_command.proofs.held.print_held.Goals as goal

pub print-requires-clause-setup : goal.print-requires-clause-setup
print-requires-clause-setup g c =
    subst (AreOver c.args.config.now.setup.grid) (sym c.segments.ensures.segments)
    (λ k d lt. c.segments.ensures.grids k d lt ∙ ap (λ (s : Setup). s.grid) c.requires.setup)
