use Rattle.std.proofs.Common.{◌≡◌, ◌≤◌, drop}
use Rattle.report.specs.Printed.{IsPrinted}
use Rattle.report_command.specs.site_report.Report.{detail_lines}
use Rattle.report_command.proofs.site_report.printing.print_details.Given as goal

-- the details from this one on are left
abbrev pub invariant-loop-i : goal.invariant-loop-i
invariant-loop-i g l = record {
  classes : l.page.classes ≡ l.fn.page.classes;
  printed : g.O.Sink.tells → IsPrinted (g.O.Sink.written l.fn.out) (g.O.Sink.written l.out)
      (detail_lines l.fn.config l.fn.config.details l.fn.damages)
      (detail_lines l.fn.config (drop l.i l.fn.config.details) (drop l.i l.fn.damages));
  later : g.O.Sink.faults l.fn.out ≤ g.O.Sink.faults l.out;
}
