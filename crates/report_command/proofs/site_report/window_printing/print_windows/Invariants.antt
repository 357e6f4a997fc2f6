use Rattle.std.proofs.Common.{◌≡◌, ◌≤◌, ◌-◌, ℕ, length}
use Rattle.report.specs.Figures.{Figures}
use Rattle.report.specs.Lines.{lines_from}
use Rattle.report_command.specs.site_report.Report.{Agrees, names_of, window_lines, window_of_gauge}
use Rattle.report.specs.Printed.{IsPrinted}
use Rattle.report_command.proofs.site_report.window_printing.print_windows.Given as goal

-- the gauges from this one on are left
abbrev pub invariant-loop-gauge : goal.invariant-loop-gauge
invariant-loop-gauge g l = record {
  classes : l.page.classes ≡ l.fn.page.classes;
  printed : g.O.Sink.tells → (figures : ℕ → Figures) → Agrees l.fn.config l.fn.segments figures → IsPrinted (g.O.Sink.written l.fn.out)
      (g.O.Sink.written l.out) (window_lines l.fn.config (names_of l.fn.segments) figures)
      (lines_from (window_of_gauge l.fn.config (names_of l.fn.segments) figures) l.gauge (length l.fn.config.gauges - l.gauge));
  later : g.O.Sink.faults l.fn.out ≤ g.O.Sink.faults l.out;
}
