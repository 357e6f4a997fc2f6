use Rattle.std.proofs.Common.{◌≡◌, ◌≤◌, ◌-◌, length}
use Rattle.report.specs.Lines.{lines_from}
use Rattle.report.specs.Printed.{IsPrinted}
use Rattle.audit_command.specs.Printing.{line_of_gauge, same_lines}
use Rattle.audit_command.specs.declared.same_lines.TheConstants.{MAX_LINE_BYTES}
use Rattle.audit_command.proofs.same_lines.print_same.Given as goal

-- the gauges from this one on are left
abbrev pub invariant-loop-gauge : goal.invariant-loop-gauge
invariant-loop-gauge g l = record {
  room : l.line.room ≡ MAX_LINE_BYTES;
  printed : g.O.Sink.tells → IsPrinted (g.O.Sink.written l.fn.out) (g.O.Sink.written l.out) (same_lines l.config)
      (lines_from (line_of_gauge l.config) l.gauge (length l.config.gauges - l.gauge));
  later : g.O.Sink.faults l.fn.out ≤ g.O.Sink.faults l.out;
}
