use Rattle.std.proofs.Common.{◌≡◌, ◌≤◌, ◌-◌, ℕ, ℤ, List, length}
use Rattle.report.specs.Lines.{lines_from}
use Rattle.report.specs.Printed.{IsPrinted}
use Rattle.report_command.specs.repeat_command.Printing.{AllHeldStand, repeat_texts, text_of_gauge}
use Rattle.report_command.proofs.repeat_command.printing.print_repeats.Given as goal

-- the gauges from this one on are left
abbrev pub invariant-loop-gauge : goal.invariant-loop-gauge
invariant-loop-gauge g l = record {
  grid : l.count.grid ≡ l.fn.config.setup.grid;
  classes : l.page.classes ≡ l.fn.page.classes;
  printed : g.O.Sink.tells → (w : ℕ → List ℤ) → AllHeldStand l.fn.config l.fn.store.held w → IsPrinted (g.O.Sink.written l.fn.out)
      (g.O.Sink.written l.out) (repeat_texts l.fn.config w)
      (lines_from (text_of_gauge l.fn.config w) l.gauge (length l.fn.config.gauges - l.gauge));
  later : g.O.Sink.faults l.fn.out ≤ g.O.Sink.faults l.out;
}
