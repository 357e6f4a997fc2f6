use Rattle.std.proofs.Common.{◌≡◌, ◌++◌, string_bytes}
use Rattle.demo_command.specs.Summary.{gauge_lines, head_line}
use Rattle.demo_command.proofs.Summing.{line_at}
use Rattle.demo_command.proofs.text.summary_text.Given as goal

-- the lines of the gauges before this one are there
abbrev pub invariant-loop-gauge : goal.invariant-loop-gauge
invariant-loop-gauge l = string_bytes l.text ≡ head_line l.seed l.samples ++ gauge_lines (line_at l.seed l.samples l.totals) l.gauge
