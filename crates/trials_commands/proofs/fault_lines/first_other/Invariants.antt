use Rattle.std.proofs.Common.{◌≡◌}
use Rattle.trials_commands.proofs.fault_lines.first_other.Given as goal

abbrev pub invariant-loop-row : goal.invariant-loop-row
invariant-loop-row l = l.line.name_bytes ≡ 32
