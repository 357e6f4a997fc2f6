use Rattle.std.proofs.Common.{ℕ, ℤ, List}
use Rattle.audit_command.specs.Audited.{AllSame, IsItem}
use Rattle.audit_command.specs.Recounted.{AreOf}
use Rattle.audit_command.proofs.compared.first_other.Given as goal

-- nothing differs in the gauges before this one
abbrev pub invariant-loop-gauge : goal.invariant-loop-gauge
invariant-loop-gauge l = (w : ℕ → List ℤ) → AreOf l.config l.recounts w → AllSame l.config (IsItem l.store.held) w l.gauge
