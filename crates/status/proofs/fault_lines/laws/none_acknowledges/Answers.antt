use Rattle.status.proofs.on_fault_lines.FirstByte.{fault_line-no_h}
use Rattle.status.proofs.fault_lines.laws.none_acknowledges.Goals as goal

pub returns : goal.returns
returns c = fault_line-no_h
