use Rattle.demo_command.proofs.OneSummary.{one_summary}
use Rattle.demo_command.proofs.laws.one_summary.Goals as goal

pub returns : goal.returns
returns c = one_summary
