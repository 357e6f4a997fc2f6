use Rattle.repeating.proofs.FromResult.{closes_from_result}
use Rattle.repeating.proofs.laws.from_result.Goals as goal

pub returns : goal.returns
returns c = closes_from_result
