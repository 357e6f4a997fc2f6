use Rattle.damage.proofs.on_miner.Unique.{one_damage}
use Rattle.damage.proofs.miner.laws.one_damage.Goals as goal

pub returns : goal.returns
returns c = one_damage
