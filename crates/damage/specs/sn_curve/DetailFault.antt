-- What is told of a detail that is refused.
use Rattle.std.specs.Prelude.{ℕ, List, codes}
use Rattle.damage.specs.declared.sn_curve.detail.DetailFault.{DetailFault}
use Rattle.damage.specs.declared.sn_curve.detail.DetailFault.TheVariants.{Category, Gamma}

abbrev pub detail_fault_text : DetailFault → List ℕ
detail_fault_text Category = codes "no detail category of this kind of stress"
detail_fault_text Gamma = codes "no partial factor of table 3.1"
