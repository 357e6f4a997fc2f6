use Rattle.four_point.proofs.on_residue_join.HalfUnits.{takes_half_units, counts_its_neighbours, counts_its_result}
use Rattle.four_point.proofs.residue_join.laws.half_units.Goals as goal

pub returns-clause-part : goal.returns-clause-part
returns-clause-part c = takes_half_units

pub returns-clause-residue : goal.returns-clause-residue
returns-clause-residue c = counts_its_neighbours

pub returns-clause-whole : goal.returns-clause-whole
returns-clause-whole c = counts_its_result
