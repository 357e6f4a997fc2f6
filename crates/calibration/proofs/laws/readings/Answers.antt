use Rattle.calibration.proofs.Numerals.{level_by_stress, missing_by_value}
use Rattle.calibration.proofs.laws.readings.Goals as goal

pub returns-clause-level : goal.returns-clause-level
returns-clause-level c = level_by_stress

pub returns-clause-missing : goal.returns-clause-missing
returns-clause-missing c = missing_by_value
