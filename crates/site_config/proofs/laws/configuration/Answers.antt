use Rattle.site_config.proofs.Numerals.{long_configuration, short_configuration}
use Rattle.site_config.proofs.laws.configuration.Goals as goal

pub returns-clause-long : goal.returns-clause-long
returns-clause-long c = long_configuration

pub returns-clause-read : goal.returns-clause-read
returns-clause-read c = short_configuration
