-- Which files a command asks its site for.
--   file_names   the names of the files of a configuration's gauges, in order of number
--   names_in     those of a configuration that was read; a refused one has none
--   AsksFirst    the first so many of these names were asked for, in their order and each once, and no other
use Rattle.std.specs.Prelude.{◌≤◌, ℕ, List, [], length, map, take, Result, Ok, Err}
use Rattle.outside.specs.Site.{Asked, Asks}
use Rattle.site_config.specs.declared.config.Config.{Config}
use Rattle.site_config.specs.declared.config.Gauge.{Gauge}
use Rattle.site_config.specs.declared.fault.ConfigFault.{ConfigFault}

abbrev pub file_names : Config → List (List ℕ)
file_names c = map (λ (gauge : Gauge). gauge.file) c.gauges

abbrev pub names_in : Result Config ConfigFault → List (List ℕ)
names_in (Ok c) = file_names c
names_in (Err fault) = []

abbrev pub AsksFirst : Asked → Asked → List (List ℕ) → Type 0
AsksFirst before after names = (n : ℕ) × (n ≤ length names) × Asks before after (take n names)
