-- What `audit` prints: a line for each gauge.
--   same_line     of a gauge
--   same_lines    of all gauges, in order
--   Prints        what a command has written whose text they are
use Rattle.std.specs.Prelude.{◌≡◌, ℕ, List, ◌++◌, length, codes}
use Rattle.outside.specs.Sink.{AppendsPrefix}
use Rattle.report.specs.Lines.{lines_from}
use Rattle.site_config.specs.Valid.{name_of}
use Rattle.site_config.specs.declared.config.Config.{Config}
use Rattle.status.specs.declared.status.Status.{Status}
use Rattle.status.specs.declared.status.Status.TheVariants.{Done, WriteFault}

abbrev pub same_line : List ℕ → List ℕ
same_line name = codes "audit " ++ name ++ codes " same\n"

abbrev pub line_of_gauge : Config → ℕ → List ℕ
line_of_gauge c g = same_line (name_of c g)

abbrev pub same_lines : Config → List ℕ
same_lines c = lines_from (line_of_gauge c) 0 (length c.gauges)

abbrev pub Prints : Status → Config → List ℕ → List ℕ → Type 0
Prints Done c old new = new ≡ old ++ same_lines c
Prints WriteFault c old new = AppendsPrefix old new (same_lines c)
Prints status c old new = new ≡ old
