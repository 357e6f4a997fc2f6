-- The line that is told of a status.
--   what_text           what an audit compared
--   fault_line          the whole, with the name of the gauge or of the file
--   name_for, name_by   the name of a status's gauge
--   NoneAcknowledges    no such line begins as one that acknowledges samples does
use Rattle.std.specs.Prelude.{◌≢◌, ℕ, List, [], ◌++◌, codes, Result, Ok, Err}
use Rattle.std.specs.Fmt.{decimal}
use Rattle.status.specs.FaultText.{recording_text, store_text}
use Rattle.status.specs.line_room.Room.{shown_text}
use Rattle.site_config.specs.FaultText.{config_fault_text}
use Rattle.site_config.specs.declared.config.Config.{Config as Configuration}
use Rattle.site_config.specs.Valid.{name_of}
use Rattle.site_config.specs.declared.fault.ConfigFault.{ConfigFault}
use Rattle.recount.specs.declared.compare.What.{What}
use Rattle.recount.specs.declared.compare.What.TheVariants as what
use Rattle.status.specs.declared.status.Status.{Status}
use Rattle.status.specs.declared.status.Status.TheVariants.{Done, Usage, Config, Store, Recording, Torn, ReadFault, WriteFault, DiskFault, OutOfMemory, TooLong, Differs}

abbrev pub what_text : What → List ℕ
what_text what.Used = codes "used"
what_text what.Missing = codes "missing"
what_text what.Refused = codes "refused"
what_text (what.Cell lo hi) = codes "cell " ++ decimal lo ++ codes " " ++ decimal hi

abbrev pub torn_text : ℕ → List ℕ
torn_text bytes = codes "ends in " ++ decimal bytes ++ codes " odd bytes"

-- what is told of a recording, behind its name
abbrev pub recording_line : List ℕ → List ℕ → List ℕ
recording_line name text = codes "recording " ++ shown_text name ++ codes ": " ++ text ++ codes "\n"

abbrev pub differs_text : What → ℕ → ℕ → List ℕ
differs_text what held found = what_text what ++ codes " held " ++ decimal held ++ codes ", recount " ++ decimal found

-- Of `Done` nothing is told. The name is that of the gauge, or of a single file.
abbrev pub fault_line : Status → List ℕ → List ℕ
fault_line Done name = []
fault_line Usage name = codes
    "usage: monitor table FILE | init | count [--workers N] | report | audit | demo [--seed N] [--samples N] [--workers N] | repeat | column FILE NAME ID PERIOD | sheet | window START FROM TO | compact | watch [--workers N]\n"
fault_line (Config fault) name = codes "config: " ++ config_fault_text fault ++ codes "\n"
fault_line (Store fault) name = codes "store: " ++ store_text fault ++ codes "\n"
fault_line (Recording gauge fault) name = recording_line name (recording_text fault)
fault_line (Torn gauge bytes) name = recording_line name (torn_text bytes)
fault_line ReadFault name = codes "read fault\n"
fault_line WriteFault name = codes "write fault\n"
fault_line DiskFault name = codes "station fault\n"
fault_line OutOfMemory name = codes "out of memory\n"
fault_line (TooLong gauge) name = recording_line name (codes "too long")
fault_line (Differs gauge what held found) name =
    codes "audit " ++ shown_text name ++ codes ": " ++ differs_text what held found ++ codes "\n"

-- Other answers have no gauge.
abbrev pub name_for : Configuration → Status → List ℕ
name_for config (Recording gauge fault) = name_of config gauge
name_for config (Torn gauge bytes) = name_of config gauge
name_for config (TooLong gauge) = name_of config gauge
name_for config (Differs gauge what held found) = name_of config gauge
name_for config status = []

abbrev pub name_by : Result Configuration ConfigFault → Status → List ℕ
name_by (Ok config) status = name_for config status
name_by (Err fault) status = []

-- A line that acknowledges samples begins with this letter (docs/FORMATS.md).
abbrev pub NoneAcknowledges : Type 0
NoneAcknowledges = (status : Status) (name rest : List ℕ) → fault_line status name ≢ codes "h" ++ rest
