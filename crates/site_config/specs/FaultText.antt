-- What is told of a configuration that is refused.
use Rattle.std.specs.Prelude.{ℕ, List, [], ◌++◌, codes}
use Rattle.std.specs.Fmt.{decimal}
use Rattle.site_config.specs.Keys.{part_text, key_text}
use Rattle.site_config.specs.declared.fault.ConfigFault.{ConfigFault}
use Rattle.site_config.specs.declared.fault.ConfigFault.TheVariants.{NotToml, Missing, Kind, Limit, Double, NoSuchGauge, TooLong, OutOfMemory}

-- without the place
abbrev pub fault_words : ConfigFault → List ℕ
fault_words NotToml = codes "not TOML"
fault_words (Missing key) = codes "missing"
fault_words (Kind key) = codes "wrong kind"
fault_words (Limit key) = codes "out of range"
fault_words (Double part first second) = codes "double"
fault_words (NoSuchGauge detail) = codes "no such gauge"
fault_words TooLong = codes "too long"
fault_words OutOfMemory = codes "out of memory"

abbrev pub place_behind : ConfigFault → List ℕ
place_behind (Missing key) = codes " " ++ key_text key
place_behind (Kind key) = codes " " ++ key_text key
place_behind (Limit key) = codes " " ++ key_text key
place_behind (Double part first second) =
    codes " " ++ part_text part ++ codes " " ++ decimal first ++ codes " " ++ decimal second
place_behind (NoSuchGauge detail) = codes ", detail " ++ decimal detail
place_behind fault = []

abbrev pub config_fault_text : ConfigFault → List ℕ
config_fault_text fault = fault_words fault ++ place_behind fault
