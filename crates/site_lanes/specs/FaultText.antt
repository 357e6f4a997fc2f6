-- What is told of a recording that can't be counted.
use Rattle.std.specs.Prelude.{ℕ, List, codes}
use Rattle.status.specs.FaultText.{recording_text}
use Rattle.site_lanes.specs.declared.opening.OpenFault.{OpenFault}
use Rattle.site_lanes.specs.declared.opening.OpenFault.TheVariants.{Recording, ReadFault}

abbrev pub open_fault_text : OpenFault → List ℕ
open_fault_text (Recording fault) = recording_text fault
open_fault_text ReadFault = codes "a read failed"
