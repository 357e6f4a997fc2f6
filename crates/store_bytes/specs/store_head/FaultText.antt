-- What is told of a head that is not that of the setup.
--   field_text   a part of the setup
--   head_text    the fault
use Rattle.std.specs.Prelude.{ℕ, List, ◌++◌, codes}
use Rattle.std.specs.Fmt.{decimal, signed_decimal}
use Rattle.store_bytes.specs.declared.store_head.fault.Field.{Field}
use Rattle.store_bytes.specs.declared.store_head.fault.Field.TheVariants.{Gauges, Classes, Width, Low, Reference, Num, Den, Offset}
use Rattle.store_bytes.specs.declared.store_head.fault.HeadFault.{HeadFault}
use Rattle.store_bytes.specs.declared.store_head.fault.HeadFault.TheVariants.{NotAStore, Version, Differs}

abbrev pub field_text : Field → List ℕ
field_text Gauges = codes "gauges"
field_text Classes = codes "classes"
field_text Width = codes "width"
field_text Low = codes "low"
field_text Reference = codes "reference"
field_text (Num gauge) = codes "num " ++ decimal gauge
field_text (Den gauge) = codes "den " ++ decimal gauge
field_text (Offset gauge) = codes "offset " ++ decimal gauge

abbrev pub head_text : HeadFault → List ℕ
head_text NotAStore = codes "not a store"
head_text (Version version) = codes "version " ++ decimal version ++ codes " in place of 1 or 2"
head_text (Differs field kept found) =
    field_text field ++ (codes " was " ++ signed_decimal kept ++ (codes ", is " ++ signed_decimal found))
