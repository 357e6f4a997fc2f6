-- What is told of a gain or a grid that is refused.
use Rattle.std.specs.Prelude.{ℕ, List, codes}
use Rattle.calibration.specs.declared.gain.GainFault.{GainFault}
use Rattle.calibration.specs.declared.gain.GainFault.TheVariants.{Num, Den, Offset}
use Rattle.calibration.specs.declared.grid.GridFault.{GridFault}
use Rattle.calibration.specs.declared.grid.GridFault.TheVariants.{Classes, Width, Span, Low, Reference}

abbrev pub gain_text : GainFault → List ℕ
gain_text Num = codes "the numerator is outside its limits"
gain_text Den = codes "the denominator is outside its limits"
gain_text Offset = codes "the offset is outside its limits"

abbrev pub grid_text : GridFault → List ℕ
grid_text Classes = codes "the number of classes is outside its limits"
grid_text Width = codes "the classes have no width"
grid_text Span = codes "the classes span too many steps"
grid_text Low = codes "the lower end is outside its limits"
grid_text Reference = codes "the reference boundary is not between two classes"
