-- The ranges of the code, as the definitions have them.
use Rattle.std.specs.Prelude.{List, map}
use Rattle.turning_points.specs.three_point.Run.{CountedRange}
use Rattle.turning_points.specs.declared.three_point.ranges.Range.{Range}

abbrev pub counted_range_of : Range → CountedRange
counted_range_of r = record { pair = record { lo = r.lo; hi = r.hi }; halves = r.halves }

abbrev pub counted_ranges : List Range → List CountedRange
counted_ranges ranges = map counted_range_of ranges
