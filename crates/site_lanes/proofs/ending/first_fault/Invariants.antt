use Rattle.site_lanes.specs.Ending.{NoFaultBelow}
use Rattle.site_lanes.proofs.ending.first_fault.Given as goal

abbrev pub invariant-loop-lane : goal.invariant-loop-lane
invariant-loop-lane g l = NoFaultBelow l.lanes l.lane-index
