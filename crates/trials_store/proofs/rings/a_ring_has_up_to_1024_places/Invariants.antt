use Rattle.count_workers.specs.gauge_ring.Ends.{AreOneRing}
use Rattle.trials_store.proofs.rings.a_ring_has_up_to_1024_places.Given as goal

abbrev pub invariant-loop-item : goal.invariant-loop-item
invariant-loop-item g l = AreOneRing l.feeder l.taker
