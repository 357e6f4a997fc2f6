-- The ends of a ring, over any items.
--   same_feeders, same_takers    an end that is of the same ring twice over
--   still_one                    two ends of one ring, each of the same ring as before
use Rattle.std.proofs.Common.{rules}
use Rattle.count_workers.specs.declared.gauge_ring.feeder.Feeder.{Feeder}
use Rattle.count_workers.specs.declared.gauge_ring.taker.Taker.{Taker}
use Rattle.count_workers.specs.gauge_ring.Ends.{AreOneRing, IsSameFeeder, IsSameTaker}

module _ {T : Type 0} where
  pub same_feeders : (a b c : Feeder T) → IsSameFeeder a b → IsSameFeeder b c → IsSameFeeder a c
  same_feeders a b c h k = search (rules, h, k)

  pub same_takers : (a b c : Taker T) → IsSameTaker a b → IsSameTaker b c → IsSameTaker a c
  same_takers a b c h k = search (rules, h, k)

  pub still_one : (f f' : Feeder T) (t t' : Taker T) → AreOneRing f t → IsSameFeeder f f' → IsSameTaker t t' → AreOneRing f' t'
  still_one f f' t t' h a b = search (rules, h, a, b)
