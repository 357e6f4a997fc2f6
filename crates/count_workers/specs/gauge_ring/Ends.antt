-- What contracts see of the two ends of a ring.
--   fed, free       what was fed in all, and how many free places the feeder knows of
--   taken, known    what was taken in all, and the items that the taker knows of
--   AreOneRing      the ends are of one ring
--   IsSameFeeder, IsSameTaker    an end of the same ring as before
use Rattle.std.specs.Prelude.{ℕ, List}
use Rattle.rtrb.specs.Ring.{sent, received, known_free, known_items, IsPair, SameProducer, SameConsumer}
use Rattle.count_workers.specs.declared.gauge_ring.feeder.Feeder.{Feeder}
use Rattle.count_workers.specs.declared.gauge_ring.taker.Taker.{Taker}

module _ {T : Type 0} where
  abbrev pub fed : Feeder T → List T
  fed f = sent f.producer

  abbrev pub free : Feeder T → ℕ
  free f = known_free f.producer

  abbrev pub taken : Taker T → List T
  taken t = received t.consumer

  abbrev pub known : Taker T → List T
  known t = known_items t.consumer

  abbrev pub AreOneRing : Feeder T → Taker T → Type 0
  AreOneRing f t = IsPair f.producer t.consumer

  abbrev pub IsSameFeeder : Feeder T → Feeder T → Type 0
  IsSameFeeder old new = SameProducer old.producer new.producer

  abbrev pub IsSameTaker : Taker T → Taker T → Type 0
  IsSameTaker old new = SameConsumer old.consumer new.consumer
