use Rattle.std.proofs.Common.{◌≤◌, slice_index}
use Rattle.segment_store.specs.Held.{ends_of}
use Rattle.site_config.specs.Valid.{name_of}
use Rattle.count_command.specs.watching.Seen.{IsSeenLine, TellsOnlySeen}
use Rattle.count_command.proofs.on_watching.SeenNumbers.{SeenSoFar}
use Rattle.count_command.proofs.watching.seen_telling.tell_seen.Given as goal

-- the gauges before this one were told
abbrev pub invariant-loop-gauge : goal.invariant-loop-gauge
invariant-loop-gauge g l =
    let k = g.K.Station in
    record {
      only : k.tells → TellsOnlySeen k (IsSeenLine l.config l.ends (ends_of l.store.held)) l.fn.station l.station;
      told : k.tells → SeenSoFar (name_of l.config) (slice_index l.ends) (slice_index (ends_of l.store.held)) l.step l.gauge
          (k.told l.fn.station) (k.told l.station);
      later : k.faults l.fn.station ≤ k.faults l.station;
    }
