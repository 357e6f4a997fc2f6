use Rattle.std.specs.List.{All}
use Rattle.std.proofs.Common.{◌≡◌, ◌≤◌, ℕ, List, false, length}
use Rattle.outside.specs.Site.{Files}
use Rattle.outside.specs.station.Station.{Lines}
use Rattle.segment_store.specs.Held.{ends_of}
use Rattle.segment.specs.segment_rules.Parts.{PartsValue}
use Rattle.segment_store.specs.Moments.{IsOn, IsThere}
use Rattle.site_config.specs.Valid.{name_of}
use Rattle.site_config.specs.recorded.Recorded.{recordings}
use Rattle.count_command.specs.held_samples.Kept.{beginning}
use Rattle.count_command.specs.held_samples.Going.{HoldsSince, HoldsSinceEntry, IsStored, IsStoredAs}
use Rattle.count_command.specs.held_samples.Fronts.{FrontsStand}
use Rattle.count_command.specs.held_samples.Pace.{Paced, window_of}
use Rattle.site_lanes.specs.Lanes.{AreLanes, AreReady, HasSource, IsFaulty, IsWhole}
use Rattle.count_command.specs.held_rounds.Beside.{IsBoardFor, Leads}
use Rattle.count_command.specs.held_rounds.Telling.{HasTold}
use Rattle.count_command.proofs.on_held_rounds.Ahead.{IsAhead}
use Rattle.count_command.proofs.held_rounds.beside.make_rounds.Given as goal

-- the last round is on the board, and not yet stored
abbrev pub invariant-loop : goal.invariant-loop
invariant-loop g l =
    let k = g.K.Station in
    let s = g.C.Source in
    record {
      usable : l.store.shut ≡ false;
      head : l.store.head ≡ l.fn.store.head;
      gauges : (length l.store.held ≡ length l.fn.store.held) × (l.prepared.gauges ≡ length l.run.config.now.gauges)
          × (length l.lanes ≡ length l.fn.lanes);
      grid : l.prepared.grid ≡ l.run.config.now.setup.grid;
      block : l.prepared.block ≡ l.run.config.now.block;
      board : IsBoardFor l.prepared l.board;
      leads : Leads l.store.head.setup (ends_of l.store.held) l.board l.lanes;
      can : AreReady l.lanes;
      sources : All HasSource l.lanes;
      faulty : All (IsFaulty s.faults) l.lanes;
      there : k.tells → IsThere l.store (k.seen l.station) (k.leaves l.station);
      read : s.tells → (files : Files) → AreLanes s.tells s.left (recordings l.run.config.now files) l.fn.lanes →
          AreLanes s.tells s.left (recordings l.run.config.now files) l.lanes × FrontsStand (recordings l.run.config.now files) l.board;
      going : k.tells → s.tells → (files : Files) → AreLanes s.tells s.left (recordings l.run.config.now files) l.fn.lanes →
          IsStored (recordings l.run.config.now files) l.fn.store (k.seen l.fn.station) (k.leaves l.fn.station) →
          HoldsSinceEntry (recordings l.run.config.now files) (ends_of l.fn.store.held) (k.clock l.fn.station) (k.moments l.fn.station)
          (k.told l.fn.station)
          (k.clock l.station) (k.moments l.station) (k.told l.station) (k.leaves l.station) (ends_of l.store.held)
          × IsStored (recordings l.run.config.now files) l.store (k.seen l.station) (k.leaves l.station);
      appends : k.tells → (files : Files) (front : List PartsValue) →
          IsOn l.fn.store front (k.seen l.fn.station) (k.leaves l.fn.station) →
          HoldsSince (beginning l.fn.store.head front) (recordings l.run.config.now files) (ends_of l.fn.store.held) (k.clock l.fn.station)
          (k.moments l.fn.station) (k.told l.fn.station) (k.clock l.station) (k.moments l.station) (k.told l.station) (k.leaves l.station)
          (ends_of l.store.held)
          × IsStoredAs (beginning l.fn.store.head front) l.store (k.seen l.station) (k.leaves l.station);
      paced : k.tells → (bodies : List PartsValue) → IsOn l.fn.store bodies (k.seen l.fn.station) (k.leaves l.fn.station) →
          Paced (name_of l.run.config.now) (window_of l.run.config.now) l.fn.store.head bodies (k.clock l.fn.station) (k.moments l.fn.station)
          (k.told l.fn.station) (k.clock l.station) (k.moments l.station) (k.told l.station) (k.seen l.station) (k.leaves l.station) l.store
          (Unit {0});
      told : k.tells → s.tells → (files : Files) → AreLanes s.tells s.left (recordings l.run.config.now files) l.fn.lanes →
          (n : List ℕ) (told : Lines) → HasTold l.run.config.now.block (recordings l.run.config.now files) n told (k.told l.fn.station) l.fn.lanes →
          All IsWhole l.lanes → IsAhead l.run.config.now.block (recordings l.run.config.now files) n told (k.told l.station) (ends_of l.store.held) l.lanes;
      later : k.faults l.fn.station ≤ k.faults l.station;
      follows : g.H.PutHook.follows l.behind.hook l.store.head.setup.grid (ends_of l.store.held);
    }
