use Rattle.std.proofs.Common.{◌≡◌, ◌≤◌, ◌<◌, ◌++◌, ℕ, List, false, length, slice_index}
use Rattle.outside.specs.Site.{Files}
use Rattle.segment_store.specs.Held.{ends_of}
use Rattle.segment.specs.segment_rules.Parts.{PartsValue}
use Rattle.segment_store.specs.Moments.{IsOn, IsThere}
use Rattle.site_config.specs.Valid.{name_of}
use Rattle.site_config.specs.recorded.Recorded.{recordings}
use Rattle.count_command.specs.held_samples.Told.{round_lines}
use Rattle.count_command.specs.held_samples.Kept.{Kept}
use Rattle.count_command.specs.held_samples.Going.{HoldsSince, IsStoredAs}
use Rattle.count_command.specs.held_samples.Fronts.{FrontsFollow, FrontsEnd}
use Rattle.count_command.specs.held_samples.Pace.{Paced, window_of}
use Rattle.count_command.proofs.held_samples.storing.store_fronts.Given as goal

-- the gauges before this one are held up to their fronts' ends, the others as at entry
abbrev pub invariant-loop-gauge : goal.invariant-loop-gauge
invariant-loop-gauge g l =
    let k = g.K.Station in
    record {
      usable : l.store.shut ≡ false;
      head : l.store.head ≡ l.fn.store.head;
      gauges : length l.store.held ≡ length l.fn.store.held;
      there : k.tells → IsThere l.store (k.seen l.station) (k.leaves l.station);
      going : k.tells → (files : Files) (kept : Kept) → IsStoredAs kept l.fn.store (k.seen l.fn.station) (k.leaves l.fn.station) →
          FrontsFollow kept (length l.config.gauges) l.board →
          HoldsSince kept (recordings l.config files) (ends_of l.fn.store.held) (k.clock l.fn.station) (k.moments l.fn.station)
          (k.told l.fn.station)
          (k.clock l.station) (k.moments l.station) (k.told l.station) (k.leaves l.station) (ends_of l.store.held);
      stored : k.tells → (kept : Kept) → IsStoredAs kept l.fn.store (k.seen l.fn.station) (k.leaves l.fn.station) →
          FrontsFollow kept (length l.config.gauges) l.board →
          IsStoredAs kept l.store (k.seen l.station) (k.leaves l.station);
      paced : k.tells → l.board.block ≡ l.config.block → (bodies : List PartsValue) →
          IsOn l.fn.store bodies (k.seen l.fn.station) (k.leaves l.fn.station) →
          Paced (name_of l.config) (window_of l.config) l.fn.store.head bodies (k.clock l.fn.station) (k.moments l.fn.station)
          (k.told l.fn.station) (k.clock l.station) (k.moments l.station) (k.told l.station) (k.seen l.station) (k.leaves l.station) l.store
          (Unit {0});
      told : k.tells → k.told l.station ≡ k.told l.fn.station ++ round_lines (name_of l.config) (slice_index (ends_of l.fn.store.held))
          (slice_index (ends_of l.store.held)) l.gauge;
      before : (to : ℕ → ℕ) → FrontsEnd to l.board (length l.config.gauges) → (h : ℕ) → h < l.gauge →
          slice_index (ends_of l.store.held) h ≡ to h;
      after : (h : ℕ) → l.gauge ≤ h → slice_index (ends_of l.store.held) h ≡ slice_index (ends_of l.fn.store.held) h;
      later : k.faults l.fn.station ≤ k.faults l.station;
      follows : g.H.PutHook.follows l.behind.hook l.store.head.setup.grid (ends_of l.store.held);
    }
