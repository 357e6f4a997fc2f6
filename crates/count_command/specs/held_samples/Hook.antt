-- What is done after a put.
--   Follows     what a hook says of the ends of gauges holds of what a store holds
--   CanFollow   the held segment of a gauge ends no earlier than what was held of it
use Rattle.std.specs.Prelude.{◌<◌, ◌≤◌, ℕ, List, length, slice_index}
use Rattle.calibration.specs.Grid.{GridValue}
use Rattle.segment.specs.Segment.{SegmentValue}
use Rattle.segment_store.specs.Held.{ends_of}
use Rattle.segment_store.specs.Moments.{StoreValue}

abbrev pub Follows : {H : Type 0} → (H → GridValue → List ℕ → Type 0) → H → StoreValue → Type 0
Follows follows hook store = follows hook store.head.setup.grid (ends_of store.held)

pub record CanFollow (follows : GridValue → List ℕ → Type 0) (held : SegmentValue) : Type 0 where
  pub ends : List ℕ
  pub follows_these : follows held.grid ends
  pub known : held.gauge < length ends
  pub ascends : slice_index ends held.gauge ≤ held.to
