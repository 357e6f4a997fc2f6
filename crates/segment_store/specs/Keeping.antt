-- What a store keeps for its calls.
--   see_state   a store's parts, as contracts see them
--   StandsAt    a store that shows this has these bodies, with the closed gate at its place
--   IsKept      the place is near and not before the number of bodies, the buffer has room for a body, each gauge is
--               held and has a recording's head, and version 1 has at most 128 classes
use Rattle.std.specs.Prelude.{◌≡◌, ◌≤◌, ◌+◌, List, length, vec_len}
use Rattle.outside.specs.station.Station.{Image}
use Rattle.segment.specs.segment_rules.Parts.{PartsValue}
use Rattle.store_bytes.specs.segment_bytes.Sizes.{max_body}
use Rattle.store_bytes.specs.declared.segment_bytes.layout.Layout.TheVariants.{One}
use Rattle.segment_store.specs.declared.putting.State.{State}
use Rattle.store_bytes.specs.store_head.Head.{see_head}
use Rattle.segment_store.specs.Held.{AreHeld, ends_of}
use Rattle.segment_store.specs.Moments.{StoreValue, IsAt}
use Rattle.segment_store.specs.Places.{IsNear}
use Rattle.store_bytes.specs.declared.segment_bytes.layout.TheConstants.{MAX_CLASSES_ONE}
use Rattle.segment_store.specs.declared.filling.TheConstants.{FRAME_LENGTH}

abbrev pub see_state : State → StoreValue
see_state s = record { head = see_head s.layout s.head; held = s.held; count = s.count; place = s.place; shut = s.shut }

abbrev pub StandsAt : State → List PartsValue → Image → (Image → Type 0) → Type 0
StandsAt s bodies seen leaves = IsAt (see_head s.layout s.head) bodies (ends_of s.held) s.place seen leaves

pub record IsKept (s : State) : Type 0 where
  pub near : IsNear s.place (ends_of s.held)
  pub count : s.count ≤ s.place
  pub room : FRAME_LENGTH + max_body s.layout s.head.setup.grid.classes ≤ vec_len s.buf
  pub gauges : length s.held ≡ length s.head.setup.gains
  pub heads : length s.head.heads ≡ length s.head.setup.gains
  pub joined : (bodies : List PartsValue) × AreHeld s.head.setup.grid bodies s.held
  pub narrow : s.layout ≡ One → s.head.setup.grid.classes ≤ MAX_CLASSES_ONE
