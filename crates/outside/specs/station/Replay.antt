-- One call replayed on two buffers: the content, and what a crash leaves.
use Rattle.std.specs.Prelude.{◌≡◌, ◌≤◌, ◌+◌, ◌++◌, length, take, drop}
use Rattle.outside.specs.station.Station.{Image, IsTornWrite}
use Rattle.outside.specs.declared.station.call.Call.{Call}
use Rattle.outside.specs.declared.station.call.Call.TheVariants.{Other, Write, Sync, Tell}

-- a write does not begin past the end
abbrev pub IsPlaced : Image → Call → Type 0
IsPlaced content Other = Unit {0}
IsPlaced content (Write at bytes) = at ≤ length content
IsPlaced content Sync = Unit {0}
IsPlaced content (Tell line) = Unit {0}

abbrev pub Replays : Call → Image → Image → Image → Image → Type 0
Replays Other content content' left left' = (content' ≡ content) × (left' ≡ left)
Replays (Write at bytes) content content' left left' =
    (content' ≡ take at content ++ bytes.items ++ drop (at + length bytes.items) content) × IsTornWrite at
    (length bytes.items) left left'
Replays Sync content content' left left' = (content' ≡ content) × (left' ≡ content)
Replays (Tell line) content content' left left' = (content' ≡ content) × (left' ≡ left)
