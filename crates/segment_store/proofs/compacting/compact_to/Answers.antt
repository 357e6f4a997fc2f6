use Rattle.std.proofs.Common.{◌≡◌, ◌⊎◌, List, subst}
use Rattle.std.specs.Prelude.{Err}
use Rattle.outside.specs.station.Station.{Image}
use Rattle.segment.specs.segment_rules.Parts.{PartsValue}
use Rattle.segment_store.specs.declared.compacting.CompactFault.TheVariants.{OutOfMemory}
use Rattle.segment_store.specs.Copy.{IsCopy}
use Rattle.segment_store.specs.Held.{AreHeld, ends_of}
use Rattle.segment_store.specs.Image.{Reads}
use Rattle.segment_store.specs.Moments.{StoreValue}
use Rattle.segment_store.proofs.compacting.compact_to.Goals as goal

pub returns-clause-copy : goal.returns-clause-copy
returns-clause-copy g c = subst (λ (s : StoreValue). (c.copy_state.result ≡ Err OutOfMemory)
    ⊎ ((bodies : List PartsValue) (seen : Image) → Reads s.head bodies (ends_of s.held) seen
    → AreHeld s.head.setup.grid bodies s.held → IsCopy s bodies)) c.state.ensures.view c.copy_state.ensures.copy
