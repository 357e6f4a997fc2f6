-- What was decoded is a segment whose body the bytes are.
use Rattle.std.proofs.Common.{ℕ, List, Result, Ok, Err}
use Rattle.std.specs.Prelude.{IfOk}
use Rattle.calibration.specs.Grid.{GridValue}
use Rattle.segment.specs.segment_rules.Parts.{PartsValue}
use Rattle.store_bytes.specs.declared.segment_bytes.fault.BytesFault.{BytesFault}
use Rattle.store_bytes.specs.declared.segment_bytes.layout.Layout.{Layout}
use Rattle.store_bytes.specs.segment_bytes.Fields.{Gives}
use Rattle.store_bytes.specs.segment_bytes.Decoding.{IsBodyOf, segment_in}
use Rattle.store_bytes.proofs.on_segment_bytes.Formats.{IsBytes}
use Rattle.store_bytes.proofs.on_segment_bytes.Decoded.{decoded_takes}

pub is_found : {X : Type 0} (view : X → PartsValue) (l : Layout) (g : GridValue) (bytes : List ℕ) (r : Result X BytesFault) → IsBytes bytes
    → Gives view r (segment_in l g bytes) → IfOk r (λ x. IsBodyOf l g (view x) bytes)
is_found view l g bytes (Ok x) fits given = decoded_takes l g bytes (view x) fits given
is_found view l g bytes (Err e) fits given = tt
