use Rattle.store_bytes.proofs.on_segment_bytes.Listed.{puts_then}
use Rattle.store_bytes.proofs.segment_bytes.encoding.put_ends.Goals as goal

pub returns-clause-puts : goal.returns-clause-puts
returns-clause-puts c =
    puts_then _ _ c.put_u64-at.ensures (puts_then _ _ c.put_u16-at.ensures
    (puts_then _ _ c.put_u16-at-2.ensures (puts_then _ _ c.put_u16-at-3.ensures c.put_u16.ensures)))
