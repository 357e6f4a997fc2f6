use Rattle.store_bytes.proofs.on_segment_bytes.Decoded.{has_no_prefix}
use Rattle.store_bytes.proofs.segment_bytes.laws.no_prefix.Goals as goal

pub returns : goal.returns
returns c = has_no_prefix
