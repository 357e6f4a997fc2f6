use Rattle.std.proofs.Common.{arith}
use Rattle.segment.specs.Parts.{parts_of}
use Rattle.store_bytes.specs.declared.segment_bytes.layout.Layout.TheVariants.{Two}
use Rattle.store_bytes.specs.segment_bytes.Grammar.{body_of}
use Rattle.segment_store.specs.Image.{with_digest}
use Rattle.segment_store.proofs.Bodies.{length-with_digest}
use Rattle.segment_store.proofs.Fronts.{framed}
use Rattle.segment_store.proofs.compacting.frame.Goals as goal

pub returns-clause-framed : goal.returns-clause-framed
returns-clause-framed c =
    let p = parts_of c.args.segment.now in
    framed c.split_at_mut-gate.result.0.now c.fill.new.buf (with_digest (body_of Two p)) c.fill.result
    (omega (arith, c.split_at_mut-gate.ensures.front_len)) c.fill.ensures.filled
    (omega (arith, c.fill.ensures.len, length-with_digest (body_of Two p)))
