use Rattle.std.proofs.Common.{subst, arith}
use Rattle.segment.specs.Parts.{parts_of}
use Rattle.store_bytes.specs.segment_bytes.Fields.{Gives}
use Rattle.store_bytes.proofs.on_segment_bytes.Decoded.{decoded_again}
use Rattle.store_bytes.proofs.on_segment_bytes.Found.{is_found}
use Rattle.store_bytes.proofs.segment_bytes.decoding.decode_into.Goals as goal

pub returns-clause-found : goal.returns-clause-found
returns-clause-found c =
    is_found (λ _. parts_of c.reload_from.new.segment) c.args.layout c.args.segment.now.grid c.args.bytes.now c.reload_from.result
    (λ i. omega (arith, c.type_inv.bytes i)) c.reload_from.ensures.reads

pub returns-clause-complete : goal.returns-clause-complete
returns-clause-complete c = λ p is.
    subst (λ f. Gives (λ _. parts_of c.reload_from.new.segment) c.reload_from.result f)
    (decoded_again c.args.layout c.args.segment.now.grid c.args.bytes.now p c.grid-rules.ensures.rules.over.limits is)
    c.reload_from.ensures.reads
