use Rattle.std.proofs.Common.{subst, arith}
use Rattle.segment.specs.Parts.{parts_of}
use Rattle.store_bytes.specs.segment_bytes.Fields.{Gives}
use Rattle.store_bytes.proofs.on_segment_bytes.Decoded.{decoded_again}
use Rattle.store_bytes.proofs.on_segment_bytes.Found.{is_found}
use Rattle.store_bytes.proofs.segment_bytes.decoding.decode.Goals as goal

pub returns-clause-found : goal.returns-clause-found
returns-clause-found c =
    is_found parts_of c.args.layout c.args.grid.now c.args.bytes.now c.segment_in.result
    (λ i. omega (arith, c.type_inv.bytes i)) c.segment_in.ensures.reads

pub returns-clause-complete : goal.returns-clause-complete
returns-clause-complete c = λ p is.
    subst (λ f. Gives parts_of c.segment_in.result f)
    (decoded_again c.args.layout c.args.grid.now c.args.bytes.now p c.classes-classes.ensures.limits is) c.segment_in.ensures.reads
