use Rattle.std.proofs.Common.{◌∙◌, arith}
use Rattle.store_bytes.proofs.on_store_head.Faultless.{chain, differs_as, through, through_pos, low_fits}
use Rattle.store_bytes.proofs.store_head.head_faults.grid_fault.Goals as goal

pub returns : goal.returns
returns c = c.or-3.ensures ∙ chain
    (c.differs-classes.ensures ∙ differs_as _ (through_pos _ _ (omega (arith, c.u16_in.ensures.fits)) c.u16_in.ensures.value)
    (through_pos _ _ (omega (arith, c.classes.ensures.value, c.classes.ensures.limits.classes_to)) c.classes.ensures.value))
    (c.or-2.ensures ∙ chain (c.differs-width.ensures ∙ differs_as _
    (through_pos _ _ (omega (arith, c.u16_in-2.ensures.fits)) c.u16_in-2.ensures.value)
    (through_pos _ _ (omega arith) c.w2.ensures.value))
    (c.or.ensures ∙ chain (c.differs-low.ensures ∙ differs_as _ (through _ _ c.i64_in.ensures.fits c.i64_in.ensures.value)
    (through _ _ (low_fits c.args.grid.now c.low_kpa.ensures.limits c.low_kpa.ensures.value) c.low_kpa.ensures.value))
    (c.differs-reference.ensures ∙ differs_as _ (through_pos _ _ (omega (arith, c.u16_in-3.ensures.fits)) c.u16_in-3.ensures.value)
    (through_pos _ _ (omega (
      arith,
      c.reference.ensures.value,
      c.reference.ensures.limits.reference_to,
      c.reference.ensures.limits.classes_to,
    )) c.reference.ensures.value))))
