use Rattle.std.proofs.Common.{◌∙◌, arith}
use Rattle.store_bytes.proofs.on_store_head.Faultless.{chain, differs_as, through, through_pos, num_fits, offset_fits}
use Rattle.store_bytes.proofs.store_head.head_faults.gauge_fault.Goals as goal

pub returns : goal.returns
returns c = c.or-2.ensures ∙ chain
    (c.differs-num.ensures ∙ differs_as _ (through _ _ c.i64_in.ensures.fits c.i64_in.ensures.value)
    (through _ _ (num_fits c.args.gain.now c.num.ensures.limits c.num.ensures.value) c.num.ensures.value))
    (c.or.ensures ∙ chain (c.differs-den.ensures ∙ differs_as _
    (through_pos _ _ (omega (arith, c.u32_in.ensures.fits)) c.u32_in.ensures.value)
    (through_pos _ _ (omega (arith, c.den.ensures.value, c.den.ensures.limits.den_to)) c.den.ensures.value))
    (c.differs-offset.ensures ∙ differs_as _ (through _ _ c.i64_in-2.ensures.fits c.i64_in-2.ensures.value)
    (through _ _ (offset_fits c.args.gain.now c.offset.ensures.limits c.offset.ensures.value) c.offset.ensures.value)))
