use Rattle.std.proofs.Common.{length, ap, ◌∙◌, arith}
use Rattle.store_bytes.specs.store_head.HeadFaults.{is_whole}
use Rattle.store_bytes.proofs.on_store_head.Faultless.{chain, differs_as, unless_as, through_pos}
use Rattle.store_bytes.proofs.store_head.head_faults.front_fault.Goals as goal

pub returns : goal.returns
returns c =
    let len = ap length c.as_slice-count.ensures in
    c.or-4.ensures ∙ chain (c.unless-magic.ensures ∙ unless_as _ c.is_store.ensures)
    (c.or-3.ensures ∙ chain (c.unless-version.ensures ∙ unless_as _ c.is_version.ensures)
    (c.or-2.ensures ∙ chain (c.differs-gauges.ensures ∙ differs_as _
    (through_pos _ _ (omega (arith, c.u16_in.ensures.fits)) c.u16_in.ensures.value)
    (through_pos _ _ (omega (arith, len, c.requires.few)) len))
    (c.or.ensures ∙ chain (c.unless-whole.ensures ∙ unless_as _
    (c.is_whole.ensures ∙ ap (λ n. is_whole n c.args.size c.args.bytes.now) len)) c.grid_fault-grid.ensures)))
