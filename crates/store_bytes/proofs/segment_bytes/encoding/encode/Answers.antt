use Rattle.std.proofs.Common.{ap, sym, subst, ◌∙◌, arith}
use Rattle.calibration.specs.Grid.{IsGrid}
use Rattle.segment.specs.declared.segment_rules.name.Name.{Name}
use Rattle.segment.specs.Parts.{parts_of}
use Rattle.store_bytes.proofs.on_segment_bytes.Lengths.{ready}
use Rattle.store_bytes.proofs.segment_bytes.encoding.encode.Goals as goal

pub put_parts-requires : goal.put_parts-requires
put_parts-requires c =
    let r = ready c.args.layout c.args.seg.now.grid (parts_of c.args.seg.now)
    (subst IsGrid c.grid-grid.ensures.value c.classes-classes.ensures.limits)
    (omega (arith, ap (λ (n : Name). n.gauge) c.name-name.ensures.value)) c.grid-grid.ensures.parts in
    omega (arith, r.bound, c.requires.room)

pub returns-clause-len : goal.returns-clause-len
returns-clause-len c =
    let r = ready c.args.layout c.args.seg.now.grid (parts_of c.args.seg.now)
    (subst IsGrid c.grid-grid.ensures.value c.classes-classes.ensures.limits)
    (omega (arith, ap (λ (n : Name). n.gauge) c.name-name.ensures.value)) c.grid-grid.ensures.parts in
    c.put_parts.ensures.next ∙ sym r.long

pub returns-clause-bound : goal.returns-clause-bound
returns-clause-bound c =
    let r = ready c.args.layout c.args.seg.now.grid (parts_of c.args.seg.now)
    (subst IsGrid c.grid-grid.ensures.value c.classes-classes.ensures.limits)
    (omega (arith, ap (λ (n : Name). n.gauge) c.name-name.ensures.value)) c.grid-grid.ensures.parts in
    omega (arith, r.bound, c.put_parts.ensures.next)

pub returns-clause-by_samples : goal.returns-clause-by_samples
returns-clause-by_samples c =
    let r = ready c.args.layout c.args.seg.now.grid (parts_of c.args.seg.now)
    (subst IsGrid c.grid-grid.ensures.value c.classes-classes.ensures.limits)
    (omega (arith, ap (λ (n : Name). n.gauge) c.name-name.ensures.value)) c.grid-grid.ensures.parts in
    omega (arith, r.by_samples, c.put_parts.ensures.next)
