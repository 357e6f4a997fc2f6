use Rattle.std.proofs.Common.{length, ap, sym, subst, ◌∙◌, arith}
use Rattle.std.specs.Int.{w16, to_be_bytes}
use Rattle.calibration.specs.Grid.{GridValue}
use Rattle.four_point.proofs.Index.{residue_bound}
use Rattle.segment.specs.Parts.{parts_of}
use Rattle.store_bytes.specs.segment_bytes.Fields.{list_bytes}
use Rattle.store_bytes.specs.segment_bytes.Grammar.{ends}
use Rattle.store_bytes.specs.segment_bytes.Writing.{Puts}
use Rattle.store_bytes.proofs.on_segment_bytes.Lengths.{body_is}
use Rattle.store_bytes.proofs.on_segment_bytes.Encoded.{body_parts}
use Rattle.store_bytes.proofs.on_segment_bytes.Listed.{puts_then}
use Rattle.store_bytes.proofs.segment_bytes.encoding.put_parts.Goals as goal

pub put_levels-at-requires-clause-few : goal.put_levels-at-requires-clause-few
put_levels-at-requires-clause-few c =
    omega (
      arith,
      ap length c.residue.ensures.residue,
      residue_bound c.args.segment.now.grid.classes
          (parts_of c.args.segment.now).residue c.grid-grid.ensures.parts.residue,
      ap (λ (g : GridValue). g.classes) c.grid-grid.ensures.value,
      c.classes-classes.ensures.limits.classes_to,
    )

pub returns-clause-body : goal.returns-clause-body
returns-clause-body c =
    let e = subst (λ x. Puts c.put_name_and_counts-at.result (ends x) c.put_name_and_counts-at.new.buf c.put_ends-at.new.buf
    c.put_ends-at.result)
    c.ends-ends.ensures c.put_ends-at.ensures.puts in
    let r = subst (λ x. Puts c.put_ends-at.result (list_bytes w16 (to_be_bytes w16) x) c.put_ends-at.new.buf c.put_levels-at.new.buf
    c.put_levels-at.result) c.residue.ensures.residue c.put_levels-at.ensures.puts in
    let all = puts_then _ _ (puts_then _ _ c.put_name_and_counts-at.ensures.puts e)
    (puts_then _ _ r (puts_then _ _ c.put_list0-at.ensures.puts
    (puts_then _ _ c.put_table-at.ensures.puts (puts_then _ _ c.put_table-at-2.ensures.puts
    (puts_then _ _ c.put_table-at-3.ensures.puts c.put_table.ensures.puts))))) in
    all.front ∙ sym (body_is c.args.layout (parts_of c.args.segment.now))

pub returns-clause-next : goal.returns-clause-next
returns-clause-next c =
    omega (
      arith,
      body_parts c.args.layout (parts_of c.args.segment.now),
      c.put_name_and_counts-at.ensures.next,
      c.put_ends-at.ensures.next,
      c.put_levels-at.ensures.next,
      ap length c.residue.ensures.residue,
      c.put_list0-at.ensures.next,
      c.put_table-at.ensures.next,
      c.put_table-at-2.ensures.next,
      c.put_table-at-3.ensures.next,
      c.put_table.ensures.next,
    )
