use Rattle.std.proofs.Common.{◌≡◌, ◌+◌, ◌-◌, ◌/◌, ◌^◌, ◌<◌, ◌++◌, ◌∙◌, drop, length, take, refl, ap, arith}
use Rattle.std.specs.Int.{w32, to_be_bytes}
use Rattle.std.specs.List.{flat_map}
use Rattle.std.proofs.lemmas.Nat.{mul-le}
use Rattle.calibration.specs.declared.grid.TheConstants.{MAX_CLASSES}
use Rattle.segment.proofs.on_segment_rules.Sizes.{is_small}
use Rattle.segment.specs.Parts.{parts_of}
use Rattle.store_bytes.specs.segment_bytes.Grammar.{cell}
use Rattle.store_bytes.proofs.on_segment_bytes.Encoded.{number_before}
use Rattle.store_bytes.proofs.on_segment_bytes.Lengths.{cells_long}
use Rattle.store_bytes.proofs.segment_bytes.encoding.put_cells.Goals as goal

pub overflow_cast-end : goal.overflow_cast-end
overflow_cast-end c =
    let s = is_small c.args.segment.now.grid (parts_of c.args.segment.now)
    (omega (arith, c.grid-grid.ensures.rules.over.limits.classes_from))
    (omega (arith, c.grid-grid.ensures.rules.over.limits.reference_to)) c.grid-grid.ensures.parts in
    let e : (c.put_all_cells-end.result - c.args.at - 4) / 12 ≡ length c.args.segment.now.tally.cells =
    omega (arith, c.put_all_cells-end.ensures.next_is, cells_long c.args.segment.now.tally.cells) in
    let n : (c.put_all_cells-end.result - c.args.at - 4) / 12 < 2 ^ 32 =
    omega (
      arith,
      e,
      s.points,
      c.grid-grid.ensures.rules.span,
      s.cells,
      mul-le c.args.segment.now.grid.classes c.args.segment.now.grid.classes MAX_CLASSES MAX_CLASSES
          c.grid-grid.ensures.rules.over.limits.classes_to c.grid-grid.ensures.rules.over.limits.classes_to,
    ) in
    record { fits = n }

pub returns-clause-puts : goal.returns-clause-puts
returns-clause-puts c =
    let cells = c.args.segment.now.tally.cells in
    let all = c.put_all_cells-end.ensures in
    let e : (c.put_all_cells-end.result - c.args.at - 4) / 12 ≡ length cells = omega (arith, all.next_is, cells_long cells) in
    let mid = c.put_all_cells-end.new.buf in
    number_before 4 (to_be_bytes w32 (length cells)) (flat_map cell cells) c.args.buf.now mid c.set_u32.new.buf c.args.at
    c.put_all_cells-end.result refl all
    (omega (arith, all.next_is, cells_long cells, c.requires.room, c.put_all_cells-end.auto.buf))
    (omega (arith, c.put_all_cells-end.auto.buf))
    (c.set_u32.ensures ∙ ap (λ n. take c.args.at mid ++ to_be_bytes w32 n ++ drop (c.args.at + 4) mid) e)

pub returns-clause-next : goal.returns-clause-next
returns-clause-next c = omega (arith, c.put_all_cells-end.ensures.next_is, cells_long c.args.segment.now.tally.cells)
