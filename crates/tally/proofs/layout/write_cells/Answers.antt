use Rattle.std.proofs.Common.{◌+◌, ◌-◌, ◌∙◌, refl, get_or, arith, length-set}
use Rattle.tally.proofs.Equal.{cell_of}
use Rattle.tally.proofs.Ordered.{cell_in_row, row_within, rows_later, written_more, written_cells}
use Rattle.lemmas.proofs.Lists.{positive_within}
use Rattle.tally.proofs.layout.write_cells.Goals as goal

pub overflow_add-hi : goal.overflow_add-hi
overflow_add-hi c =
    let p = get_or c.args.touched.now c.loop-i.i 0 in
    let w = positive_within c.args.counts.now p (c.requires.listing.holds c.loop-i.i c.loop-i-test.true) in
    omega (
      arith,
      row_within c.args.classes c.row_of-lo.result p c.row_of-lo.ensures.start
          (omega (arith, w, c.requires.places)),
      c.requires.many,
    )

pub loop-i-preserved : goal.loop-i-preserved
loop-i-preserved c =
    let i = c.loop-i.i in
    let v = c.loop-i.invariant in
    let e = c.row_of-lo.ensures in
    let k = c.args.classes in
    let t = c.args.counts.now in
    let l = c.args.touched.now in
    let hi = c.row_of-lo.result + 1 + (get_or l i 0 - c.row.result) in
    let h = cell_in_row k c.row_of-lo.result (get_or l i 0) hi (get_or t (get_or l i 0) 0) t e.start e.end
    (omega (arith, c.row.ensures.start)) refl in
    record {
      length_kept = length-set c.loop-i.out i (cell_of c.row_of-lo.result hi (get_or t (get_or l i 0) 0)) ∙ v.length_kept;
      row = rows_later k c.row_of-lo.result i c.args.used l c.requires.ordered
          (omega (arith, c.requires.listing.within)) c.loop-i-test.true e.start;
      written =
          written_more k t l i c.loop-i.out (cell_of c.row_of-lo.result hi (get_or t (get_or l i 0) 0)) v.written
          (omega (arith, v.length_kept, c.requires.room)) h;
    }

pub returns : goal.returns
returns c =
    let v = c.loop-i.invariant in
    written_cells c.args.classes c.args.counts.now c.args.touched.now c.args.used c.loop-i.out c.requires.few c.requires.places
    c.requires.listing c.requires.ordered
    (omega (arith, v.length_kept, c.requires.room)) (λ j d h. v.written j d (omega arith))
