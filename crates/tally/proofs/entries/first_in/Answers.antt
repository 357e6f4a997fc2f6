use Rattle.std.proofs.Common.{◌∙◌, sym, ap, take, get_or, arith}
use Rattle.std.specs.Prelude.{find}
use Rattle.std.proofs.lemmas.List.Sums.{sum_by_more_le}
use Rattle.tally.specs.Counts.{is_from}
use Rattle.tally.specs.Log.{first_with, cells_of}
use Rattle.tally.proofs.Equal.{cell_of}
use Rattle.tally.proofs.LogCells.{found_le, find-with_cell, cells_of-more, total_of-cells_of}
use Rattle.tally.proofs.entries.first_in.Goals as goal

pub first_with-found-requires : goal.first_with-found-requires
first_with-found-requires c =
    let l = c.args.entries.now in
    let i = c.loop-entry.entry-index in
    record {
      fits = λ x e.
          let p = found_le c.args.lo c.args.hi x (cells_of (take i l)) (sym c.loop-entry.invariant ∙ e) in
          omega (
            arith,
            p,
            total_of-cells_of (take i l),
            sum_by_more_le (λ c. c.n) l i
                (cell_of 0 0 0) c.loop-entry-test.true,
            c.requires.total,
          );
    }

pub loop-entry-preserved : goal.loop-entry-preserved
loop-entry-preserved c =
    let l = c.args.entries.now in
    let i = c.loop-entry.entry-index in
    let x = get_or l i (cell_of 0 0 0) in
    c.first_with-found.ensures ∙ ap (first_with c.args.lo c.args.hi x) c.loop-entry.invariant
    ∙ sym (find-with_cell c.args.lo c.args.hi x (cells_of (take i l)))
    ∙ ap (find (is_from c.args.lo c.args.hi)) (sym (cells_of-more _ l i (cell_of 0 0 0) c.requires.each c.loop-entry-test.true))
