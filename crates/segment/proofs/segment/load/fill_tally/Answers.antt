use Rattle.std.proofs.Common.{refl, ap, ◌∙◌, arith}
use Rattle.std.specs.Prelude.{length}
use Rattle.tally.specs.Counts.{count_of, total_of}
use Rattle.tally.proofs.Equal.{cell_of}
use Rattle.segment.proofs.TallyCells.{tally_step, total_step, tally_is}
use Rattle.segment.proofs.segment.load.fill_tally.Goals as goal

pub loop-cell-init : goal.loop-cell-init
loop-cell-init c =
    let none = c.requires.empty in
    record {
      classes = refl;
      room = c.requires.room_is;
      counts = c.classes-classes.ensures.counts;
      few = omega (arith, ap length none);
      so_far = λ a b. omega (arith, ap (λ l. count_of l a b) none);
      total = omega (arith, ap total_of none);
    }

pub loop-cell-preserved : goal.loop-cell-preserved
loop-cell-preserved c =
    let v = c.loop-cell.invariant in
    let cells = c.args.cells.now in
    let i = c.loop-cell.cell-index in
    record {
      classes = c.add.ensures.classes ∙ v.classes;
      room = c.add.ensures.room ∙ v.room;
      counts = c.add.ensures.counts;
      few = omega (arith, c.add.ensures.cells, v.few);
      so_far = tally_step i cells (cell_of 0 0 0) c.loop-cell.tally c.add.new.self c.requires.cells.ascending c.loop-cell-test.true
          c.add.ensures.added v.so_far;
      total = total_step i cells (cell_of 0 0 0) (total_of c.loop-cell.tally.cells) (total_of c.add.new.self.cells) c.loop-cell-test.true
          c.add.ensures.total v.total;
    }

pub returns : goal.returns
returns c =
    let v = c.loop-cell.invariant in
    tally_is c.args.tally.now.classes c.args.longest c.loop-cell.cell-index c.loop-cell.tally c.args.cells.now v.counts v.classes v.room
    c.requires.cells c.requires.total
    c.requires.room (omega (arith, c.loop-cell-test.false)) v.so_far
