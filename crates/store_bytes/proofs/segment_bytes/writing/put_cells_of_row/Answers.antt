use Rattle.std.proofs.Common.{◌+◌, ◌++◌, drop, length, map, take, ap, arith}
use Rattle.std.specs.List.{flat_map}
use Rattle.std.proofs.lemmas.List.{drop_all}
use Rattle.store_bytes.specs.segment_bytes.Grammar.{cell}
use Rattle.store_bytes.specs.segment_bytes.Rows.{cell_in}
use Rattle.store_bytes.specs.segment_bytes.Writing.{bins_of}
use Rattle.store_bytes.proofs.on_segment_bytes.Listed.{pairs_bytes, put_done}
use Rattle.store_bytes.proofs.segment_bytes.writing.put_cells_of_row.Goals as goal

pub returns : goal.returns
returns c =
    let v = c.loop-n.invariant in
    let counts = c.args.counts.now in
    let left = map (cell_in c.args.lo) (bins_of c.loop-n.hi (drop c.loop-n.n-index counts)) in
    let none = drop_all c.loop-n.n-index counts (omega (arith, c.loop-n-test.false)) in
    record {
      next_is = omega (arith, v.place, ap (λ l. length (bins_of c.loop-n.hi l)) none, pairs_bytes c.args.lo (c.args.lo + 1) counts);
      front = put_done cell (take c.loop-n.at c.loop-n.buf) left
          (take c.args.at c.args.buf.now ++ flat_map cell (map (cell_in c.args.lo) (bins_of (c.args.lo + 1) counts)))
          (ap (λ l. map (cell_in c.args.lo) (bins_of c.loop-n.hi l)) none) v.front;
    }
