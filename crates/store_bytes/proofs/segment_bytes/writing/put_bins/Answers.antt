use Rattle.std.proofs.Common.{◌++◌, drop, length, take, ap, arith}
use Rattle.std.specs.List.{flat_map}
use Rattle.std.proofs.lemmas.List.{drop_all}
use Rattle.store_bytes.specs.segment_bytes.Grammar.{bin}
use Rattle.store_bytes.specs.segment_bytes.Writing.{bins_of}
use Rattle.store_bytes.proofs.on_segment_bytes.Listed.{bins_bytes, put_done}
use Rattle.store_bytes.proofs.segment_bytes.writing.put_bins.Goals as goal

pub returns : goal.returns
returns c =
    let v = c.loop-n.invariant in
    let counts = c.args.counts.now in
    let left = bins_of c.loop-n.next (drop c.loop-n.n-index counts) in
    let none = ap (bins_of c.loop-n.next) (drop_all c.loop-n.n-index counts (omega (arith, c.loop-n-test.false))) in
    record {
      next_is = omega (arith, v.place, ap length none, bins_bytes c.args.key counts);
      front = put_done bin (take c.loop-n.at c.loop-n.buf) left
          (take c.args.at c.args.buf.now ++ flat_map bin (bins_of c.args.key counts)) none v.front;
    }
