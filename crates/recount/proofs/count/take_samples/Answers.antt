use Rattle.std.proofs.Common.{◌≤◌, length, ◌∙◌, arith, rules}
use Rattle.tally.specs.declared.cells.TheConstants.{MAX_TOTAL}
use Rattle.recount.proofs.Pieces.{more_read}
use Rattle.recount.proofs.count.take_samples.Goals as goal

pub take-requires-clause-counted : goal.take-requires-clause-counted
take-requires-clause-counted g c = (MAX_TOTAL, (c.loop-count.invariant.read.0, c.loop-count.invariant.read.1))

pub loop-count-preserved : goal.loop-count-preserved
loop-count-preserved g c =
    let read = c.loop-count.invariant.read in
    let fill = c.fill-filled.ensures in
    let inside : c.fill-filled.result.n ≤ length c.fill-filled.new.buf = omega (arith, fill.within, fill.length) in
    record {
      read = (
        _,
        c.take.ensures.counted MAX_TOTAL read.0 read.1,
        λ tells. more_read _ c.fill-filled.result.n c.fill-filled.new.buf _ _ _ _
            read.0 _ (read.2 tells) (fill.samples tells) (fill.taken tells) inside c.in-More.is,
      );
      few = search rules;
      steady = search rules;
      raws = search rules;
      levels = c.take.ensures.length ∙ c.loop-count.invariant.levels;
    }
