use Rattle.std.proofs.Common.{arith}
use Rattle.std.proofs.lemmas.Result.{err_from_is_err_and}
use Rattle.store_bytes.specs.segment_bytes.Fields.{entry_list}
use Rattle.store_bytes.proofs.on_segment_bytes.Loops.{goes_on, ends, is_done}
use Rattle.store_bytes.proofs.segment_bytes.entries.entries_of.Goals as goal

pub returns-in_err-entry-clause-reads : goal.returns-in_err-entry-clause-reads
returns-in_err-entry-clause-reads g c =
    let p = err_from_is_err_and c.from_residual-in_err-entry.result c.from_residual-in_err-entry.ensures.1 in
    rw (p.1, p.2) (ends g.T.Entry.at c.args.have c.in_err-entry.field-0.0 c.loop.entries.items c.args.count c.loop.counter c.loop.rest.now
    (entry_list g.T.Entry.at c.args.count c.args.have c.args.bytes.now) c.loop-test.true c.in_err-entry.ensures.reads c.loop.invariant.so_far)

pub loop-preserved : goal.loop-preserved
loop-preserved g c = record {
  so_far = rw c.in_ok-push.ensures.items (goes_on g.T.Entry.at c.args.have c.loop.entries.items c.args.count c.loop.counter c.loop.rest.now
      c.in_ok-entry.entry c.in_ok-entry.after.now (entry_list g.T.Entry.at c.args.count c.args.have c.args.bytes.now) c.loop-test.true
      c.in_ok-entry.ensures.reads c.loop.invariant.so_far);
  within = omega (arith, c.in_ok-entry.ensures.rest);
}

pub returns-clause-reads : goal.returns-clause-reads
returns-clause-reads g c = is_done g.T.Entry.at c.args.have c.loop.entries.items c.args.count c.loop.counter c.loop.rest.now
    (entry_list g.T.Entry.at c.args.count c.args.have c.args.bytes.now) c.loop-test.false c.loop.invariant.so_far
