use Rattle.std.proofs.Common.{◌∙◌}
use Rattle.adapters.proofs.Known.{kept, none_written, prefix}
use Rattle.adapters.proofs.streams.OutputSink.write.Goals as goal

pub returns-clause-failed : goal.returns-clause-failed
returns-clause-failed g c = λ t. let s = c.loop.invariant.so_far t in prefix _ _ _ s.0 _ s.1 s.2

pub returns-in-Ok-eq0-clause-failed : goal.returns-in-Ok-eq0-clause-failed
returns-in-Ok-eq0-clause-failed g c = λ t.
    let s = c.loop.invariant.so_far t in
    prefix _ _ _ s.0 _ s.1 (none_written _ _ _ _ _ (t _) c.in-Ok-eq0.is c.in-Ok-eq0.field-0-test c.write.ensures.bytes ∙ s.2)

pub returns-in-Err-2-clause-failed : goal.returns-in-Err-2-clause-failed
returns-in-Err-2-clause-failed g c = λ t.
    let s = c.loop.invariant.so_far t in
    prefix _ _ _ s.0 _ s.1 (kept _ _ (t _) c.in-Err-2.ensures.bytes ∙ s.2)
