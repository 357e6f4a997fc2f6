use Rattle.std.proofs.Common.{◌++◌, ◌<◌, length, take, sym, ap, ◌∙◌, arith}
use Rattle.adapters.specs.Known.{bytes_of}
use Rattle.adapters.proofs.Known.{consumed, kept, at_end}
use Rattle.adapters.proofs.streams.FileSourceSource.take.Goals.{else-loop-test, then-loop-test+in-Err-2}
use Rattle.adapters.proofs.streams.FileSourceSource.take.Goals as goal

pub returns-in-Ok-clause-bytes : goal.returns-in-Ok-clause-bytes
returns-in-Ok-clause-bytes g c = λ t. sym (c.loop.invariant.untaken t) ∙ consumed _ _ _ (t _) c.in-Ok.ensures.bytes.0

pub returns-in-Ok-clause-end : goal.returns-in-Ok-clause-end
returns-in-Ok-clause-end g c = λ t none room.
    let from = returns-in-Ok-clause-bytes g c t in
    let some : 0 < length c.read.new.buf = omega (arith, room, c.read.auto.buf, c.loop.auto.buf) in
    from ∙ ap (λ n. take n c.read.new.buf ++ bytes_of (g.F.Read.remaining c.read.new.self)) none
    ∙ at_end _ (c.in-Ok.ensures.bytes.1 none some)

pub returns-clause-failed : goal.returns-clause-failed
returns-clause-failed g c = λ t. elim c.loop-test.branch [
  | else-loop-test w ↦ rw w.self-is (c.loop.invariant.untaken t)
  | then-loop-test+in-Err-2 w ↦ rw w.self-is (kept _ _ (t _) w.in-Err-2.ensures.bytes ∙ c.loop.invariant.untaken t)
]
