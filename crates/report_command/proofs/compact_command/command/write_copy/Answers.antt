use Rattle.segment_store.specs.Copy.{copy_of}
use Rattle.report_command.proofs.on_compact_command.Copied.{compact_by, known_ok, known_failed}
use Rattle.report_command.proofs.compact_command.command.write_copy.Goals as goal
use Rattle.std.proofs.Common.{ap, ◌∙◌, Err}

pub returns-in-Ok-clause-copies : goal.returns-in-Ok-clause-copies
returns-in-Ok-clause-copies g c = λ writes bodies seen reads held. (
  copy_of c.args.store.now,
  compact_by c.args.store.now bodies (known_ok c.compact_to.result _ c.compact_to.ensures.copy _ c.in-Ok.is bodies seen reads held),
  c.in-Ok.ensures.ok writes,
)

pub returns-in-Err-WriteFault-clause-copies : goal.returns-in-Err-WriteFault-clause-copies
returns-in-Err-WriteFault-clause-copies g c = λ writes bodies seen reads held.
    let is = c.in-Err-WriteFault.is ∙ ap (λ f. Err f) c.in-Err-WriteFault.field-0-is in (
      copy_of c.args.store.now,
      compact_by c.args.store.now bodies (known_failed c.compact_to.result _ c.compact_to.ensures.copy is bodies seen reads
          held),
      c.compact_to.ensures.failed writes is,
    )
