use Rattle.std.proofs.Common.{◌∙◌, ap, take}
use Rattle.std.specs.Prelude.{Err}
use Rattle.recount.specs.declared.count.Recount.{Recount}
use Rattle.site_lanes.proofs.Asking.{opened_own}
use Rattle.audit_command.proofs.Asking.{recounted_own}
use Rattle.audit_command.proofs.Opened.{has_enough, not_opened, not_recounted}
use Rattle.audit_command.proofs.recounting.recount_source.Goals as goal

pub returns-in-Ok-count_again-clause-counted : goal.returns-in-Ok-count_again-clause-counted
returns-in-Ok-count_again-clause-counted g c =
    let k = c.in-Ok-count_again.ensures.counted in
    (k.0, (k.1.0, λ tells. k.1.1.1 tells ∙ ap (take c.args.held) (c.in-Ok.ensures.ok tells).samples_left))

pub returns-in-Ok-count_again-clause-answer : goal.returns-in-Ok-count_again-clause-answer
returns-in-Ok-count_again-clause-answer g c = λ tells.
    let k = c.in-Ok-count_again.ensures.counted in
    has_enough c.args.kept.now c.args.held (g.S.Source.left c.args.src.now) (g.S.Source.left c.open_recording.new.src) c.args.gauge k.0
    (c.in-Ok.ensures.answer tells) (c.in-Ok.ensures.ok tells) k.1.1.0 (k.1.1.1 tells)

pub returns-in-Err-count_again-clause-answer : goal.returns-in-Err-count_again-clause-answer
returns-in-Err-count_again-clause-answer g c = λ tells.
    not_recounted Recount c.args.kept.now c.args.held (g.S.Source.left c.args.src.now)
    (g.S.Source.left c.open_recording.new.src) c.args.gauge
    c.in-Err-count_again.fault c.recounted_status.result c.recounted_status.ensures (c.in-Ok.ensures.answer tells)
    (c.in-Ok.ensures.ok tells)
    (λ there is. c.in-Err-count_again.ensures.fewer tells there (ap Err is))

pub returns-in-Err-clause-answer : goal.returns-in-Err-clause-answer
returns-in-Err-clause-answer g c = λ tells.
    not_opened c.args.kept.now c.args.held (g.S.Source.left c.args.src.now) (g.S.Source.left c.open_recording.new.src) c.args.gauge Recount
    c.in-Err.fault c.opened_status.result c.opened_status.ensures (c.in-Err.ensures.answer tells)

pub returns-in-Err-count_again-clause-own : goal.returns-in-Err-count_again-clause-own
returns-in-Err-count_again-clause-own g c =
    recounted_own c.args.gauge c.args.held c.in-Err-count_again.fault c.recounted_status.result c.recounted_status.ensures

pub returns-in-Err-clause-own : goal.returns-in-Err-clause-own
returns-in-Err-clause-own g c = opened_own c.args.gauge c.in-Err.fault c.opened_status.result c.opened_status.ensures
