use Rattle.std.proofs.Common.{◌∙◌, drop}
use Rattle.live_view.specs.Rule.{shown}
use Rattle.live_view.proofs.Keeping.{added_none, begins}
use Rattle.live_view.proofs.Done.{on_ok}
use Rattle.live_view.proofs.opening.begin.Goals as goal

pub publish_as-requires : goal.publish_as-requires
publish_as-requires g c = λ next is.
    let d = c.args.writer.desk.shown.value in
    begins _ _ d next (is ∙ added_none (shown d) (drop c.args.writer.behind c.args.writer.log.items) c.requires)

pub returns-clause-shown : goal.returns-clause-shown
returns-clause-shown g c =
    let d = c.args.writer.desk.shown.value in
    let to = on_ok _ c.publish_as.result.1 (c.publish_as.ensures.succeeds tt) c.publish_as.ensures.values in
    to.0 ∙ added_none (shown d) (drop c.args.writer.behind c.args.writer.log.items) c.requires
