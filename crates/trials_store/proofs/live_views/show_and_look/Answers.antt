use Rattle.trials_store.proofs.Shown.{may_show_next}
use Rattle.trials_store.proofs.live_views.show_and_look.Goals as goal

pub returns-clause-next : goal.returns-clause-next
returns-clause-next g c = λ t grid gauge to.
    rw c.in_ok-show.ensures.view (may_show_next c.args.shower.now.view c.args.segment.now t c.requires.may grid gauge to)
