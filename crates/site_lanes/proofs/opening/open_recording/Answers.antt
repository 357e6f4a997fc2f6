use Rattle.site_lanes.proofs.Opened.{behind}
use Rattle.site_lanes.proofs.opening.open_recording.Goals as goal

pub returns-in-More-clause-ok : goal.returns-in-More-clause-ok
returns-in-More-clause-ok g c = λ tells. behind c.in-More.is (c.in-Ok.ensures.left tells (λ e. cc)) (c.skip-skipped.ensures.taken tells)
