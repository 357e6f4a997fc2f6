use Rattle.std.proofs.Common.{rules}
use Rattle.recording.proofs.on_lane_ends.Giving.{gives_past}
use Rattle.recording.proofs.lane_ends.reading.read_samples.Goals as goal

pub returns-in-More-2-clause-gives : goal.returns-in-More-2-clause-gives
returns-in-More-2-clause-gives g c = λ told.
    let past = c.past_limit-end.ensures in
    gives_past _ _ _ _ _ (g.S.Source.left c.fill-read.new.src) _ c.fill-read.result.end _ (search rules) (search rules) c.in-More-2.is
    (c.fill-read.ensures.taken told) (past.end told) past.some
