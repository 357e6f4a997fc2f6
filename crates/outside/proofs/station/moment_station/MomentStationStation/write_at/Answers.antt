use Rattle.std.proofs.Common.{◌≡◌, length, subst, rules, sym}
use Rattle.outside.specs.station.Station.{Follows, IsTornWrite, Image}
use Rattle.outside.specs.station.Calls.{MayLeave}
use Rattle.outside.specs.station.Recorder.{past_of}
use Rattle.outside.specs.declared.station.recorder.Recorder.{Recorder}
use Rattle.outside.proofs.station.moment_station.MomentStationStation.write_at.Goals as goal

pub returns-then-not-note_write-clause-crash : goal.returns-then-not-note_write-clause-crash
returns-then-not-note_write-clause-crash c told =
    let same = c.fail-then-not-note_write.ensures.recorder in
    let images : Recorder → Image → Type 0 = λ r. MayLeave (past_of r) in
    let old = images c.args.self.now.recorder in
    let copied : length c.in-Ok.copy.items ≡ length c.args.bytes.now = search rules in
    let made =
    subst (λ n. Follows (IsTornWrite c.args.at n) old (images c.note_write.new.self)) copied c.note_write.ensures.crash in
    subst (λ r. Follows (IsTornWrite c.args.at (length c.args.bytes.now)) old (images r)) (sym same) made
