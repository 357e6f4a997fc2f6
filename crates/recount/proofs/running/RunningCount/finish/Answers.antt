use Rattle.std.proofs.Common.{ℕ, List, [], ◌∷◌, sym, subst, append-nil}
use Rattle.calibration.specs.History.{history}
use Rattle.turning_points.specs.Points.{points}
use Rattle.turning_points.specs.three_point.Live.{HasCounted}
use Rattle.recount.proofs.Taken.{last_below, all_points}
use Rattle.recount.proofs.running.RunningCount.finish.Goals as goal
use Rattle.recount.proofs.running.RunningCount.finish.Goals.{in-Some, in_default}

pub push-requires-clause-point : goal.push-requires-clause-point
push-requires-clause-point g c =
    let are = c.requires.counted in
    last_below _ _ _ are.0 are.1.0 are.1.1.0 c.args.self are.1.1.1.0 c.in-Some.point c.in-Some.ensures.closed are.1.1.1.1

pub returns-clause-holds : goal.returns-clause-holds
returns-clause-holds g c = λ start grid gain w are.
    let self = c.args.self in
    let holds = g.C.RangeCounter.holds in
    let read : HasCounted (points (history grid gain w)) c.match-finish.run.live (holds c.match-finish.counter) =
    elim c.match-finish.branch [
      | in-Some last ↦ rw (last.run-is, last.counter-is) (all_points _ _ holds start grid gain self w
          (last.in-Some.point ∷ []) last.push.new.self.live last.push.new.counter last.in-Some.ensures.closed last.push.ensures.counted are)
      | in_default last ↦ rw (last.run-is, last.counter-is)
          (all_points _ _ holds start grid gain self w [] self.run.live self.counter last.in_default.ensures.closed
          (λ before has. subst (λ (p : List ℕ). HasCounted p self.run.live (holds self.counter)) (sym (append-nil before)) has) are)
    ] in
    c.finish-2.ensures.counted (points (history grid gain w)) read
