use Rattle.std.proofs.Common.{◌++◌, reverse, take, sym, ap, ◌∙◌, subst, arith}
use Rattle.turning_points.specs.three_point.Run.{ranges_left}
use Rattle.turning_points.specs.three_point.Live.{IsLive}
use Rattle.turning_points.proofs.on_three_point.Falling.{below_of_live}
use Rattle.turning_points.proofs.on_three_point.Histories.{counted_all}
use Rattle.turning_points.proofs.three_point.run.Run.finish.Goals as goal

pub count_left-requires-clause-below : goal.count_left-requires-clause-below
count_left-requires-clause-below g c =
    let n = c.self.inside.len in
    below_of_live (take n c.deref.result.now) (omega (arith, c.requires.counter, ap (λ r. r.classes) c.self.view_is))
    (subst (λ s. IsLive c.self.inside.classes (reverse (take n s))) (sym c.deref.ensures.value) c.self.invariant.is_live)

pub returns-clause-counted : goal.returns-clause-counted
returns-clause-counted g c points h =
    let same = ap (λ s. reverse (take c.self.inside.len s)) c.deref.ensures.value ∙ ap (λ r. r.live) c.self.view_is in
    counted_all (g.C.RangeCounter.holds c.count_left.new.counter) h
    (λ given k. subst (λ l. g.C.RangeCounter.holds c.count_left.new.counter (given ++ ranges_left l)) same
    (c.count_left.ensures.holds given k))
