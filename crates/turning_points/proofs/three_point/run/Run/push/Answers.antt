use Rattle.std.proofs.Common.{◌≡◌, ◌<◌, reverse, take, length, sym, ap, ◌∙◌, subst, arith}
use Rattle.turning_points.specs.three_point.Run.{live_after}
use Rattle.turning_points.specs.three_point.Live.{IsLive, IsRunBuffer}
use Rattle.turning_points.proofs.on_three_point.Falling.{below_of_live, buffer_after, take-written_back, length-live}
use Rattle.turning_points.proofs.three_point.run.Run.push.Goals as goal

pub read-self-inside-requires-clause-below : goal.read-self-inside-requires-clause-below
read-self-inside-requires-clause-below g c =
    let n = c.self.inside.len in
    below_of_live (take n c.deref_mut.result.now) (omega (arith, c.requires.counter, ap (λ r. r.classes) c.self.view_is))
    (subst (λ s. IsLive c.self.inside.classes (reverse (take n s))) (sym c.deref_mut.ensures.value) c.self.invariant.is_live)

pub invariant_of-self : goal.invariant_of-self
invariant_of-self g c =
    let r = c.read-self-inside in
    let old = c.self.inside.places in
    let same : length r.new.live ≡ length old.items = omega (arith, ap length c.deref_mut.ensures.value) in
    let point : c.args.point < c.self.inside.classes = omega (arith, c.requires.point, ap (λ r. r.classes) c.self.view_is) in
    subst (λ t. IsRunBuffer c.self.inside.classes t r.result) (sym (take-written_back old.len r.new.live old.items (omega arith)))
    (buffer_after point c.self.invariant same r.ensures.within (r.ensures.live
    ∙ ap (λ s. live_after c.args.point (reverse (take c.self.inside.len s))) c.deref_mut.ensures.value))

pub returns-clause-bound : goal.returns-clause-bound
returns-clause-bound g c = length-live c.self.inside.classes _ (invariant_of-self g c).is_live
