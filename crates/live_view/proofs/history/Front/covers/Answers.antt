use Rattle.std.proofs.Common.{List, ap, subst}
use mathlib.Core.List.{IsPrefix}
use Rattle.live_view.specs.declared.show.Show.{Show}
use Rattle.live_view.proofs.Fronts.{covered}
use Rattle.live_view.proofs.history.Front.covers.Goals as goal

pub returns : goal.returns
returns c =
    let both = c.learn.new.self.log in
    let this : IsPrefix c.self.inside.seen.log both =
    subst (λ (l : List Show). IsPrefix l both) (ap (λ s. s.log) c.again-both.ensures) c.learn.ensures.2 in
    rw (← c.self.view_is, ← c.other.view_is)
    (covered _ _ c.other.inside.seen.log c.self.inside.seen.log both c.other.invariant c.self.invariant c.learn.ensures.3 this)
