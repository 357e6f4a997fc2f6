use Rattle.std.proofs.Common.{[], ◌∷◌, ◌++◌, sym, subst}
use Rattle.segment.specs.Parts.{parts_of}
use Rattle.segment_store.specs.Held.{AreHeld}
use Rattle.segment_store.specs.Joiner.{JoinerValue, IsNextOf}
use Rattle.segment_store.proofs.joining.JoinerVisitor.body.Goals as goal

pub invariant_of-self : goal.invariant_of-self
invariant_of-self c =
    let seg = c.args.seg.now in
    let is = subst (λ (j : JoinerValue). IsNextOf j seg) (sym c.self.view_is) (c.is_next.ensures.0 c.if-is_next.true) in
    let all = c.self.invariant in (
      all.0 ++ parts_of seg ∷ [],
      subst (λ g. AreHeld g (all.0 ++ parts_of seg ∷ []) c.join.new.self) is.grid
          (c.join.ensures.held all.0 (subst (λ g. AreHeld g all.0 c.self.inside.held) (sym is.grid) all.1)),
    )
