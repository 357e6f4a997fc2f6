use Rattle.std.proofs.Common.{ap, sym, ◌∙◌}
use Rattle.simple_counts.proofs.OfPoints.{filled, filled_counts, fills_with}
use Rattle.simple_counts.proofs.simple.Simple.take_points.Goals as goal

pub invariant_of-self : goal.invariant_of-self
invariant_of-self c =
    let s = c.self.inside in
    let v = c.self.invariant in
    let x = c.take_points.ensures in
    filled (fills_with _ s.classes _ _ s.reference c.args.list.now c.fill.new.decided.items c.take_points.new.extremes.items v.decided
    (ap (λ v. v.classes) c.requires.uncrossed ∙ sym (ap (λ v. v.classes) c.self.view_is))
    (ap (λ v. v.reference) c.requires.uncrossed ∙ sym (ap (λ v. v.reference) c.self.view_is)) v.reference c.fill.ensures.ranges
    (x.extremes_length ∙ v.extremes) x.extremes) c.ends_of-self-inside.ensures

pub returns-clause-rules : goal.returns-clause-rules
returns-clause-rules c = invariant_of-self c

pub returns-clause-histories : goal.returns-clause-histories
returns-clause-histories c = λ h same.
    let s = c.self.inside in
    let v = c.self.invariant in
    let x = c.take_points.ensures in
    filled_counts c.requires.own (fills_with _ s.classes _ _ s.reference c.args.list.now c.fill.new.decided.items
    c.take_points.new.extremes.items v.decided (ap (λ v. v.classes) c.requires.uncrossed ∙ sym (ap (λ v. v.classes) c.self.view_is))
    (ap (λ v. v.reference) c.requires.uncrossed ∙ sym (ap (λ v. v.reference) c.self.view_is)) v.reference c.fill.ensures.ranges
    (x.extremes_length ∙ v.extremes) x.extremes) c.ends_of-self-inside.ensures h same
