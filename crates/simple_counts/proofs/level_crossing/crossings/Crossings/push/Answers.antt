use Rattle.std.proofs.Common.{◌≡◌, ◌+◌, ℕ, ◌++◌, ◌∷◌, [], sym, subst}
use Rattle.simple_counts.specs.level_crossing.Crossings.{IsCrossings, Crosses, crossing_count, joint_crossings}
use Rattle.simple_counts.proofs.on_level_crossing.PushJoin.{level_rules, level_crosses, level_count}
use Rattle.simple_counts.proofs.level_crossing.crossings.Crossings.push.Goals as goal

pub returns-clause-rules : goal.returns-clause-rules
returns-clause-rules c = subst IsCrossings (sym c.push_level.ensures.value)
    (level_rules c.args.level c.args.self.now c.push_level.ensures.rules c.requires.level c.requires.few)

pub returns-clause-histories : goal.returns-clause-histories
returns-clause-histories c = λ h g. subst (λ v. Crosses v (h ++ (c.args.level ∷ []))) (sym c.push_level.ensures.value)
    (level_crosses c.args.level c.args.self.now h c.push_level.ensures.rules c.requires.level g)

pub returns-clause-counts : goal.returns-clause-counts
returns-clause-counts c = subst (λ v. (l : ℕ) → crossing_count v l ≡ crossing_count c.args.self.now l + joint_crossings c.args.self.now.some
    c.args.self.now.reference l c.args.self.now.last c.args.level) (sym c.push_level.ensures.value)
    (level_count c.args.level c.args.self.now c.push_level.ensures.rules c.requires.level)
