use Rattle.std.proofs.Common.{◌≡◌, ◌+◌, ◌&&◌, ℕ, ◌++◌, sym, subst}
use Rattle.simple_counts.specs.level_crossing.Crossings.{IsCrossings, Crosses, crossing_count, joint_crossings}
use Rattle.simple_counts.proofs.on_level_crossing.PushJoin.{append_rules, append_crosses, append_count}
use Rattle.simple_counts.proofs.level_crossing.crossings.Crossings.join.Goals as goal

pub returns-clause-rules : goal.returns-clause-rules
returns-clause-rules c = subst IsCrossings (sym c.append_history.ensures.value)
    (append_rules c.args.self.now c.args.right.now c.append_history.ensures.left c.append_history.ensures.right c.requires.classes
    c.requires.few)

pub returns-clause-histories : goal.returns-clause-histories
returns-clause-histories c = λ g h a b. subst (λ v. Crosses v (g ++ h)) (sym c.append_history.ensures.value)
    (append_crosses c.args.self.now c.args.right.now c.append_history.ensures.left c.append_history.ensures.right c.requires.classes
    c.requires.reference g h a b)

pub returns-clause-counts : goal.returns-clause-counts
returns-clause-counts c = subst (λ v. (l : ℕ) → crossing_count v l ≡ crossing_count c.args.self.now l + crossing_count c.args.right.now l
    + joint_crossings
    (c.args.self.now.some && c.args.right.now.some) c.args.self.now.reference l c.args.self.now.last c.args.right.now.first)
    (sym c.append_history.ensures.value) (append_count c.args.self.now c.args.right.now c.append_history.ensures.left
    c.append_history.ensures.right c.requires.classes)
