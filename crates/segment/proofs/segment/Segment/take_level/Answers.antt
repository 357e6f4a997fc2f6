use Rattle.std.proofs.Common.{◌-◌, ◌<◌, ◌∷◌, [], sym, subst, arith, length-append}
use Rattle.calibration.specs.declared.limits.TheConstants.{MAX_SAMPLES}
use Rattle.segment.specs.Segment.{StandsFor}
use Rattle.segment.proofs.Residues.{recounted}
use Rattle.segment.proofs.Room.{push_room}
use Rattle.segment.proofs.Rules.{taken_rules}
use Rattle.segment.proofs.segment.Segment.take_level.Goals as goal

pub push-requires-clause-room : goal.push-requires-clause-room
push-requires-clause-room c = push_room _ c.self.invariant c.classes-classes.ensures.counts
    (subst (λ v. v.to - v.from < v.longest) (sym c.self.view_is) c.requires.longest)

pub invariant_of-self : goal.invariant_of-self
invariant_of-self c =
    let p = c.push.ensures in
    let x = c.push-2.ensures in
    let z = c.push-3.ensures in
    taken_rules _ c.args.level c.push.new.tally c.push.new.self c.push-2.new.self c.push-3.new.self c.self.invariant
    (subst (λ v. c.args.level < v.grid.classes) (sym c.self.view_is) c.requires.level)
    (subst (λ v. v.to < MAX_SAMPLES) (sym c.self.view_is) c.requires.room)
    (subst (λ v. v.to - v.from < v.longest) (sym c.self.view_is) c.requires.longest) p.step p.lengths p.shape p.classes p.tally_classes
    p.tally_room x.grid x.some x.first x.last x.counts z.grid z.ends z.rules

pub returns-clause-histories : goal.returns-clause-histories
returns-clause-histories c = λ h a.
    let b = subst (λ v. StandsFor v h) (sym c.self.view_is) a in
    let p = c.push.ensures in
    record {
      used = omega (arith, b.used, length-append h (c.args.level ∷ []));
      result = recounted (p.result h _ b.result) (λ lo hi. omega (arith, p.step.counts lo hi));
      crossings = c.push-2.ensures.histories h b.crossings;
      simple = c.push-3.ensures.histories h b.simple;
    }
