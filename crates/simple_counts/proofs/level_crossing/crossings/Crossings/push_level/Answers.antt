use Rattle.std.proofs.Common.{◌≡◌, ◌+◌, ◌<◌, ◌≤◌, ℕ, List, true, cond, sym, subst, arith}
use Rattle.simple_counts.specs.level_crossing.Crossings.{CrossingsValue, IsCrossings, crossing_count, joint_crossings, begin_step, stop_step}
use Rattle.simple_counts.proofs.on_level_crossing.PushJoin.{stop_small, level_rules}
use Rattle.simple_counts.proofs.level_crossing.crossings.Crossings.push_level.Goals as goal
use Rattle.turning_points.specs.declared.ends.TheConstants.{MAX_POINTS}

pub step_in-requires-clause-space : goal.step_in-requires-clause-space
step_in-requires-clause-space c = λ k. omega (arith, stop_small _ c.self.invariant k)

closed : {v : CrossingsValue} {b s : List ℕ} {f : ℕ} (x : ℕ) → IsCrossings v → x < v.classes →
    ((l : ℕ) → crossing_count v l + joint_crossings v.some v.reference l v.last x ≤ MAX_POINTS) → f ≡ cond v.some v.first x →
    b ≡ begin_step v.some v.reference v.last x v.begins → s ≡ stop_step v.some v.reference v.last x v.stops →
    IsCrossings (record { classes = v.classes; reference = v.reference; some = true; first = f; last = x; begins = b; stops = s })
closed {v} {b} {s} {f} x i h g p q r = subst (λ z. IsCrossings (record
    { classes = v.classes; reference = v.reference; some = true; first = z; last = x; begins = b; stops = s })) (sym p)
    (subst (λ z. IsCrossings (record {
      classes = v.classes;
      reference = v.reference;
      some = true;
      first = cond v.some v.first x;
      last = x;
      begins = z;
      stops = s;
    })) (sym q) (subst (λ z. IsCrossings (record {
      classes = v.classes;
      reference = v.reference;
      some = true;
      first = cond v.some v.first x;
      last = x;
      begins = begin_step v.some v.reference v.last x v.begins;
      stops = z;
    })) (sym r)
    (level_rules x v i h g)))

pub invariant_of-self : goal.invariant_of-self
invariant_of-self c = closed c.args.level c.self.invariant (subst (λ v. c.args.level < v.classes) (sym c.self.view_is) c.requires.level)
    (subst (λ v. (l : ℕ) → crossing_count v l + joint_crossings v.some v.reference l v.last c.args.level ≤ MAX_POINTS) (sym c.self.view_is)
    c.requires.few) c.first_or-first.ensures c.step_in.ensures.begins c.step_in.ensures.stops
