use Rattle.std.proofs.Common.{◌+◌, ◌≤◌, ◌&&◌, ℕ, ap, sym, subst, ◌∙◌}
use Rattle.tally.specs.tables.Tables.{sum_of_tables as both}
use Rattle.simple_counts.specs.level_crossing.Crossings.{crossing_count, joint_crossings}
use Rattle.simple_counts.proofs.on_level_crossing.PushJoin.{ready, closed, stops_room}
use Rattle.simple_counts.proofs.level_crossing.crossings.Crossings.append_history.Goals as goal
use Rattle.turning_points.specs.declared.ends.TheConstants.{MAX_POINTS}

pub add_to-requires-2-clause-room : goal.add_to-requires-2-clause-room
add_to-requires-2-clause-room c = stops_room c.self.invariant c.right.invariant c.deref-2.ensures.value

pub step_in-requires-clause-x : goal.step_in-requires-clause-x
step_in-requires-clause-x c = (ready c.self.invariant c.right.invariant
    (ap (λ v. v.classes) c.self.view_is ∙ c.requires.classes ∙ sym (ap (λ v. v.classes) c.right.view_is))
    (c.add_to.ensures ∙ ap (λ x. both c.self.inside.begins.items x) c.deref.ensures.value)
    (c.add_to-2.ensures ∙ ap (λ x. both c.self.inside.stops.items x) c.deref-2.ensures.value)).x

pub step_in-requires-clause-y : goal.step_in-requires-clause-y
step_in-requires-clause-y c = (ready c.self.invariant c.right.invariant
    (ap (λ v. v.classes) c.self.view_is ∙ c.requires.classes ∙ sym (ap (λ v. v.classes) c.right.view_is))
    (c.add_to.ensures ∙ ap (λ x. both c.self.inside.begins.items x) c.deref.ensures.value)
    (c.add_to-2.ensures ∙ ap (λ x. both c.self.inside.stops.items x) c.deref-2.ensures.value)).y

pub step_in-requires-clause-same : goal.step_in-requires-clause-same
step_in-requires-clause-same c = (ready c.self.invariant c.right.invariant
    (ap (λ v. v.classes) c.self.view_is ∙ c.requires.classes ∙ sym (ap (λ v. v.classes) c.right.view_is))
    (c.add_to.ensures ∙ ap (λ x. both c.self.inside.begins.items x) c.deref.ensures.value)
    (c.add_to-2.ensures ∙ ap (λ x. both c.self.inside.stops.items x) c.deref-2.ensures.value)).same

pub step_in-requires-clause-room : goal.step_in-requires-clause-room
step_in-requires-clause-room c = (ready c.self.invariant c.right.invariant
    (ap (λ v. v.classes) c.self.view_is ∙ c.requires.classes ∙ sym (ap (λ v. v.classes) c.right.view_is))
    (c.add_to.ensures ∙ ap (λ x. both c.self.inside.begins.items x) c.deref.ensures.value)
    (c.add_to-2.ensures ∙ ap (λ x. both c.self.inside.stops.items x) c.deref-2.ensures.value)).room

pub step_in-requires-clause-space : goal.step_in-requires-clause-space
step_in-requires-clause-space c = (ready c.self.invariant c.right.invariant
    (ap (λ v. v.classes) c.self.view_is ∙ c.requires.classes ∙ sym (ap (λ v. v.classes) c.right.view_is))
    (c.add_to.ensures ∙ ap (λ x. both c.self.inside.begins.items x) c.deref.ensures.value)
    (c.add_to-2.ensures ∙ ap (λ x. both c.self.inside.stops.items x) c.deref-2.ensures.value)).space

pub invariant_of-self : goal.invariant_of-self
invariant_of-self c =
    let f = subst (λ w. (l : ℕ) → crossing_count c.args.self.now l + crossing_count w l + joint_crossings (c.args.self.now.some && w.some)
    c.args.self.now.reference l c.args.self.now.last w.first ≤ MAX_POINTS) (sym c.right.view_is) c.requires.few in
    let g = subst (λ v. (l : ℕ) → crossing_count v l + crossing_count (record {
      classes = c.right.inside.classes;
      reference = c.right.inside.reference;
      some = c.right.inside.some;
      first = c.right.inside.first;
      last = c.right.inside.last;
      begins = c.right.inside.begins.items;
      stops = c.right.inside.stops.items;
    }) l + joint_crossings (v.some && c.right.inside.some) v.reference l v.last c.right.inside.first ≤
    MAX_POINTS) (sym c.self.view_is) f in
    closed c.self.invariant c.right.invariant (ap (λ v. v.classes) c.self.view_is ∙ c.requires.classes
    ∙ sym (ap (λ v. v.classes) c.right.view_is)) g (c.add_to.ensures ∙ ap (λ x. both c.self.inside.begins.items x)
    c.deref.ensures.value) (c.add_to-2.ensures ∙ ap (λ x. both c.self.inside.stops.items x) c.deref-2.ensures.value)
    c.are_both-both.ensures c.is_either-some.ensures c.first_or-first.ensures c.first_or-last.ensures c.step_in.ensures.begins
    c.step_in.ensures.stops
