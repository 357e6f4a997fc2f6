use Rattle.std.proofs.Common.{◌≡◌, ◌<◌, ◌^◌, ℕ, List, ap, sym, ◌∙◌, subst, arith}
use Rattle.outside.specs.station.Station.{Image, Tells}
use Rattle.segment.specs.declared.segment_rules.name.Name.{Name}
use Rattle.segment.specs.Parts.{parts_of}
use Rattle.segment_store.specs.Held.{ends_of}
use Rattle.count_command.specs.held_samples.Told.{IsBelow, held_line}
use Rattle.count_command.specs.held_samples.Going.{HoldsSince}
use Rattle.count_command.proofs.on_held_samples.Going.{put_going, put_going_on, put_stored, line_going, stored_still, on_still, on_any, told_either, end_held}
use Rattle.count_command.proofs.on_held_samples.Fronts.{meets_more}
use Rattle.count_command.proofs.on_held_samples.HeldLines.{held_below}
use Rattle.count_command.proofs.on_held_samples.Pace.{put_pace, told_pace}
use Rattle.count_command.proofs.held_samples.storing.store_front.Goals as goal

pub returns-in-Err-clause-going : goal.returns-in-Err-clause-going
returns-in-Err-clause-going g c = λ tells r named known is kept stored follows.
    let k = g.K.Station in
    let meets = meets_more kept c.args.store.now.head stored.bodies c.args.front.now c.name-to.ensures.rules c.requires.grid stored.meets
    follows in
    let moment = c.put.ensures.any_moment tells stored.bodies c.requires.usable stored.on in
    let counts : (f : Image) → k.leaves c.put.new.station f →
    k.moments c.put.new.station (k.clock c.args.station.now) (k.told c.put.new.station) f = λ f has. g.met.K.Station.counts_now tells
    c.put.new.station (k.clock c.args.station.now) f moment.later has in
    subst (λ (e : List ℕ). HoldsSince kept r (ends_of c.args.store.now.held) (k.clock c.args.station.now) (k.moments c.args.station.now)
    (k.told c.args.station.now) (k.clock c.put.new.station) (k.moments c.put.new.station) (k.told c.put.new.station)
    (k.leaves c.put.new.station) e)
    (sym (ap ends_of c.in-Err.ensures.unchanged.0))
    (put_going kept r _ _ _ stored _ meets _ _ _ _ _ _ _ moment (c.put.ensures.told tells) counts)

pub returns-in-Ok-clause-going : goal.returns-in-Ok-clause-going
returns-in-Ok-clause-going g c = λ tells r named known is kept stored follows.
    let k = g.K.Station in
    let meets = meets_more kept c.args.store.now.head stored.bodies c.args.front.now c.name-to.ensures.rules c.requires.grid stored.meets
    follows in
    let moment = c.put.ensures.any_moment tells stored.bodies c.requires.usable stored.on in
    let counts : (f : Image) → k.leaves c.put.new.station f →
    k.moments c.put.new.station (k.clock c.args.station.now) (k.told c.put.new.station) f = λ f has. g.met.K.Station.counts_now tells
    c.put.new.station (k.clock c.args.station.now) f moment.later has in
    let done = c.in-Ok.ensures.stored tells stored.bodies c.requires.usable stored.on in
    let going = put_going_on kept r _ _ _ stored _ meets _ _ _ _ _ _ _ moment (c.put.ensures.told tells) counts _ (k.seen c.put.new.station)
    c.in-Ok.ensures.held c.put.ensures.head done.0 done.1 in
    let front = c.args.front.now in
    let to : c.name-to.result.to ≡ front.to = ap (λ (x : Name). x.to) c.name-to.ensures.value in
    let line : held_line (r.names front.gauge) front.to ≡ c.held.result.now = ap (λ (n : List ℕ). held_line n front.to) is
    ∙ ap (held_line c.args.name.now) (sym to) ∙ sym c.held.ensures in
    let small : c.name-to.result.to < 2 ^ 64 = omega arith in
    let below = held_below r named (ends_of c.put.new.self.held) front.gauge front.to known (subst (λ (n : ℕ). n < 2 ^ 64) to small)
    (end_held c.args.store.now.held c.put.new.self.held (parts_of front) c.requires.gauge.0 c.in-Ok.ensures.held) in
    line_going r _ _ _ _ _ _ _ _ _ _ _ _ _ going c.held.result.now (subst (IsBelow r (ends_of c.put.new.self.held)) line below)
    (c.tell.ensures.time tells) (c.tell.ensures.crash tells) (told_either c.tell.result _ _ _ (c.tell.ensures.told tells))

pub returns-in-Ok-clause-stored : goal.returns-in-Ok-clause-stored
returns-in-Ok-clause-stored g c = λ tells kept stored follows.
    let k = g.K.Station in
    let meets = meets_more kept c.args.store.now.head stored.bodies c.args.front.now c.name-to.ensures.rules c.requires.grid stored.meets
    follows in
    let done = c.in-Ok.ensures.stored tells stored.bodies c.requires.usable stored.on in
    on_any c.tell.result (stored_still kept _ (k.seen c.put.new.station) _ (k.leaves c.put.new.station) _
    (put_stored kept c.args.store.now.head _ _ _ _ meets c.put.ensures.head done.1) (c.tell.ensures.seen tells)
    (c.tell.ensures.crash tells).none_new)

pub returns-in-Ok-clause-there : goal.returns-in-Ok-clause-there
returns-in-Ok-clause-there g c = λ tells.
    let k = g.K.Station in
    let there = c.requires.on tells in
    let done = c.in-Ok.ensures.stored tells there.0 c.requires.usable there.1 in
    on_any c.tell.result (
      _,
      on_still _ _ (k.seen c.put.new.station) _ (k.leaves c.put.new.station) _ done.1 (c.tell.ensures.seen tells)
          (c.tell.ensures.crash tells).none_new,
    )

pub returns-in-Err-clause-paced : goal.returns-in-Err-clause-paced
returns-in-Err-clause-paced g c = λ tells names is window short bodies on.
    let k = g.K.Station in
    let moment = c.put.ensures.any_moment tells bodies c.requires.usable on in
    let counts : (f : Image) → k.leaves c.put.new.station f →
    k.moments c.put.new.station (k.clock c.args.station.now) (k.told c.put.new.station) f = λ f has. g.met.K.Station.counts_now tells
    c.put.new.station (k.clock c.args.station.now) f moment.later has in
    record {
      run = put_pace names window c.args.store.now bodies (parts_of c.args.front.now) short _ _ _ _ _ _ _ moment (c.put.ensures.told tells)
          counts;
      level = λ done. absurd cc;
    }

pub returns-in-Ok-clause-paced : goal.returns-in-Ok-clause-paced
returns-in-Ok-clause-paced g c = λ tells names is window short bodies on.
    let k = g.K.Station in
    let front = c.args.front.now in
    let moment = c.put.ensures.any_moment tells bodies c.requires.usable on in
    let counts : (f : Image) → k.leaves c.put.new.station f →
    k.moments c.put.new.station (k.clock c.args.station.now) (k.told c.put.new.station) f = λ f has. g.met.K.Station.counts_now tells
    c.put.new.station (k.clock c.args.station.now) f moment.later has in
    let done = c.in-Ok.ensures.stored tells bodies c.requires.usable on in
    let to : c.name-to.result.to ≡ front.to = ap (λ (x : Name). x.to) c.name-to.ensures.value in
    let line : c.held.result.now ≡ held_line (names front.gauge) front.to = c.held.ensures ∙ ap (held_line c.args.name.now) to
    ∙ ap (λ (n : List ℕ). held_line n front.to) (sym is) in
    told_pace names window c.args.store.now bodies (parts_of front) short _ _ _ _ _ _ _ moment (c.put.ensures.told tells) counts
    c.put.new.self (k.seen c.put.new.station) _ _ _ _ _ c.put.ensures.head done.1 (c.tell.ensures.time tells) (c.tell.ensures.seen tells)
    (c.tell.ensures.crash tells).none_new c.tell.result
    (subst (λ (l : List ℕ). Tells (k.told c.put.new.station) l (k.told c.tell.new.self) c.tell.result) line (c.tell.ensures.told tells))
