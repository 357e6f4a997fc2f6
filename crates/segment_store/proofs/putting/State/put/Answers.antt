use Rattle.std.proofs.Common.{◌≡◌, ◌<◌, ◌+◌, ◌++◌, ◌∷◌, [], length, get_or, take, ap, ◌∙◌, subst, sym, arith}
use Rattle.std.proofs.lemmas.List.{length-take}
use Rattle.calibration.specs.Grid.{GridValue}
use Rattle.segment.specs.declared.segment_rules.name.Name.{Name}
use Rattle.segment.specs.segment_rules.Rules.{AreSegmentParts}
use Rattle.segment.specs.Parts.{parts_of}
use Rattle.store_bytes.specs.segment_bytes.Grammar.{body_of}
use Rattle.store_bytes.specs.store_head.Head.{see_head}
use Rattle.segment_store.specs.Held.{AreHeld, ends_of}
use Rattle.segment_store.specs.Image.{with_digest, ends_after, IsNext}
use Rattle.segment_store.specs.Moments.{IsAt}
use Rattle.segment_store.specs.Places.{IsNear, IsStep}
use Rattle.segment_store.proofs.Bodies.{length-with_digest}
use Rattle.segment_store.proofs.Holding.{ends-long}
use Rattle.segment_store.proofs.Nearness.{near_small, near_step}
use Rattle.segment_store.proofs.putting.State.put.Goals as goal

pub write_body-requires-clause-room : goal.write_body-requires-clause-room
write_body-requires-clause-room g c =
    let classes = ap (λ (g : GridValue). g.classes) c.grid-grid.ensures.value in
    omega (
      arith,
      length-take c.stage-n.result c.deref.result.now,
      near_small _ _ c.requires.kept.near,
      c.stage-n.ensures.by_samples,
      c.grid-grid.ensures.rules.span,
      c.classes-classes.ensures.limits.classes_to,
      classes,
    )

pub overflow_add-self : goal.overflow_add-self
overflow_add-self g c =
    let classes = ap (λ (g : GridValue). g.classes) c.grid-grid.ensures.value in
    omega (
      arith,
      near_small _ _ c.requires.kept.near,
      c.stage-n.ensures.by_samples,
      c.grid-grid.ensures.rules.span,
      c.classes-classes.ensures.limits.classes_to,
      classes,
    )

pub overflow_add-self-in-Ok : goal.overflow_add-self-in-Ok
overflow_add-self-in-Ok g c = omega (arith, near_small _ _ c.requires.kept.near, c.requires.kept.count)

pub returns-in-Ok-clause-stored : goal.returns-in-Ok-clause-stored
returns-in-Ok-clause-stored g c tells bodies isopen at =
    let k = g.K.Station in
    let s = c.args.self.now in
    let head = see_head s.layout s.head in
    let ends = ends_of s.held in
    let p = parts_of c.args.segment.now in
    let n = c.name-name.ensures.value in
    let gauge = ap (λ (n : Name). n.gauge) n in
    let joins = sym (ap (λ (n : Name). n.from) n) ∙ c.if-name-to.false ∙ c.end-to.ensures ∙ ap (λ g. get_or ends g 0) gauge in
    let rules = subst (λ g. AreSegmentParts g p) c.requires.grid c.grid-grid.ensures.parts in
    let next : IsNext head.setup ends p = record {
      body = record { segment = rules; gauge = c.requires.gauge; some = c.requires.some };
      joins = joins;
    } in
    let bytes = body_of s.layout p in
    let grown : s.place + length (with_digest bytes) + 1 ≡ s.place + c.stage-n.result =
    omega (arith, length-with_digest bytes, c.stage-n.ensures.len) in
    let done = c.in-Ok.ensures.stored tells head bodies ends p at next (ap (take c.stage-n.result) c.deref.ensures.value
    ∙ c.stage-n.ensures.filled) in
    let placed = subst (λ place. IsAt head (bodies ++ p ∷ []) (ends_after ends p) place (k.seen c.write_body.new.station)
    (k.leaves c.write_body.new.station)) grown done in (
      next,
      subst (λ e. IsAt head (bodies ++ p ∷ []) e (s.place + c.stage-n.result) (k.seen c.write_body.new.station)
          (k.leaves c.write_body.new.station)) (sym c.join.ensures.ends) placed,
    )

pub returns-in-Ok-clause-any_moment : goal.returns-in-Ok-clause-any_moment
returns-in-Ok-clause-any_moment g c tells bodies isopen at =
    let s = c.args.self.now in
    let head = see_head s.layout s.head in
    let ends = ends_of s.held in
    let p = parts_of c.args.segment.now in
    let n = c.name-name.ensures.value in
    let gauge = ap (λ (n : Name). n.gauge) n in
    let joins = sym (ap (λ (n : Name). n.from) n) ∙ c.if-name-to.false ∙ c.end-to.ensures ∙ ap (λ g. get_or ends g 0) gauge in
    let rules = subst (λ g. AreSegmentParts g p) c.requires.grid c.grid-grid.ensures.parts in
    let next : IsNext head.setup ends p = record {
      body = record { segment = rules; gauge = c.requires.gauge; some = c.requires.some };
      joins = joins;
    } in
    c.write_body.ensures.any_moment tells head bodies ends p at next (ap (take c.stage-n.result) c.deref.ensures.value
    ∙ c.stage-n.ensures.filled)

pub returns-in-Err-clause-any_moment : goal.returns-in-Err-clause-any_moment
returns-in-Err-clause-any_moment g c tells bodies isopen at =
    let s = c.args.self.now in
    let head = see_head s.layout s.head in
    let ends = ends_of s.held in
    let p = parts_of c.args.segment.now in
    let n = c.name-name.ensures.value in
    let gauge = ap (λ (n : Name). n.gauge) n in
    let joins = sym (ap (λ (n : Name). n.from) n) ∙ c.if-name-to.false ∙ c.end-to.ensures ∙ ap (λ g. get_or ends g 0) gauge in
    let rules = subst (λ g. AreSegmentParts g p) c.requires.grid c.grid-grid.ensures.parts in
    let next : IsNext head.setup ends p = record {
      body = record { segment = rules; gauge = c.requires.gauge; some = c.requires.some };
      joins = joins;
    } in
    c.write_body.ensures.any_moment tells head bodies ends p at next (ap (take c.stage-n.result) c.deref.ensures.value
    ∙ c.stage-n.ensures.filled)

pub returns-in-Ok-clause-kept : goal.returns-in-Ok-clause-kept
returns-in-Ok-clause-kept g c =
    let s = c.args.self.now in
    let v = c.requires.kept in
    let ends = ends_of s.held in
    let p = parts_of c.args.segment.now in
    let n = c.name-name.ensures.value in
    let gauge = ap (λ (n : Name). n.gauge) n in
    let classes = ap (λ (g : GridValue). g.classes) c.grid-grid.ensures.value in
    let over = c.requires.grid in
    let step : IsStep ends s.place p (s.place + c.stage-n.result) = record {
      joins = sym (ap (λ (n : Name). n.from) n) ∙ c.if-name-to.false ∙ c.end-to.ensures ∙ ap (λ g. get_or ends g 0) gauge;
      some = c.requires.some;
      to = c.grid-grid.ensures.rules.span.1;
      near = omega (arith, c.stage-n.ensures.by_samples, c.requires.some, c.classes-classes.ensures.limits.classes_to, classes);
    } in
    let known : p.name.gauge < length ends = omega (arith, c.requires.gauge, v.gauges, ends-long s.held) in
    let all = subst (λ g. AreHeld g v.joined.0 s.held) (sym over) v.joined.1 in
    record {
      near = subst (λ e. IsNear (s.place + c.stage-n.result) e) (sym c.join.ensures.ends)
          (near_step s.place (s.place + c.stage-n.result) ends p known step v.near);
      count = omega (arith, v.count, c.stage-n.ensures.len);
      room = omega (arith, v.room, c.stage-n.ensures.same_room);
      gauges = c.join.ensures.gauges ∙ v.gauges;
      heads = v.heads;
      joined = (
        v.joined.0 ++ p ∷ [],
        subst (λ g. AreHeld g (v.joined.0 ++ p ∷ []) c.join.new.self) over
            (c.join.ensures.held v.joined.0 all),
      );
      narrow = v.narrow;
    }
