use Rattle.std.proofs.Common.{subst, ap, ◌≡◌, ◌+◌, [], ◌∷◌, ◌++◌, List, length, sym, ◌∙◌, refl, get_or, arith, rules, length-append}
use Rattle.std.specs.Prelude.{map, Ok}
use Rattle.std.proofs.lemmas.List.{length-set, map-append}
use Rattle.calibration.specs.declared.setup.Setup.{Setup}
use Rattle.segment.specs.Parts.{parts_of}
use Rattle.segment.specs.segment_rules.Parts.{PartsValue}
use Rattle.segment_store.specs.Places.{IsNear}
use Rattle.segment_store.specs.Reading.{HasPassed}
use Rattle.segment_store.specs.Resuming.{Finds, Walks, shut, length_at}
use Rattle.segment_store.specs.Visiting.{HasVisited}
use Rattle.segment_store.specs.declared.resuming.Stored.{Stored}
use Rattle.segment_store.proofs.Found.{pass_more, passed_all, none_passed}
use Rattle.segment_store.proofs.Nearness.{near_step}
use Rattle.segment_store.proofs.Quiet.{quiet_starts, quiet_on, quiet_then}
use Rattle.segment_store.proofs.Visited.{none_visited, visited_more}
use Rattle.segment_store.proofs.Walking.{on_ok, on_err, gate_is, step, stops_here}
use Rattle.segment_store.proofs.resuming.walk.Goals as goal
use Rattle.segment_store.specs.declared.filling.TheConstants.{FRAME_LENGTH}

pub bodies-init : goal.bodies-init
bodies-init g c =
    let k = g.K.Station in
    let ends = c.args.ends.now in
    record {
      walks = λ tells r w. w;
      passed = (
        [],
        none_visited g.V.Visitor.step c.args.visitor.now c.args.setup.now ends,
        refl,
        λ tells. none_passed c.args.stretch.layout c.args.setup.now
            (k.seen c.args.station.now) c.args.stretch.start ends,
      );
      quiet = λ tells.
          let first = quiet_starts (k.clock c.args.station.now) (k.moments c.args.station.now) (k.told c.args.station.now)
          (k.seen c.args.station.now) (k.leaves c.args.station.now) (g.met.K.Station.only_now tells c.args.station.now) in
          quiet_on first (c.read_at.ensures.time tells) (c.read_at.ensures.told tells) (c.read_at.ensures.seen tells)
          (c.read_at.ensures.crash tells).none_new;
      within = λ tells. c.requires.start;
      gate = λ tells.
          let byte = on_ok c.read_at.result _ (sym c.is_err.ensures.value ∙ c.if-is_err.false) (c.read_at.ensures.bytes tells) in
          gate_is (k.seen c.args.station.now) (k.seen c.args.station.now) c.read_at.new.buf c.args.stretch.start refl
          (omega (arith, c.requires.start, c.requires.size tells)) byte;
      few = omega arith;
      later = search rules;
      near = c.requires.near;
      room = c.requires.room;
      gauges = refl;
    }

-- a failed read
pub returns-then-is_err-clause-passed : goal.returns-then-is_err-clause-passed
returns-then-is_err-clause-passed g c = (
  [],
  c.args.ends.now,
  c.args.stretch.start,
  none_visited g.V.Visitor.step c.args.visitor.now c.args.setup.now c.args.ends.now,
  λ tells. none_passed c.args.stretch.layout c.args.setup.now (g.K.Station.seen c.args.station.now) c.args.stretch.start c.args.ends.now,
)

pub returns-then-is_err-clause-quiet : goal.returns-then-is_err-clause-quiet
returns-then-is_err-clause-quiet g c tells =
    let k = g.K.Station in
    quiet_on (quiet_starts (k.clock c.args.station.now) (k.moments c.args.station.now) (k.told c.args.station.now)
    (k.seen c.args.station.now) (k.leaves c.args.station.now) (g.met.K.Station.only_now tells c.args.station.now))
    (c.read_at.ensures.time tells) (c.read_at.ensures.told tells) (c.read_at.ensures.seen tells) (c.read_at.ensures.crash tells).none_new

-- a closed gate
pub returns-clause-walks : goal.returns-clause-walks
returns-clause-walks g c tells =
    let i = c.bodies.invariant in
    i.walks tells _ (shut (λ e. c.bodies-test.false (i.gate tells ∙ e)))

pub returns-clause-found : goal.returns-clause-found
returns-clause-found g c =
    let k = g.K.Station in
    let i = c.bodies.invariant in
    let p = i.passed in (
      p.0,
      p.1,
      p.2,
      λ tells. passed_all c.args.stretch.layout c.args.setup.now c.args.stretch.limit c.requires.few (k.seen c.args.station.now) c.args.stretch.start
          c.bodies.place c.args.ends.now c.bodies.ends (map parts_of p.0) (omega (arith, i.within tells, c.requires.size tells))
          (λ e. c.bodies-test.false (i.gate tells ∙ e)) (p.3 tells),
    )

-- the visitor found no memory
pub returns-then-is_err-2-clause-passed : goal.returns-then-is_err-2-clause-passed
returns-then-is_err-2-clause-passed g c =
    let p = c.bodies.invariant.passed in
    let same = on_err c.body.result _ (sym c.is_err-in-Ok.ensures.value ∙ c.if-is_err-2.true) c.body.ensures.unchanged in (
      p.0,
      c.bodies.ends,
      c.bodies.place,
      subst (λ v. HasVisited g.V.Visitor.step c.args.visitor.now v c.args.setup.now c.args.ends.now p.0 c.bodies.ends) (sym same) p.1,
      λ tells. p.3 tells,
    )

pub returns-then-is_err-2-clause-quiet : goal.returns-then-is_err-2-clause-quiet
returns-then-is_err-2-clause-quiet g c tells =
    quiet_then (c.bodies.invariant.quiet tells) (c.next_body.ensures.quiet tells)

-- one body more
pub bodies-preserved : goal.bodies-preserved
bodies-preserved g c =
    let k = g.K.Station in
    let i = c.bodies.invariant in
    let s = c.next_body.new.scratch.segment in
    let v = parts_of c.next_body.new.scratch.segment in
    let setup : Setup = c.args.setup.now in
    let image = k.seen c.args.station.now in
    let p = i.passed in
    let ends = c.pass.ensures in
    let over = c.next_body.ensures.room.over in
    let stepped = on_ok c.body.result _ (sym c.is_err-in-Ok.ensures.value ∙ c.if-is_err-2.false) c.body.ensures.step in
    let listed : List PartsValue = map parts_of p.0 in
    let more_listed : map parts_of (p.0 ++ s ∷ []) ≡ listed ++ v ∷ [] = map-append parts_of p.0 (s ∷ []) in
    record {
      walks = λ tells r w.
          let same = (i.quiet tells).seen_same in
          let is_one : get_or image c.bodies.place 0 ≡ 1 = sym (i.gate tells) ∙ c.bodies-test.true in
          i.walks tells r (step c.args.stretch.layout setup c.args.stretch.limit c.args.stretch.limit image (k.seen c.bodies.station) c.bodies.ends
          c.bodies.ends c.bodies.count c.bodies.place same (omega arith) refl is_one v c.in-Ok.found.next (c.in-Ok.ensures.finds tells) (c.in-Ok.ensures.gate tells) r
          (subst (λ e. Walks c.args.stretch.layout setup c.args.stretch.limit image (c.bodies.count + 1) c.in-Ok.found.next e r) ends w));
      passed = (
        p.0 ++ s ∷ [],
        subst (λ e. HasVisited g.V.Visitor.step c.args.visitor.now c.body.new.self setup c.args.ends.now (p.0 ++ s ∷ []) e) (sym ends)
            (visited_more g.V.Visitor.step c.args.visitor.now c.bodies.visitor c.body.new.self setup c.args.ends.now c.bodies.ends p.0 s
            p.1 stepped over c.in-Ok.ensures.next),
        omega (arith, p.2, length-append p.0 (s ∷ [])),
        λ tells.
            let same = (i.quiet tells).seen_same in
            let is_one : get_or image c.bodies.place 0 ≡ 1 = sym (i.gate tells) ∙ c.bodies-test.true in
            let finds = subst (λ m. Finds c.args.stretch.layout setup c.args.stretch.limit m c.bodies.ends c.bodies.place (Ok v)) same
            (c.in-Ok.ensures.finds tells) in
            let more = pass_more c.args.stretch.layout setup c.args.stretch.limit c.requires.few image c.args.stretch.start c.bodies.place c.args.ends.now
            c.bodies.ends listed v is_one finds (p.3 tells) in
            let moved = subst (λ e. HasPassed c.args.stretch.layout setup image c.args.stretch.start c.args.ends.now
            (c.bodies.place + length_at image c.bodies.place + FRAME_LENGTH) e (listed ++ v ∷ [])) (sym ends) more in
            subst (λ l. HasPassed c.args.stretch.layout setup image c.args.stretch.start c.args.ends.now c.in-Ok.found.next c.pass.new.ends l) (sym
            more_listed)
            (subst (λ n. HasPassed c.args.stretch.layout setup image c.args.stretch.start c.args.ends.now n c.pass.new.ends
            (listed ++ v ∷ []))
            (sym (c.in-Ok.ensures.gate tells ∙ ap (λ m. c.bodies.place + length_at m c.bodies.place + FRAME_LENGTH) same)) moved),
      );
      quiet = λ tells. quiet_then (c.bodies.invariant.quiet tells) (c.next_body.ensures.quiet tells);
      within = λ tells. c.in-Ok.ensures.within tells;
      gate = λ tells. c.in-Ok.ensures.gate_byte tells ∙ ap (λ m. get_or m c.in-Ok.found.next 0) (i.quiet tells).seen_same;
      few = omega (arith, c.in-Ok.ensures.ahead, c.bodies.invariant.few);
      gauges = ap length ends ∙ length-set c.bodies.ends s.gauge s.to ∙ i.gauges;
      near = subst (λ e. IsNear c.in-Ok.found.next e) (sym ends)
          (near_step c.bodies.place c.in-Ok.found.next c.bodies.ends v
          (omega (arith, c.in-Ok.ensures.next.body.gauge, i.gauges, c.requires.gauges)) c.in-Ok.ensures.step c.bodies.invariant.near);
      later = search rules;
      room = c.next_body.ensures.room;
    }

-- a body that is refused
pub returns-in-Err-clause-walks : goal.returns-in-Err-clause-walks
returns-in-Err-clause-walks g c tells =
    let k = g.K.Station in
    let i = c.bodies.invariant in
    let setup : Setup = c.args.setup.now in
    let same = (i.quiet tells).seen_same in
    let is_one : get_or (k.seen c.args.station.now) c.bodies.place 0 ≡ 1 = sym (i.gate tells) ∙ c.bodies-test.true in
    stops_here c.args.stretch.layout setup c.args.stretch.limit c.args.stretch.limit (k.seen c.args.station.now) (k.seen c.bodies.station)
    c.bodies.ends c.bodies.ends c.bodies.count c.bodies.place same (omega arith) refl is_one {X = Stored}
    (λ _. parts_of c.next_body.new.scratch.segment)
    (Walks c.args.stretch.layout setup c.args.stretch.limit (k.seen c.args.station.now) 0 c.args.stretch.start c.args.ends.now)
    c.in-Err.stop (c.in-Err.ensures.finds tells) (i.walks tells)

pub returns-in-Err-clause-passed : goal.returns-in-Err-clause-passed
returns-in-Err-clause-passed g c =
    let p = c.bodies.invariant.passed in (p.0, c.bodies.ends, c.bodies.place, p.1, λ tells. p.3 tells)
