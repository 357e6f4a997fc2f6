use Rattle.std.proofs.Common.{◌≡◌, ◌≤◌, ◌+◌, List, ℕ, [], length, sym, ap, subst, ◌∙◌}
use Rattle.std.specs.Prelude.{map, replicate, vec_len, Ok}
use Rattle.std.proofs.lemmas.List.{length-map}
use Rattle.calibration.specs.declared.setup.Setup.{Setup}
use Rattle.segment.specs.Parts.{parts_of}
use Rattle.segment.specs.Segment.{SegmentValue}
use Rattle.store_bytes.specs.segment_bytes.Sizes.{max_body}
use Rattle.store_bytes.specs.store_head.Head.{see_head}
use Rattle.segment_store.specs.declared.filling.TheConstants.{FRAME_LENGTH}
use Rattle.segment_store.specs.Held.{AreHeld, ends_of}
use Rattle.segment_store.specs.Image.{Reads, nothing_held}
use Rattle.segment_store.specs.Joiner.{JoinerValue, Joins}
use Rattle.segment_store.specs.Opening.{Resumes}
use Rattle.segment_store.specs.Places.{IsNear}
use Rattle.segment_store.specs.Visiting.{HasVisited}
use Rattle.segment_store.proofs.Visited.{HasJoined, joins_all}
use Rattle.segment_store.proofs.joining.resume.Goals as goal

-- what the joiner holds after the walk
record HasHeld (setup : Setup) (w : JoinerValue) (held : List SegmentValue) (segments : List SegmentValue) (last : List ℕ) : Type 0 where
  ends : ends_of held ≡ last
  gauges : length held ≡ length setup.gains
  all : AreHeld setup.grid (map parts_of segments) held

held_by : (setup : Setup) (u w : JoinerValue) (held segments : List SegmentValue) (last : List ℕ) (n : ℕ)
    → HasVisited Joins u w setup (nothing_held setup) segments last → n ≡ length setup.gains → u.grid ≡ setup.grid → length u.held ≡ n
    → ends_of u.held ≡ replicate n 0 → AreHeld setup.grid [] u.held → held ≡ w.held → HasHeld setup w held segments last
held_by setup u w held segments last n v many grid gauges ends empty is =
    let j : HasJoined u segments w last = joins_all setup u w segments (nothing_held setup) last v.visits v.over v.tiles grid
    (gauges ∙ many) (ends ∙ ap (λ k. replicate k 0) many) in
    let all : AreHeld u.grid (map parts_of segments) w.held = j.held [] (subst (λ k. AreHeld k [] u.held) (sym grid) empty) in
    record {
      ends = ap ends_of is ∙ j.ends;
      gauges = ap length is ∙ j.gauges ∙ gauges ∙ many;
      all = subst (λ h. AreHeld setup.grid (map parts_of segments) h) (sym is)
          (subst (λ k. AreHeld k (map parts_of segments) w.held) grid all);
    }

pub returns-in-Ok-clause-answer : goal.returns-in-Ok-clause-answer
returns-in-Ok-clause-answer g c tells =
    let x = c.in-Ok.found in
    let p = c.in-Ok.ensures.visited in
    let e = c.in_ok-joiner.ensures in
    let h = held_by c.args.setup.now c.in_ok-joiner.joiner c.walk_store.new.visitor c.into_held.result p.0 x.ends.items _ p.1
    (ap length c.as_slice.ensures) e.grid e.gauges e.ends e.empty c.into_held.ensures in
    subst (λ (l : List ℕ). Resumes {X = ℕ × List ℕ} c.args.setup.now (g.K.Station.seen c.args.station.now) (λ y. y) (Ok (x.place, l)))
    (sym h.ends) (c.in-Ok.ensures.answer tells)

pub returns-in-Ok-clause-on : goal.returns-in-Ok-clause-on
returns-in-Ok-clause-on g c tells =
    let x = c.in-Ok.found in
    let p = c.in-Ok.ensures.visited in
    let e = c.in_ok-joiner.ensures in
    let h = held_by c.args.setup.now c.in_ok-joiner.joiner c.walk_store.new.visitor c.into_held.result p.0 x.ends.items _ p.1
    (ap length c.as_slice.ensures) e.grid e.gauges e.ends e.empty c.into_held.ensures in
    let there = p.3 tells in (
      map parts_of p.0,
      record {
        reads = subst (λ l. Reads (see_head x.layout x.head) (map parts_of p.0) l (g.K.Station.seen c.walk_store.new.station)) (sym h.ends)
            there.0;
        held = subst (λ (s : Setup). AreHeld s.grid (map parts_of p.0) c.into_held.result) (sym c.in-Ok.ensures.setup) h.all;
        count_is = p.2 ∙ sym (length-map p.0 parts_of);
        place_is = there.1;
        durable = c.in-Ok.ensures.durable tells;
      },
    )

pub returns-in-Ok-clause-kept : goal.returns-in-Ok-clause-kept
returns-in-Ok-clause-kept g c =
    let x = c.in-Ok.found in
    let p = c.in-Ok.ensures.visited in
    let e = c.in_ok-joiner.ensures in
    let of_setup = sym c.in-Ok.ensures.setup in
    let h = held_by c.args.setup.now c.in_ok-joiner.joiner c.walk_store.new.visitor c.into_held.result p.0 x.ends.items _ p.1
    (ap length c.as_slice.ensures) e.grid e.gauges e.ends e.empty c.into_held.ensures in
    record {
      near = subst (IsNear x.place) (sym h.ends) c.in-Ok.ensures.near;
      count = c.in-Ok.ensures.count;
      room = subst (λ (s : Setup). FRAME_LENGTH + max_body x.layout s.grid.classes ≤ vec_len x.buf) of_setup c.in-Ok.ensures.room;
      gauges = h.gauges ∙ ap (λ (s : Setup). length s.gains) of_setup;
      heads = c.in-Ok.ensures.head.same;
      joined = (map parts_of p.0, subst (λ (s : Setup). AreHeld s.grid (map parts_of p.0) c.into_held.result) of_setup h.all);
      narrow = c.in-Ok.ensures.head.narrow;
    }
