use Rattle.std.proofs.Common.{◌≡◌, ◌<◌, ◌++◌, List, length, take, ap, sym, subst, ◌∙◌, arith}
use Rattle.std.specs.Prelude.{None, map}
use Rattle.outside.specs.station.Station.{Only}
use Rattle.calibration.specs.declared.setup.Setup.{Setup}
use Rattle.store_bytes.specs.declared.segment_bytes.layout.Layout.{Layout}
use Rattle.store_bytes.specs.segment_bytes.Sizes.{max_body}
use Rattle.store_bytes.specs.declared.store_head.setup.StoreHead.{StoreHead}
use Rattle.segment.specs.Parts.{parts_of}
use Rattle.segment.specs.Segment.{SegmentValue}
use Rattle.store_bytes.specs.store_head.Head.{HeadValue, see_head, head_of, start_of}
use Rattle.store_bytes.specs.store_head.HeadFaults.{head_fault, layout_in}
use Rattle.segment_store.specs.declared.opening.Walked.{Walked}
use Rattle.segment_store.specs.Image.{Reads, open_bodies, nothing_held}
use Rattle.segment_store.specs.Reading.{StartsAt, IsFound, HasPassed}
use Rattle.segment_store.specs.Visiting.{HasBegun, HasVisited}
use Rattle.segment_store.proofs.Answering.{if_ok3, if_ok_any, if_err_any, if_err_more, never_err, reads_found}
use Rattle.segment_store.proofs.Passing.{layout_is, never, starts}
use Rattle.segment_store.proofs.Quiet.{quiet_starts, quiet_on, quiet_then}
use Rattle.segment_store.proofs.Begins.{not_begun}
use Rattle.segment_store.proofs.opening.walk_store.Goals as goal

pub returns-in-Err-clause-unharmed : goal.returns-in-Err-clause-unharmed
returns-in-Err-clause-unharmed g c tells head bodies ends same reads =
    let k = g.K.Station in
    let s = c.args.setup.now in
    let image = k.seen c.size.new.self in
    let seen2 = c.size.ensures.seen tells ∙ c.sync.ensures.seen tells in
    let none : head_fault s image ≡ None =
    ap (λ v. head_fault v image) (sym same) ∙ ap (head_fault head.setup) seen2
    ∙ never head bodies ends (k.seen c.args.station.now) reads in
    never_err Walked (Layout × StoreHead) s image c.in-Err.fault (c.in-Err.ensures.answer tells) none

pub returns-in-Ok-clause-quiet : goal.returns-in-Ok-clause-quiet
returns-in-Ok-clause-quiet g c tells =
    let k = g.K.Station in
    let old = c.args.station.now in
    let q0 = quiet_starts (k.clock old) (k.moments old) (k.told old) (k.seen old) (k.leaves old) (g.met.K.Station.only_now tells old) in
    let q1 = quiet_on q0 (c.sync.ensures.time tells) (c.sync.ensures.told tells) (c.sync.ensures.seen tells) (c.sync.ensures.crash tells) in
    let q2 = quiet_on q1 (c.size.ensures.time tells) (c.size.ensures.told tells) (c.size.ensures.seen tells)
    (c.size.ensures.crash tells).none_new in
    quiet_then (quiet_then q2 (c.check_head.ensures.quiet tells)) (c.walk_bodies.ensures.quiet tells)

pub returns-in-Err-clause-quiet : goal.returns-in-Err-clause-quiet
returns-in-Err-clause-quiet g c tells =
    let k = g.K.Station in
    let old = c.args.station.now in
    let q0 = quiet_starts (k.clock old) (k.moments old) (k.told old) (k.seen old) (k.leaves old) (g.met.K.Station.only_now tells old) in
    let q1 = quiet_on q0 (c.sync.ensures.time tells) (c.sync.ensures.told tells) (c.sync.ensures.seen tells) (c.sync.ensures.crash tells) in
    let q2 = quiet_on q1 (c.size.ensures.time tells) (c.size.ensures.told tells) (c.size.ensures.seen tells)
    (c.size.ensures.crash tells).none_new in
    quiet_then q2 (c.check_head.ensures.quiet tells)

pub returns-in-Ok-clause-unharmed : goal.returns-in-Ok-clause-unharmed
returns-in-Ok-clause-unharmed g c tells head bodies ends same reads =
    let k = g.K.Station in
    let old = k.seen c.args.station.now in
    let l = c.in-Ok.layout in
    let v = c.in-Ok.head.setup in
    let eq : head.setup ≡ v = same ∙ sym c.in-Ok.ensures.setup in
    let seen2 = c.size.ensures.seen tells ∙ c.sync.ensures.seen tells in
    let seen3 = (c.check_head.ensures.quiet tells).seen_same ∙ seen2 in
    let lay : head.layout ≡ l = sym (layout_is head bodies ends old reads) ∙ ap layout_in (sym seen2)
    ∙ sym (c.in-Ok.ensures.layout tells) in
    let at = starts head bodies ends old reads in
    let one = subst (λ y. StartsAt y head.setup (max_body y head.setup.grid.classes) old (start_of head.setup)
    (nothing_held head.setup) bodies ends reads.gate (head_of head) reads.rest) lay at in
    let two = subst (λ (u : Setup). StartsAt l u (max_body l u.grid.classes) old (start_of u) (nothing_held u) bodies ends reads.gate
    (head_of head) reads.rest) eq one in
    c.walk_bodies.ensures.reads tells bodies ends reads.gate (head_of head) reads.rest
    (subst (λ i. StartsAt l v (max_body l v.grid.classes) i (start_of v) (nothing_held v) bodies ends reads.gate
    (head_of head) reads.rest) (sym seen3) two)

-- the head and the bodies
pub returns-in-Ok-clause-visited : goal.returns-in-Ok-clause-visited
returns-in-Ok-clause-visited g c =
    let k = g.K.Station in
    let h = see_head c.in-Ok.layout c.in-Ok.head in
    let setup : Setup = c.args.setup.now in
    let of_setup = c.in-Ok.ensures.setup in
    if_ok3 _ (λ (x : Walked). x.head ≡ c.in-Ok.head) (λ (x : Walked). x.layout ≡ c.in-Ok.layout)
    (λ (x : Walked). (segments : List SegmentValue) × HasVisited g.V.Visitor.step c.args.visitor.now c.walk_bodies.new.visitor setup
    (nothing_held setup) segments x.ends.items × (x.count ≡ length segments) × (k.tells →
    Reads (see_head x.layout x.head) (map parts_of segments) x.ends.items (k.seen c.walk_bodies.new.station)
    × (x.place ≡ length (head_of (see_head x.layout x.head) ++ open_bodies x.layout (map parts_of segments))))) c.walk_bodies.result
    (λ x f e l. (
      f.0,
      subst (λ (u : Setup). HasVisited g.V.Visitor.step c.args.visitor.now c.walk_bodies.new.visitor u (nothing_held u) f.0 x.ends.items)
          of_setup f.1,
      f.2,
      λ tells.
          let image = k.seen c.walk_bodies.new.station in
          let seen2 = c.size.ensures.seen tells in
          let seen3 = (c.check_head.ensures.quiet tells).seen_same in
          let seen4 = (c.walk_bodies.ensures.quiet tells).seen_same in
          let count = ap (λ (u : Setup). length u.gains) of_setup in
          let lt : start_of h.setup < length image =
          omega (arith, c.in-Ok.ensures.size, c.in_ok-size.ensures.size tells, count, ap length seen2, ap length seen3, ap length seen4) in
          let bytes : take (start_of h.setup) image ≡ head_of h =
          ap (λ (u : Setup). take (start_of u) image) of_setup ∙ ap (take (start_of setup)) (seen4 ∙ seen3)
          ∙ c.in-Ok.ensures.bytes tells in
          let found = reads_found h image x.place x.ends.items (map parts_of f.0) c.in-Ok.ensures.is_head lt bytes
          (subst (λ i. IsFound h.layout h.setup i (start_of h.setup) (nothing_held h.setup) x.place x.ends.items (map parts_of f.0))
          (sym seen4) (f.3 tells)) in
          let same : see_head x.layout x.head ≡ h = ap (λ y. see_head y x.head) l ∙ ap (see_head c.in-Ok.layout) e in
          subst (λ (v : HeadValue). Reads v (map parts_of f.0) x.ends.items image
          × (x.place ≡ length (head_of v ++ open_bodies v.layout (map parts_of f.0)))) (sym same) found,
    ))
    c.walk_bodies.ensures.found c.walk_bodies.ensures.head c.walk_bodies.ensures.layout

pub returns-in-Ok-clause-durable : goal.returns-in-Ok-clause-durable
returns-in-Ok-clause-durable g c tells =
    let k = g.K.Station in
    let image = k.seen c.walk_bodies.new.station in
    let leaves = k.leaves c.walk_bodies.new.station in
    let seen1 = c.sync.ensures.seen tells in
    let seen2 = c.size.ensures.seen tells in
    let seen3 = (c.check_head.ensures.quiet tells).seen_same in
    let seen4 = (c.walk_bodies.ensures.quiet tells).seen_same in
    let only : Only image leaves = λ i has. c.in_ok-sync.ensures.durable tells i ((c.size.ensures.crash tells).none_new i
    ((c.check_head.ensures.quiet tells).none_new i ((c.walk_bodies.ensures.quiet tells).none_new i has)))
    ∙ sym (seen4 ∙ seen3 ∙ seen2 ∙ seen1) in
    if_ok_any (Only image leaves) c.walk_bodies.result only

-- after a refusal
pub returns-in-Ok-clause-begun : goal.returns-in-Ok-clause-begun
returns-in-Ok-clause-begun g c =
    let k = g.K.Station in
    let old = k.seen c.args.station.now in
    let setup : Setup = c.args.setup.now in
    let before = c.args.visitor.now in
    let after = c.walk_bodies.new.visitor in
    let step = g.V.Visitor.step in
    if_err_more (HasBegun step before after k.tells c.in-Ok.layout c.in-Ok.head.setup (k.seen c.check_head.new.station))
    (HasBegun step before after k.tells (layout_in old) setup old) c.walk_bodies.result
    (λ b.
    let v = subst (λ (s : Setup). HasVisited step before after s (nothing_held s) b.0 b.1) c.in-Ok.ensures.setup b.3 in (
      b.0,
      b.1,
      b.2,
      v,
      λ tells.
          let seen2 = c.size.ensures.seen tells ∙ c.sync.ensures.seen tells in
          let seen3 = (c.check_head.ensures.quiet tells).seen_same ∙ seen2 in
          let lay = c.in-Ok.ensures.layout tells ∙ ap layout_in seen2 in
          subst (λ l. HasPassed l setup old (start_of setup) (nothing_held setup) b.2 b.1 (map parts_of b.0)) lay
          (subst (λ (s : Setup). HasPassed c.in-Ok.layout s old (start_of s) (nothing_held s) b.2 b.1 (map parts_of b.0))
          c.in-Ok.ensures.setup
          (subst (λ i. HasPassed c.in-Ok.layout c.in-Ok.head.setup i (start_of c.in-Ok.head.setup) (nothing_held c.in-Ok.head.setup)
          b.2 b.1 (map parts_of b.0)) seen3 (b.4 tells))),
    ))
    c.walk_bodies.ensures.passed

pub returns-in-Err-clause-begun : goal.returns-in-Err-clause-begun
returns-in-Err-clause-begun g c =
    let old = g.K.Station.seen c.args.station.now in
    not_begun g.V.Visitor.step c.args.visitor.now g.K.Station.tells (layout_in old) c.args.setup.now old

pub returns-in_err-sync-clause-begun : goal.returns-in_err-sync-clause-begun
returns-in_err-sync-clause-begun g c =
    let old = g.K.Station.seen c.args.station.now in
    let step = g.V.Visitor.step in
    let v = c.args.visitor.now in
    if_err_any (HasBegun step v v g.K.Station.tells (layout_in old) c.args.setup.now old) c.from_residual.result
    (not_begun step v g.K.Station.tells (layout_in old) c.args.setup.now old)

pub returns-in_err-size-clause-begun : goal.returns-in_err-size-clause-begun
returns-in_err-size-clause-begun g c =
    let old = g.K.Station.seen c.args.station.now in
    let step = g.V.Visitor.step in
    let v = c.args.visitor.now in
    if_err_any (HasBegun step v v g.K.Station.tells (layout_in old) c.args.setup.now old) c.from_residual-in_err-size.result
    (not_begun step v g.K.Station.tells (layout_in old) c.args.setup.now old)
