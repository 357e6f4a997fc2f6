use Rattle.std.proofs.Common.{◌≡◌, ◌++◌, ℕ, List, length, take, drop, refl, ap, subst, sym, ◌∙◌, arith}
use Rattle.std.specs.Prelude.{Err, Ok, replicate}
use Rattle.std.proofs.lemmas.List.{take_at, length-replicate}
use Rattle.segment.specs.Segment.{SegmentValue}
use Rattle.store_bytes.specs.segment_bytes.Sizes.{max_body}
use Rattle.store_bytes.specs.store_head.Head.{start_of, gauge_place}
use Rattle.segment_store.specs.declared.opening.Walked.{Walked}
use Rattle.segment_store.specs.Image.{nothing_held}
use Rattle.segment_store.specs.Opening.{WalksAs, IsUnharmed, fault_is}
use Rattle.segment_store.specs.Places.{IsNear}
use Rattle.segment_store.specs.declared.damage.Stop.{Stop}
use Rattle.segment_store.specs.declared.damage.Stop.TheVariants as stops
use Rattle.segment_store.specs.declared.fault.ResumeFault.{ResumeFault}
use Rattle.segment_store.specs.declared.fault.ResumeFault.TheVariants.{DiskFault}
use Rattle.segment_store.specs.Resuming.{Walks}
use Rattle.segment_store.proofs.Answering.{if_err_any, walks_err, unharmed_err, walks_moved, starts_moved, stops_moved}
use Rattle.segment_store.proofs.Nearness.{max_small}
use Rattle.segment_store.proofs.Reading.{walks_only}
use Rattle.segment_store.proofs.Walking.{no_damage}
use Rattle.segment_store.proofs.Begins.{not_begun, begun_moved, found_moved}
use Rattle.segment_store.proofs.opening.walk_bodies.Goals as goal

-- a slice of all places of a list, written back
whole : (new items : List ℕ) (len n : ℕ) → length new ≡ n → len ≡ n → take len (new ++ drop (length new) items) ≡ new
whole new items len n a b = take_at new (drop (length new) items) len (a ∙ sym b)

pub returns-in_err-ends-clause-passed : goal.returns-in_err-ends-clause-passed
returns-in_err-ends-clause-passed g c =
    if_err_any _ c.from_residual.result (not_begun g.V.Visitor.step c.args.visitor.now g.K.Station.tells c.args.layout c.args.head.setup
    (g.K.Station.seen c.args.station.now))

pub returns-in_err-buf-clause-passed : goal.returns-in_err-buf-clause-passed
returns-in_err-buf-clause-passed g c =
    if_err_any _ c.from_residual-in_err-buf.result (not_begun g.V.Visitor.step _ g.K.Station.tells c.args.layout c.args.head.setup
    (g.K.Station.seen c.args.station.now))

pub returns-in_err-segment-clause-passed : goal.returns-in_err-segment-clause-passed
returns-in_err-segment-clause-passed g c =
    if_err_any _ c.from_residual-in_err-segment.result (not_begun g.V.Visitor.step _ g.K.Station.tells c.args.layout c.args.head.setup
    (g.K.Station.seen c.args.station.now))

pub walk-requires-clause-few : goal.walk-requires-clause-few
walk-requires-clause-few g c =
    let classes = c.args.head.setup.grid.classes in
    let small = max_small c.args.layout classes (omega (arith, c.classes.ensures.limits.classes_to)) in
    omega (arith, c.max_body-limit.ensures ∙ ap (max_body c.args.layout) c.classes.ensures.value, small)

pub walk-requires-clause-room : goal.walk-requires-clause-room
walk-requires-clause-room g c =
    let empty = c.in_ok-segment.ensures.empty in
    record {
      over = ap (λ (v : SegmentValue). v.grid) empty;
      longest = ap (λ (v : SegmentValue). v.longest) empty;
      places = omega (arith, c.in_ok-buf.ensures.len);
    }

pub returns-in-Ok-clause-walks : goal.returns-in-Ok-clause-walks
returns-in-Ok-clause-walks g c tells =
    let s = c.args.head.setup in
    let count = ap length c.as_slice-gauges.ensures in
    let limit = c.max_body-limit.ensures ∙ ap (max_body c.args.layout) c.classes.ensures.value in
    let ends = c.deref_mut.ensures.value ∙ c.in_ok-ends.ensures.items_if_clones_equal (λ y h. h) in
    let image = g.K.Station.seen c.args.station.now in
    let last = whole c.walk.new.ends c.in_ok-ends.ends.items c.in_ok-ends.ends.len (length c.deref_mut.result.now) c.walk.auto.ends
    (omega (arith, ap length ends, c.in_ok-ends.ensures.len, length-replicate {A = ℕ} (length c.as_slice-gauges.result.now) 0)) in
    subst (λ l. Walks c.args.layout s (max_body c.args.layout s.grid.classes) image 0 (start_of s) (nothing_held s) (Ok (c.in-Ok.ended.place, l)))
    (sym last)
    (walks_moved c.args.layout s image _ (max_body c.args.layout s.grid.classes) _ (start_of s) _
    (nothing_held s) limit
    (ap gauge_place count) (ends ∙ ap (λ n. replicate n 0) count) _ (c.in-Ok.ensures.walks tells))

pub returns-in-Ok-clause-found : goal.returns-in-Ok-clause-found
returns-in-Ok-clause-found g c =
    let s = c.args.head.setup in
    let count = ap length c.as_slice-gauges.ensures in
    let ends = c.deref_mut.ensures.value ∙ c.in_ok-ends.ensures.items_if_clones_equal (λ y h. h) in
    let last = whole c.walk.new.ends c.in_ok-ends.ends.items c.in_ok-ends.ends.len (length c.deref_mut.result.now) c.walk.auto.ends
    (omega (arith, ap length ends, c.in_ok-ends.ensures.len, length-replicate {A = ℕ} (length c.as_slice-gauges.result.now) 0)) in
    found_moved g.V.Visitor.step c.args.visitor.now c.walk.new.visitor g.K.Station.tells c.args.layout s
    (g.K.Station.seen c.args.station.now) _ (start_of s) _ (nothing_held s) c.walk.new.ends _ c.in-Ok.ended.place c.in-Ok.ended.count
    (ap gauge_place count) (ends ∙ ap (λ n. replicate n 0) count) (sym last) c.in-Ok.ensures.found

pub returns-in-Err-clause-passed : goal.returns-in-Err-clause-passed
returns-in-Err-clause-passed g c =
    let s = c.args.head.setup in
    let count = ap length c.as_slice-gauges.ensures in
    let ends = c.deref_mut.ensures.value ∙ c.in_ok-ends.ensures.items_if_clones_equal (λ y h. h) in
    begun_moved g.V.Visitor.step c.args.visitor.now c.walk.new.visitor g.K.Station.tells c.args.layout s
    (g.K.Station.seen c.args.station.now) _ (start_of s) _ (nothing_held s) (ap gauge_place count)
    (ends ∙ ap (λ n. replicate n 0) count) c.in-Err.ensures.passed

pub returns-in-Err-clause-walks : goal.returns-in-Err-clause-walks
returns-in-Err-clause-walks g c tells =
    let s = c.args.head.setup in
    let count = ap length c.as_slice-gauges.ensures in
    let k = max_body c.args.layout s.grid.classes in
    let limit = c.max_body-limit.ensures ∙ ap (max_body c.args.layout) c.classes.ensures.value in
    let ends = c.deref_mut.ensures.value ∙ c.in_ok-ends.ensures.items_if_clones_equal (λ y h. h) in
    let image = g.K.Station.seen c.args.station.now in
    let see : Walked → ℕ × List ℕ = λ x. (x.place, x.ends.items) in
    let moved = stops_moved c.args.layout s image _ k _ (start_of s) _ (nothing_held s) limit (ap gauge_place count)
    (ends ∙ ap (λ n. replicate n 0) count) c.in-Err.stopped.count c.in-Err.stopped.stop (c.in-Err.ensures.walks tells) in
    subst (λ f. WalksAs {X = Walked} c.args.layout s k image see (Err f)) (sym c.fault_of.ensures.fault)
    (walks_err {X = Walked} c.args.layout s k image see c.in-Err.stopped.count c.in-Err.stopped.stop moved)

pub returns-in-Err-clause-reads : goal.returns-in-Err-clause-reads
returns-in-Err-clause-reads g c tells bodies last gate front rest starts =
    let s = c.args.head.setup in
    let count = ap length c.as_slice-gauges.ensures in
    let k = max_body c.args.layout s.grid.classes in
    let limit = c.max_body-limit.ensures ∙ ap (max_body c.args.layout) c.classes.ensures.value in
    let ends = c.deref_mut.ensures.value ∙ c.in_ok-ends.ensures.items_if_clones_equal (λ y h. h) in
    let image = g.K.Station.seen c.args.station.now in
    let moved = starts_moved c.args.layout s image _ k _ (start_of s) _ (nothing_held s) limit (ap gauge_place count)
    (ends ∙ ap (λ n. replicate n 0) count) bodies last gate front rest starts in
    let few = max_small c.args.layout s.grid.classes (omega (arith, starts.is_setup.grid.classes_to)) in
    let stop = no_damage last (Walks c.args.layout s _ image 0 _ _) c.in-Err.stopped.count c.in-Err.stopped.stop (c.in-Err.ensures.walks tells)
    (λ q w. walks_only c.args.layout s moved.is_setup _ (omega (arith, limit, few)) image gate rest moved.closed moved.within front 0 _
    _ last bodies q moved.here moved.whole moved.tiles w) in
    subst (λ f. IsUnharmed {X = Walked} (Err f)) (sym c.fault_of.ensures.fault)
    (unharmed_err {X = Walked} c.args.layout s k image (λ (x : Walked). (x.place, x.ends.items)) c.in-Err.stopped.count c.in-Err.stopped.stop stop)

pub returns-in-Ok-clause-near : goal.returns-in-Ok-clause-near
returns-in-Ok-clause-near g c =
    let ends = c.deref_mut.ensures.value ∙ c.in_ok-ends.ensures.items_if_clones_equal (λ y h. h) in
    let last = whole c.walk.new.ends c.in_ok-ends.ends.items c.in_ok-ends.ends.len (length c.deref_mut.result.now) c.walk.auto.ends
    (omega (arith, ap length ends, c.in_ok-ends.ensures.len, length-replicate {A = ℕ} (length c.as_slice-gauges.result.now) 0)) in
    subst (λ l. IsNear c.in-Ok.ended.place l) (sym last) c.in-Ok.ensures.near

-- of all stops a failing disk alone is told as one
disk_only : (index : ℕ) (stop : Stop) (f : ResumeFault) → f ≡ fault_is index stop → f ≡ DiskFault → stop ≡ stops.Disk
disk_only index stops.Memory f is e = absurd cc
disk_only index stops.Disk f is e = refl
disk_only index (stops.Damaged d) f is e = absurd cc

pub returns-in-Err-clause-cause : goal.returns-in-Err-clause-cause
returns-in-Err-clause-cause g c = λ e.
    let same : c.fault_of.result ≡ DiskFault = cc in
    c.in-Err.ensures.cause (disk_only c.in-Err.stopped.count c.in-Err.stopped.stop c.fault_of.result c.fault_of.ensures.fault same)
