use Rattle.std.proofs.Common.{◌≡◌, slice_range, subst}
use Rattle.store_bytes.specs.store_head.Head.{see_head, gauges, start_of}
use Rattle.store_bytes.proofs.on_store_head.Gauges.{head_is}
use Rattle.segment_store.proofs.Quiet.{quiet_then}
use Rattle.segment_store.proofs.opening.check_head.Goals as goal
use Rattle.store_bytes.specs.declared.store_head.setup.TheConstants.{FRONT_LENGTH}

pub returns-in-Ok-clause-bytes : goal.returns-in-Ok-clause-bytes
returns-in-Ok-clause-bytes g c tells =
    let k = g.K.Station in
    let s = c.args.setup.now in
    let h = c.in-Ok.head in
    let same = (c.check_front.ensures.quiet tells).seen_same in
    let bytes = subst (λ i. slice_range i FRONT_LENGTH (start_of s) ≡ gauges h.heads s.gains) same (c.in-Ok.ensures.bytes tells) in
    head_is (k.seen c.args.station.now) s (see_head c.in_ok-layout.layout h) c.in-Ok.ensures.setup
    (c.in_ok-layout.ensures.front tells) bytes

pub returns-in-Ok-clause-quiet : goal.returns-in-Ok-clause-quiet
returns-in-Ok-clause-quiet g c tells = quiet_then (c.check_front.ensures.quiet tells) (c.read_gauges.ensures.quiet tells)

pub returns-in-Err-clause-quiet : goal.returns-in-Err-clause-quiet
returns-in-Err-clause-quiet g c tells = quiet_then (c.check_front.ensures.quiet tells) (c.read_gauges.ensures.quiet tells)
