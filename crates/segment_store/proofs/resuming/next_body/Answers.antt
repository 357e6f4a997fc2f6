use Rattle.std.proofs.Common.{◌≡◌, ◌∙◌, ap, length, sym, subst, arith}
use Rattle.std.specs.Prelude.{Err}
use Rattle.segment_store.specs.declared.damage.Damage.TheVariants as damages
use Rattle.segment_store.specs.Resuming.{Finds, no_length}
use Rattle.segment_store.proofs.resuming.next_body.Goals.{then-at-size+in-Err-Damaged-Cut, else-at-size}
use Rattle.segment_store.proofs.resuming.next_body.Goals as goal

pub returns-then-size_now-at-clause-finds : goal.returns-then-size_now-at-clause-finds
returns-then-size_now-at-clause-finds g c tells =
    let same : g.K.Station.seen c.if-at-size.station ≡ g.K.Station.seen c.args.station.now = elim c.if-at-size.branch [
      | then-at-size+in-Err-Damaged-Cut w ↦ ap g.K.Station.seen w.station-is ∙ (w.stored_body.ensures.quiet tells).seen_same
      | else-at-size w ↦ ap g.K.Station.seen w.station-is
    ] in
    let size = c.in_ok-size_now.ensures.size tells ∙ ap length same in
    subst (λ n. Finds c.args.stretch.layout c.args.setup.now c.args.stretch.limit (g.K.Station.seen c.args.station.now)
    c.args.ends.now c.args.at (Err (damages.Cut n))) (sym size) (no_length (omega (arith, size, c.if-size_now-at.true)))
