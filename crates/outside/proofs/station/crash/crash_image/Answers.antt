use Rattle.std.proofs.Common.{◌≡◌, ◌+◌, ◌∷◌, drop, sym, ◌∙◌, ap, rules}
use Rattle.std.proofs.lemmas.List.{drop_more}
use Rattle.outside.specs.station.Calls.{disk_of, disk_after, have_no_gap}
use Rattle.outside.proofs.on_station.Crashing.{step, placed_tail}
use Rattle.outside.proofs.station.crash.crash_image.Goals as goal

pub loop-call-preserved : goal.loop-call-preserved
loop-call-preserved c =
    let was = c.loop-call.invariant in
    let made = step c.call-item.result was.0 _ _ _ _ was.1 was.2 c.in_ok-replay.ensures in
    let rest : drop c.loop-call.call-index c.args.calls.now ≡ c.call-item.result ∷ drop (c.loop-call.call-index + 1) c.args.calls.now =
    search (rules, drop_more) in (
      disk_after was.0 c.call-item.result,
      made.0,
      made.1,
      was.3 ∙ ap (λ l. disk_of was.0 l) rest,
      placed_tail c.call-item.result (drop (c.loop-call.call-index + 1) c.args.calls.now) was.0 (sym (ap (λ l. have_no_gap was.0 l) rest)
          ∙ was.4),
    )
