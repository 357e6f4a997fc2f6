use Rattle.std.proofs.Common.{◌≡◌}
use Rattle.live_view.specs.Ends.{MayShow}
use Rattle.trials_store.proofs.live_views.show_all.Given as goal

abbrev pub invariant-loop : goal.invariant-loop
invariant-loop g l = record {
  may : MayShow l.shower.view l.segment;
  of : l.shower.of ≡ l.fn.shower.of;
}
