use Rattle.live_view.specs.View.{AreAlike}
use Rattle.live_view.specs.Ends.{IsSameWatcher}
use Rattle.trials_store.proofs.live_views.look_until_done.Given as goal

abbrev pub invariant-loop : goal.invariant-loop
invariant-loop g l = record {
  next : (goal.iterator-loop g).can_next l.iterator';
  finite : (goal.iterator-loop g).is_finite l.iterator';
  same : IsSameWatcher l.fn.watcher l.watcher;
  alike : AreAlike l.copy l.fn.watcher.first;
}
