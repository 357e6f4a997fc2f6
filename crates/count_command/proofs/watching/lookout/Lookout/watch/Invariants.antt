use Rattle.std.proofs.Common.{◌≡◌}
use Rattle.count_command.proofs.watching.lookout.Lookout.watch.Given as goal

abbrev pub invariant-loop : goal.invariant-loop
invariant-loop g l = record {
  next : (goal.iterator-loop g).can_next l.iterator';
  finite : (goal.iterator-loop g).is_finite l.iterator';
  same : l.self ≡ l.fn.self;
}
