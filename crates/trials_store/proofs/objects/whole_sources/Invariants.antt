-- Each source that is out lies in the list.
use Rattle.std.proofs.Common.{◌≡◌, ◌≤◌, ◌+◌, length}
use Rattle.outside.specs.declared.site.TheConstants.{MAX_SOURCES_OUT}
use Rattle.trials_store.proofs.objects.whole_sources.Given as goal

abbrev pub invariant-loop : goal.invariant-loop
invariant-loop l = (l.site.out ≡ l.counter) × (length l.sources.items ≡ l.counter) × (l.counter ≤ l.count)

abbrev pub invariant-loop-source : goal.invariant-loop-source
invariant-loop-source l = (l.site.out ≡ length l.sources.items) × (l.whole + length l.sources.items ≤ MAX_SOURCES_OUT)

abbrev pub decreases-loop-source : goal.decreases-loop-source
decreases-loop-source l = goal.left-loop-source l
