use Rattle.std.proofs.Common.{◌<◌, ◌∷◌, [], ℕ, zero, suc, arith, rules, get_or}
use Rattle.count_workers.specs.declared.collector.collecting.Return.{Return}
use Rattle.count_workers.specs.collector.Collecting.{IsAwaited}
use Rattle.trials_store.proofs.collectors.a_ring_is_taken_as_far_as_its_mark.Goals as goal

one_awaited : (r : Return) → IsAwaited r → (v : ℕ) (d : Return) → v < 1 → IsAwaited (get_or (r ∷ []) v d)
one_awaited r h zero d l = h
one_awaited r h (suc v) d l = absurd (omega (arith, l))

pub collect-requires-clause-awaited : goal.collect-requires-clause-awaited
collect-requires-clause-awaited g c = one_awaited _ (search rules)
