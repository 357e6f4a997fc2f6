use Rattle.std.proofs.Common.{rules, ◌≡◌, length, ◌∙◌, ap, sym, subst, take, arith}
use Rattle.std.specs.Prelude.{All, sum_by}
use Rattle.std.specs.List.Sorted.{IsNonDecreasingBy}
use Rattle.std.proofs.lemmas.List.{with_items_is}
use Rattle.std.proofs.lemmas.List.Sorted.{IsNonDecreasingBy-from_sort_by_key, All-permutation, sum_by-IsPermutation}
use Rattle.calibration.specs.declared.grid.TheConstants.{MAX_CLASSES}
use Rattle.tally.specs.Counts.{IsCell}
use Rattle.tally.specs.Log.{cells_of, rank}
use Rattle.tally.proofs.LogCells.{cells_of-permutation}
use Rattle.tally.proofs.entries.gather.Goals as goal

pub put_together-kept-requires-clause-ordered : goal.put_together-kept-requires-clause-ordered
put_together-kept-requires-clause-ordered c =
    subst (IsNonDecreasingBy rank) (sym c.deref_mut.ensures.value)
    (IsNonDecreasingBy-from_sort_by_key rank _ c.sort_unstable_by_key.ensures.sorted (λ a r q k. search rules))

pub put_together-kept-requires-clause-each : goal.put_together-kept-requires-clause-each
put_together-kept-requires-clause-each c =
    subst (All (IsCell MAX_CLASSES)) (sym c.deref_mut.ensures.value)
    (All-permutation (IsCell MAX_CLASSES) _ _ c.sort_unstable_by_key.ensures.permutation c.requires.each)

pub put_together-kept-requires-clause-total : goal.put_together-kept-requires-clause-total
put_together-kept-requires-clause-total c =
    omega (
      arith,
      ap (λ l. sum_by (λ c. c.n) l) c.deref_mut.ensures.value,
      sum_by-IsPermutation
          (λ c. c.n) _ _ c.sort_unstable_by_key.ensures.permutation,
      c.requires.total,
    )

pub returns-clause-cells : goal.returns-clause-cells
returns-clause-cells c =
    let l : length c.put_together-kept.new.entries ≡ c.sort_unstable_by_key.new.self.len = omega (arith, c.deref_mut.ensures.len) in
    c.truncate.ensures.items
    ∙ ap (take c.put_together-kept.result) (with_items_is c.sort_unstable_by_key.new.self c.put_together-kept.new.entries l)
    ∙ c.put_together-kept.ensures.cells ∙ ap cells_of c.deref_mut.ensures.value
    ∙ cells_of-permutation MAX_CLASSES _ _ c.requires.each c.sort_unstable_by_key.ensures.permutation
