use Rattle.std.proofs.Common.{ℕ, ◌≡◌, ◌<◌, ◌≤◌, ◌+◌, ◌⊎◌, ◌∙◌, sym, subst, length, get_or, arith}
use Rattle.std.specs.Prelude.{All}
use Rattle.tally.specs.Counts.{IsCell, HasGreatestRoom, count_of, total_of}
use Rattle.tally.specs.Log.{cells_of}
use Rattle.tally.proofs.Equal.{cell_of}
use Rattle.tally.proofs.LogCells.{cells_of-ascending}
use Rattle.tally.proofs.AddEntries.{HasEntries, entries-none, entries-more, entries-total, entries-cell, entries-room, entries-counts, entries-sum, entries-length, found_first, found_next}
use Rattle.tally.proofs.tally.add_table.Goals as goal
use Rattle.tally.proofs.tally.add_table.Goals.{in-Some, in_default}
use Rattle.lemmas.proofs.Outcomes.{same_some}

pub loop-init : goal.loop-init
loop-init c = record {
  merged = entries-none _ _ c.requires.counts;
  from = λ d h. c.next-from.ensures ∙ found_first c.args.others.now.cells d h;
}

module _ (c : goal.After-add-arg-1) where
  inside : c.loop.counter < length c.args.others.now.cells
  inside = omega (arith, c.cells-end.ensures.cells)

  item : c.in-Some.cell ≡ get_or c.args.others.now.cells c.loop.counter c.in-Some.cell
  item = same_some c.in-Some.is (c.loop.invariant.from c.in-Some.cell inside)

  each : All (IsCell c.args.log.now.classes) c.args.others.now.cells
  each = subst (λ k. All (IsCell k) c.args.others.now.cells) (sym c.requires.classes) c.cells-end.ensures.counts.each

  all_room : HasGreatestRoom c.args.log.now ⊎
      (length c.args.log.now.cells + length (cells_of c.args.others.now.cells) ≤ c.args.log.now.room)
  all_room =
      subst (λ l. HasGreatestRoom c.args.log.now ⊎ (length c.args.log.now.cells + length l ≤ c.args.log.now.room))
      (sym (cells_of-ascending c.args.others.now.cells c.cells-end.ensures.counts.ascending)) c.requires.room

pub add-requires-clause-ordered : goal.add-requires-clause-ordered
add-requires-clause-ordered c =
    let g = entries-cell _ _ c.args.others.now.cells c.loop.counter _ c.requires.counts (each c) (inside c)
    (item c) c.loop.invariant.merged in g.ordered

pub add-requires-clause-within : goal.add-requires-clause-within
add-requires-clause-within c =
    let g = entries-cell _ _ c.args.others.now.cells c.loop.counter _ c.requires.counts (each c) (inside c)
    (item c) c.loop.invariant.merged in g.within

pub add-requires-clause-total : goal.add-requires-clause-total
add-requires-clause-total c =
    entries-total _ _ c.args.others.now.cells c.loop.counter _ c.requires.counts (each c) (inside c)
    (item c) c.loop.invariant.merged c.requires.total

pub add-requires-clause-room : goal.add-requires-clause-room
add-requires-clause-room c =
    entries-room _ _ c.args.others.now.cells c.loop.counter _ c.requires.counts (each c) (inside c) (item c) c.loop.invariant.merged
    (all_room c)

pub overflow_add-cell : goal.overflow_add-cell
overflow_add-cell c =
    let l = c.args.others.now.cells in
    let i = c.loop.counter in
    let g = c.cells-end.ensures.counts in
    let w : i < length l = omega (arith, c.cells-end.ensures.cells) in
    let e : c.in-Some.cell ≡ get_or l i c.in-Some.cell = same_some c.in-Some.is (c.loop.invariant.from c.in-Some.cell w) in
    let h = (subst (IsCell c.args.others.now.classes) (sym e) (g.each i c.in-Some.cell w)).within in
    omega (arith, h, g.many)

pub loop-preserved : goal.loop-preserved
loop-preserved c =
    let l = c.args.others.now.cells in
    let i = c.loop.counter in
    let g = c.cells-end.ensures.counts in
    let v = c.loop.invariant in
    let w : i < length l = omega (arith, c.cells-end.ensures.cells) in
    elim c.match-from.branch [
      | in-Some x ↦
          let cell = x.in-Some.cell in
          let e : cell ≡ get_or l i cell = same_some x.in-Some.is (v.from cell w) in
          let a = x.add.ensures in
          let k = subst (λ k. All (IsCell k) l) (sym c.requires.classes) g.each in
          record {
            merged = subst (λ s. HasEntries c.args.log.now s l (i + 1)) (sym x.log-is)
                (entries-more _ _ l i cell c.requires.counts k w e v.merged _ a.counts a.added a.classes a.room);
            from = λ d h. x.from-is ∙ x.next-from-in-Some.ensures ∙ found_next l i cell d g.ascending w e h;
          }
      | in_default x ↦ absurd (x.in_default.not-Some (get_or l i (cell_of 0 0 0)) (v.from (cell_of 0 0 0) w))
    ]

module _ (c : goal.After-loop) where
  every : All (IsCell c.args.log.now.classes) c.args.others.now.cells
  every = subst (λ k. All (IsCell k) c.args.others.now.cells) (sym c.requires.classes) c.cells-end.ensures.counts.each

  same : cells_of c.args.others.now.cells ≡ c.args.others.now.cells
  same = cells_of-ascending c.args.others.now.cells c.cells-end.ensures.counts.ascending

pub returns-clause-merged : goal.returns-clause-merged
returns-clause-merged c =
    subst (λ l. (a b : ℕ) → count_of c.loop.log.cells a b ≡ count_of c.args.log.now.cells a b + count_of l a b) (same c)
    (entries-counts _ _ c.args.others.now.cells c.loop.counter c.requires.counts (every c)
    (omega (arith, c.cells-end.ensures.cells)) c.loop.invariant.merged)

pub returns-clause-total : goal.returns-clause-total
returns-clause-total c =
    subst (λ l. total_of c.loop.log.cells ≡ total_of c.args.log.now.cells + total_of l) (same c)
    (entries-sum _ _ c.args.others.now.cells c.loop.counter c.requires.counts (every c)
    (omega (arith, c.cells-end.ensures.cells)) c.loop.invariant.merged)

pub returns-clause-cells : goal.returns-clause-cells
returns-clause-cells c =
    subst (λ l. length c.loop.log.cells ≤ length c.args.log.now.cells + length l) (same c)
    (entries-length _ _ c.args.others.now.cells c.loop.counter c.requires.counts (every c)
    (omega (arith, c.cells-end.ensures.cells)) c.loop.invariant.merged)
