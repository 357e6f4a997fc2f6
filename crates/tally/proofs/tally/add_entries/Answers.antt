use Rattle.std.proofs.Common.{◌≡◌, ◌<◌, ℕ, List, length, get_or}
use Rattle.std.proofs.lemmas.List.{get_or_default}
use Rattle.tally.specs.declared.cells.Cell.{Cell}
use Rattle.tally.proofs.Equal.{cell_of}
use Rattle.tally.proofs.AddEntries.{entries-none, entries-more, entries-total, entries-cell, entries-room, entries-counts, entries-sum, entries-length}
use Rattle.tally.proofs.tally.add_entries.Goals as goal

pub loop-entry-init : goal.loop-entry-init
loop-entry-init c = entries-none _ _ c.requires.counts

module _ (cells : List Cell) (i : ℕ) (w : i < length cells) where
  pub item : get_or cells i (cell_of 0 0 0) ≡ get_or cells i (get_or cells i (cell_of 0 0 0))
  item = get_or_default cells i (cell_of 0 0 0) (get_or cells i (cell_of 0 0 0)) w

pub add-requires-clause-ordered : goal.add-requires-clause-ordered
add-requires-clause-ordered c =
    let l = c.args.entries.now in
    let i = c.loop-entry.entry-index in
    let w = c.loop-entry-test.true in
    let g = entries-cell _ _ l i _ c.requires.counts c.requires.each w (item l i w) c.loop-entry.invariant in g.ordered

pub add-requires-clause-within : goal.add-requires-clause-within
add-requires-clause-within c =
    let l = c.args.entries.now in
    let i = c.loop-entry.entry-index in
    let w = c.loop-entry-test.true in
    let g = entries-cell _ _ l i _ c.requires.counts c.requires.each w (item l i w) c.loop-entry.invariant in g.within

pub add-requires-clause-total : goal.add-requires-clause-total
add-requires-clause-total c =
    let l = c.args.entries.now in
    let i = c.loop-entry.entry-index in
    let w = c.loop-entry-test.true in
    entries-total _ _ l i _ c.requires.counts c.requires.each w (item l i w) c.loop-entry.invariant c.requires.total

pub add-requires-clause-room : goal.add-requires-clause-room
add-requires-clause-room c =
    let l = c.args.entries.now in
    let i = c.loop-entry.entry-index in
    let w = c.loop-entry-test.true in
    entries-room _ _ l i _ c.requires.counts c.requires.each w (item l i w) c.loop-entry.invariant c.requires.room

pub loop-entry-preserved : goal.loop-entry-preserved
loop-entry-preserved c =
    let l = c.args.entries.now in
    let i = c.loop-entry.entry-index in
    let w = c.loop-entry-test.true in
    let e = c.add.ensures in
    entries-more _ _ l i _ c.requires.counts c.requires.each w (item l i w) c.loop-entry.invariant _ e.counts e.added e.classes e.room

pub returns-clause-merged : goal.returns-clause-merged
returns-clause-merged c =
    entries-counts _ _ c.args.entries.now c.loop-entry.entry-index c.requires.counts c.requires.each c.loop-entry-test.false
    c.loop-entry.invariant

pub returns-clause-total : goal.returns-clause-total
returns-clause-total c =
    entries-sum _ _ c.args.entries.now c.loop-entry.entry-index c.requires.counts c.requires.each c.loop-entry-test.false
    c.loop-entry.invariant

pub returns-clause-cells : goal.returns-clause-cells
returns-clause-cells c =
    entries-length _ _ c.args.entries.now c.loop-entry.entry-index c.requires.counts c.requires.each c.loop-entry-test.false
    c.loop-entry.invariant
