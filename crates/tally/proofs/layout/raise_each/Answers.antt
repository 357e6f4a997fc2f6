use Rattle.std.proofs.Common.{◌≡◌, ◌<◌, ◌≤◌, ◌+◌, ◌-◌, ◌⊎◌, inl, inr, ℕ, List, refl, sym, subst, length, get_or, set, arith}
use Rattle.std.specs.Prelude.{All, sum}
use Rattle.std.proofs.lemmas.List.{get_or_default}
use Rattle.lemmas.proofs.Sums.{get_or-le-sum}
use Rattle.tally.specs.declared.cells.Cell.{Cell}
use Rattle.tally.specs.declared.cells.TheConstants.{MAX_TOTAL}
use Rattle.tally.specs.Counts.{Counts, HasGreatestRoom, IsCell, count_of, total_of}
use Rattle.tally.specs.Layout.{IsLayout, counts_in, place_of}
use Rattle.tally.specs.Log.{cells_of}
use Rattle.tally.proofs.Ascending.{place_of_pair}
use Rattle.tally.proofs.Equal.{cell_of}
use Rattle.tally.proofs.Places.{few_places}
use Rattle.tally.proofs.Walk.{count_is, total_is}
use Rattle.tally.proofs.LogCells.{total_of-cells_of}
use Rattle.tally.proofs.RowTables.{place_left, layout_raised, counts_added, counts_of, used_of_layout}
use Rattle.tally.proofs.AddEntries.{HasEntries, entries-none, entries-more, entries-total, entries-cell, entries-room, entries-counts, entries-sum, entries-length}
use Rattle.tally.proofs.layout.raise_each.Goals as goal

room_in : (t : Counts) (used more room : ℕ) → used ≡ length t.cells → room ≡ t.room → HasGreatestRoom t ⊎ (used + more ≤ room) →
    HasGreatestRoom t ⊎ (length t.cells + more ≤ t.room)
room_in t used more room e f (inl h) = inl h
room_in t used more room e f (inr h) = inr (omega arith)

-- one entry more, where the table has those before it
module _ (k room used used' i : ℕ) (old now : List ℕ) (touched was : List ℕ) (entries : List Cell)
    (first : IsLayout k room old was used (sum old)) (each : All (IsCell k) entries) (w : i < length entries)
    (layout : IsLayout k room now touched used' (sum now)) (has : HasEntries (counts_in k room old) (counts_in k room now) entries i) where
  abbrev pub x : Cell
  x = get_or entries i (cell_of 0 0 0)

  item : x ≡ get_or entries i x
  item = get_or_default entries i (cell_of 0 0 0) x w

  pub cell : IsCell k x
  cell = entries-cell (counts_in k room old) (counts_in k room now) entries i x (counts_of first) each w item has

  pub total_fits : sum old + total_of entries ≤ MAX_TOTAL → sum now + x.n ≤ MAX_TOTAL
  total_fits b =
      let t = entries-total (counts_in k room old) (counts_in k room now) entries i x (counts_of first) each w item has
      (omega (arith, b, total_is k 0 1 old)) in
      omega (arith, t, total_is k 0 1 now)

  pub has_place : HasGreatestRoom (counts_in k room old) ⊎ (used + length (cells_of entries) ≤ room) →
      (x.n ≡ 0) ⊎ ((0 < get_or now (place_of k x.lo x.hi) 0) ⊎ (used' + 1 < length touched))
  has_place r =
      let s = counts_in k room now in
      let h = entries-room (counts_in k room old) s entries i x (counts_of first) each w item has
      (room_in (counts_in k room old) used (length (cells_of entries)) room (used_of_layout first) refl r) in
      place_left x.n (count_of s.cells x.lo x.hi) _ used' (length touched) (length s.cells) room
      (count_is k x.lo x.hi now cell.ordered cell.within) (sym (used_of_layout layout)) (sym layout.room_for)
      (place_of_pair s x.lo x.hi x.n (counts_of layout) cell.ordered cell.within h)

  module _ (next touched' : List ℕ) (used'' : ℕ) (layout' : IsLayout k room next touched' used'' (sum next))
      (is : next ≡ set now (place_of k x.lo x.hi) (get_or now (place_of k x.lo x.hi) 0 + x.n)) where
    pub has_more : HasEntries (counts_in k room old) (counts_in k room next) entries (i + 1)
    has_more =
        entries-more (counts_in k room old) (counts_in k room now) entries i x (counts_of first) each w item has
        (counts_in k room next) (counts_of layout')
        (counts_added k x.lo x.hi x.n now next cell.ordered cell.within layout.places is) refl refl

pub loop-entry-init : goal.loop-entry-init
loop-entry-init c = record { layout = c.requires.layout; entries = entries-none _ _ (counts_of c.requires.layout) }

pub raise-used-requires-clause-small : goal.raise-used-requires-clause-small
raise-used-requires-clause-small c =
    omega (arith, few_places c.args.classes c.requires.layout.many, c.loop-entry.invariant.layout.places)

pub raise-used-requires-clause-room : goal.raise-used-requires-clause-room
raise-used-requires-clause-room c =
    let v = c.loop-entry.invariant in
    rw c.place-at.ensures.place
    (has_place c.args.classes _ _ _ c.loop-entry.entry-index c.args.counts.now c.loop-entry.counts c.loop-entry.touched c.args.touched.now
    c.args.entries.now c.requires.layout c.requires.each c.loop-entry-test.true v.layout v.entries c.requires.room)

pub raise-used-requires-clause-fits : goal.raise-used-requires-clause-fits
raise-used-requires-clause-fits c =
    let v = c.loop-entry.invariant in
    omega (
      arith,
      get_or-le-sum c.loop-entry.counts c.place-at.result,
      total_fits c.args.classes _ _ _ c.loop-entry.entry-index c.args.counts.now c.loop-entry.counts c.loop-entry.touched c.args.touched.now
          c.args.entries.now c.requires.layout c.requires.each c.loop-entry-test.true v.layout v.entries c.requires.total,
    )

pub loop-entry-preserved : goal.loop-entry-preserved
loop-entry-preserved c =
    let k = c.args.classes in
    let i = c.loop-entry.entry-index in
    let old = c.args.counts.now in
    let now = c.loop-entry.counts in
    let v = c.loop-entry.invariant in
    let r = c.raise-used in
    let fits = total_fits k _ _ _ i old now c.loop-entry.touched c.args.touched.now c.args.entries.now c.requires.layout c.requires.each
    c.loop-entry-test.true v.layout v.entries c.requires.total in
    let raised = layout_raised {l' = r.new.touched} {used' = r.result} c.place-at.result _ v.layout
    (omega (arith, c.place-at.ensures.within, v.layout.places)) r.ensures.counts (omega arith) r.ensures.listing fits in
    let layout = subst (λ n. IsLayout k (length c.args.touched.now - 1) r.new.counts r.new.touched r.result n) raised.summed raised in
    record {
      layout = layout;
      entries = has_more k _ _ _ i old now c.loop-entry.touched c.args.touched.now c.args.entries.now c.requires.layout c.requires.each
          c.loop-entry-test.true v.layout v.entries r.new.counts r.new.touched r.result layout
          (rw (← c.place-at.ensures.place) r.ensures.counts);
    }

pub returns-clause-added : goal.returns-clause-added
returns-clause-added c =
    entries-counts _ _ c.args.entries.now c.loop-entry.entry-index (counts_of c.requires.layout) c.requires.each c.loop-entry-test.false
    c.loop-entry.invariant.entries

pub returns-clause-total : goal.returns-clause-total
returns-clause-total c =
    let k = c.args.classes in
    omega (
      arith,
      entries-sum _ _ c.args.entries.now c.loop-entry.entry-index (counts_of c.requires.layout) c.requires.each c.loop-entry-test.false
          c.loop-entry.invariant.entries,
      total_is k 0 1 c.args.counts.now,
      total_is k 0 1 c.loop-entry.counts,
      total_of-cells_of c.args.entries.now,
    )

pub returns-clause-used : goal.returns-clause-used
returns-clause-used c =
    omega (
      arith,
      entries-length _ _ c.args.entries.now c.loop-entry.entry-index (counts_of c.requires.layout) c.requires.each c.loop-entry-test.false
          c.loop-entry.invariant.entries,
      used_of_layout c.requires.layout,
      used_of_layout c.loop-entry.invariant.layout,
    )
