use Rattle.std.proofs.Common.{◌≡◌, ◌<◌, ◌≤◌, ◌+◌, ◌∙◌, sym, ap, subst, length, get_or, set, arith}
use Rattle.std.specs.Vec.{with_items}
use Rattle.std.proofs.lemmas.List.{with_items_is}
use Rattle.tally.specs.declared.cells.TheConstants.{MAX_TOTAL}
use Rattle.tally.specs.Counts.{IsCounts, count_of, total_of}
use Rattle.tally.specs.Layout.{IsLayout, place_of}
use Rattle.tally.proofs.Ascending.{place_of_pair}
use Rattle.tally.proofs.Places.{few_places}
use Rattle.lemmas.proofs.Sums.{get_or-le-sum}
use Rattle.tally.proofs.Walk.{count_is}
use Rattle.tally.proofs.RowTables.{place_left, layout_raised, counts_added, counts_of, total_of_layout, used_of_layout}
use Rattle.tally.proofs.dense.Dense.add.Goals as goal

pub raise-self-inside-requires-clause-small : goal.raise-self-inside-requires-clause-small
raise-self-inside-requires-clause-small c = omega (arith, few_places c.self.inside.classes c.self.invariant.many)

pub raise-self-inside-requires-clause-fits : goal.raise-self-inside-requires-clause-fits
raise-self-inside-requires-clause-fits c =
    let i = c.self.inside in
    let e = ap (λ t. total_of t.cells) c.self.view_is in
    omega (
      arith,
      get_or-le-sum i.counts.items c.place-at.result,
      total_of_layout c.self.invariant,
      e,
      ap
          (λ t. get_or t c.place-at.result 0) c.deref_mut.ensures.value,
    )

pub raise-self-inside-requires-clause-room : goal.raise-self-inside-requires-clause-room
raise-self-inside-requires-clause-room c =
    let i = c.self.inside in
    let v = c.self.invariant in
    let w : c.args.hi < i.classes = omega (arith, ap (λ t. t.classes) c.self.view_is) in
    let p = c.place-at.ensures.place in
    let q = count_is i.classes c.args.lo c.args.hi i.counts.items c.requires.ordered w in
    place_left c.args.n _ _ i.used _ _ _
    (sym (ap (λ t. count_of t.cells c.args.lo c.args.hi) c.self.view_is) ∙ q ∙ sym (ap (λ x. get_or i.counts.items x 0) p)
    ∙ sym (ap (λ t. get_or t c.place-at.result 0) c.deref_mut.ensures.value))
    (sym (ap (λ t. length t.cells) c.self.view_is) ∙ sym (used_of_layout v))
    (sym (ap (λ t. t.room + 1) c.self.view_is) ∙ sym v.room_for ∙ sym (ap length c.deref_mut-2.ensures.value))
    (place_of_pair c.args.self.now c.args.lo c.args.hi c.args.n
    (subst IsCounts c.self.view_is (counts_of v)) c.requires.ordered c.requires.within c.requires.room)

pub overflow_add-self : goal.overflow_add-self
overflow_add-self c =
    let e = ap (λ t. total_of t.cells) c.self.view_is in
    omega (arith, total_of_layout c.self.invariant, e)

pub invariant_of-self : goal.invariant_of-self
invariant_of-self c =
    let i = c.self.inside in
    let r = c.raise-self-inside in
    let e = ap (λ t. total_of t.cells) c.self.view_is in
    let l : length r.new.counts ≡ i.counts.len = omega arith in
    let k : length r.new.touched ≡ i.touched.len = omega arith in
    let b : i.total + c.args.n ≤ MAX_TOTAL = omega (arith, total_of_layout c.self.invariant, e) in
    let f : r.new.counts ≡ set i.counts.items c.place-at.result (get_or i.counts.items c.place-at.result 0 + c.args.n) = rw
    (← c.deref_mut.ensures.value) r.ensures.counts in
    subst (λ t. IsLayout i.classes i.room t (with_items i.touched r.new.touched).items r.result (i.total + c.args.n))
    (sym (with_items_is i.counts r.new.counts l))
    (subst (λ t. IsLayout i.classes i.room r.new.counts t r.result (i.total + c.args.n)) (sym (with_items_is i.touched r.new.touched k))
    (layout_raised c.place-at.result c.args.n c.self.invariant (omega arith) f (omega arith) r.ensures.listing b))

pub returns-clause-added : goal.returns-clause-added
returns-clause-added c =
    let i = c.self.inside in
    let r = c.raise-self-inside in
    let l : length r.new.counts ≡ i.counts.len = omega arith in
    let p = c.place-at.ensures.place in
    let f : r.new.counts ≡ set i.counts.items (place_of i.classes c.args.lo c.args.hi)
    (get_or i.counts.items (place_of i.classes c.args.lo c.args.hi) 0 + c.args.n) =
    rw (← c.deref_mut.ensures.value, ← p) r.ensures.counts in
    let w : c.args.hi < i.classes = omega (arith, ap (λ t. t.classes) c.self.view_is) in
    let a = counts_added i.classes c.args.lo c.args.hi c.args.n i.counts.items r.new.counts c.requires.ordered w
    c.self.invariant.places f in
    rw (with_items_is i.counts r.new.counts l, ← c.self.view_is) a

pub returns-clause-total : goal.returns-clause-total
returns-clause-total c =
    sym (total_of_layout (invariant_of-self c))
    ∙ ap (λ n. n + c.args.n) (total_of_layout c.self.invariant ∙ ap (λ t. total_of t.cells) c.self.view_is)

pub returns-clause-counts : goal.returns-clause-counts
returns-clause-counts c = counts_of (invariant_of-self c)

pub returns-clause-cells : goal.returns-clause-cells
returns-clause-cells c =
    omega (
      arith,
      used_of_layout (invariant_of-self c),
      used_of_layout c.self.invariant,
      ap
          (λ t. length t.cells) c.self.view_is,
      c.raise-self-inside.ensures.used,
    )
