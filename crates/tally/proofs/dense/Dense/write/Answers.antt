use Rattle.std.proofs.Common.{◌≡◌, length, take, sym, ap, subst, arith}
use Rattle.std.specs.List.Sorted.{IsPermutation}
use Rattle.std.proofs.lemmas.List.{with_items_is}
use Rattle.tally.specs.Layout.{IsListing, IsLayout}
use Rattle.tally.proofs.Ordered.{layout_ordered}
use Rattle.tally.proofs.RowTables.{used_of_layout}
use Rattle.tally.proofs.dense.Dense.write.Goals as goal

pub write_cells-requires-clause-listing : goal.write_cells-requires-clause-listing
write_cells-requires-clause-listing c =
    let i = c.self.inside in
    let e : length c.order.new.touched ≡ i.touched.len = omega (arith, c.deref_mut.ensures.len) in
    let p = subst
    (λ l. IsPermutation (take i.used l) (take i.used c.order.new.touched)) c.deref_mut.ensures.value c.order.ensures.permutation in
    let g = layout_ordered c.self.invariant (omega arith) p in
    subst (λ t. IsListing t c.deref-2.result.now i.used) (sym c.deref.ensures.value)
    (subst (λ l. IsListing i.counts.items l i.used) (sym c.deref-2.ensures.value)
    (subst (λ l. IsListing i.counts.items l i.used) (sym (with_items_is i.touched c.order.new.touched e)) g.listing))

pub write_cells-requires-clause-room : goal.write_cells-requires-clause-room
write_cells-requires-clause-room c =
    omega (arith, used_of_layout c.self.invariant, ap (λ t. length t.cells) c.self.view_is, c.requires.room)

pub invariant_of-self : goal.invariant_of-self
invariant_of-self c =
    let i = c.self.inside in
    let e : length c.order.new.touched ≡ i.touched.len = omega (arith, c.deref_mut.ensures.len) in
    let p = subst
    (λ l. IsPermutation (take i.used l) (take i.used c.order.new.touched)) c.deref_mut.ensures.value c.order.ensures.permutation in
    subst (λ l. IsLayout i.classes i.room i.counts.items l i.used i.total) (sym (with_items_is i.touched c.order.new.touched e))
    (layout_ordered c.self.invariant (omega arith) p)

pub returns-clause-count : goal.returns-clause-count
returns-clause-count c = omega (arith, used_of_layout c.self.invariant, ap (λ t. length t.cells) c.self.view_is)
