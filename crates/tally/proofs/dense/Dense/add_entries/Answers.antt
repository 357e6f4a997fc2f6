use Rattle.std.proofs.Common.{◌≡◌, ℕ, List, ◌≤◌, ◌+◌, ◌-◌, ◌⊎◌, ◌∙◌, sym, ap, subst, length, arith}
use Rattle.std.specs.Prelude.{sum}
use Rattle.std.specs.Vec.{with_items}
use Rattle.std.proofs.lemmas.List.{with_items_is}
use Rattle.tally.specs.Counts.{total_of, most_cells}
use Rattle.tally.specs.Layout.{IsLayout}
use Rattle.tally.proofs.RowTables.{counts_of, total_of_layout, used_of_layout}
use Rattle.tally.proofs.dense.Dense.add_entries.Goals as goal

pub raise_each-self-inside-requires-clause-total : goal.raise_each-self-inside-requires-clause-total
raise_each-self-inside-requires-clause-total c =
    omega (
      arith,
      c.requires.total,
      c.requires.sum,
      c.self.invariant.summed,
      total_of_layout c.self.invariant,
      ap (λ t. total_of t.cells) c.self.view_is,
      ap (λ (t : List ℕ). sum t) c.deref_mut.ensures.value,
    )

-- the condition on cells, in terms of the table
room_by : (room most len x y used more : ℕ) → room + 1 ≡ x → most ≡ y → len ≡ used →
    (room ≡ most) ⊎ (len + more ≤ room) → (x - 1 ≡ y) ⊎ (used + more ≤ x - 1)
room_by room most len x y used more e f g r = grind arith

pub raise_each-self-inside-requires-clause-room : goal.raise_each-self-inside-requires-clause-room
raise_each-self-inside-requires-clause-room c =
    let v = c.self.invariant in
    room_by _ _ _ _ _ c.self.inside.used _
    (sym (ap (λ t. t.room + 1) c.self.view_is) ∙ sym v.room_for ∙ sym (ap length c.deref_mut-2.ensures.value))
    (sym (ap (λ t. most_cells t.classes) c.self.view_is))
    (sym (ap (λ t. length t.cells) c.self.view_is) ∙ sym (used_of_layout v))
    c.requires.room

pub invariant_of-self : goal.invariant_of-self
invariant_of-self c =
    let i = c.self.inside in
    let v = c.self.invariant in
    let r = c.raise_each-self-inside in
    let total = i.total + c.args.total in
    let l : length r.new.counts ≡ i.counts.len = omega arith in
    let k : length r.new.touched ≡ i.touched.len = omega arith in
    let room : length c.deref_mut-2.result.now - 1 ≡ i.room = omega (arith, ap length c.deref_mut-2.ensures.value, v.room_for) in
    let n : sum r.new.counts ≡ total = omega
    (arith, r.ensures.total, c.requires.sum, v.summed, ap (λ (t : List ℕ). sum t) c.deref_mut.ensures.value) in
    subst (λ t. IsLayout i.classes i.room t (with_items i.touched r.new.touched).items r.result total)
    (sym (with_items_is i.counts r.new.counts l))
    (subst (λ t. IsLayout i.classes i.room r.new.counts t r.result total) (sym (with_items_is i.touched r.new.touched k))
    (subst (λ m. IsLayout i.classes i.room r.new.counts r.new.touched r.result m) n
    (subst (λ m. IsLayout i.classes m r.new.counts r.new.touched r.result (sum r.new.counts)) room r.ensures.layout)))

pub returns-clause-total : goal.returns-clause-total
returns-clause-total c =
    sym (total_of_layout (invariant_of-self c))
    ∙ ap (λ n. n + c.args.total) (total_of_layout c.self.invariant ∙ ap (λ t. total_of t.cells) c.self.view_is)

pub returns-clause-counts : goal.returns-clause-counts
returns-clause-counts c = counts_of (invariant_of-self c)

pub returns-clause-cells : goal.returns-clause-cells
returns-clause-cells c =
    omega (
      arith,
      used_of_layout (invariant_of-self c),
      used_of_layout c.self.invariant,
      ap (λ t. length t.cells) c.self.view_is,
      c.raise_each-self-inside.ensures.used,
    )
