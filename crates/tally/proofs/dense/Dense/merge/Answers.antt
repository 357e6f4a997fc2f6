use Rattle.std.proofs.Common.{◌≡◌, ℕ, List, ◌<◌, ◌≤◌, ◌+◌, ◌⊎◌, ◌∙◌, sym, ap, ap₂, subst, length, get_or, arith}
use Rattle.std.specs.Vec.{with_items}
use Rattle.std.proofs.lemmas.List.{with_items_is}
use Rattle.tally.specs.declared.cells.TheConstants.{MAX_TOTAL}
use Rattle.tally.specs.Counts.{count_of, total_of, most_cells}
use Rattle.tally.specs.Layout.{IsLayout, counts_in, row_start}
use Rattle.tally.proofs.Places.{few_places, places_is}
use Rattle.lemmas.proofs.Sums.{get_or-le-sum}
use Rattle.tally.proofs.RowTables.{layout_merged, counts_merged, counts_of, total_of_layout, used_of_layout}
use Rattle.tally.proofs.dense.Dense.merge.Goals as goal

pub raise_all-self-inside-requires-clause-small : goal.raise_all-self-inside-requires-clause-small
raise_all-self-inside-requires-clause-small c = omega (arith, few_places c.self.inside.classes c.self.invariant.many)

pub raise_all-self-inside-requires-clause-fits : goal.raise_all-self-inside-requires-clause-fits
raise_all-self-inside-requires-clause-fits c =
    let i = c.self.inside in
    let o = c.other.inside in
    let e = ap (λ t. total_of t.cells) c.self.view_is in
    let f = ap (λ t. total_of t.cells) c.other.view_is in
    let g = total_of_layout c.self.invariant in
    let h = total_of_layout c.other.invariant in
    λ p. omega (
      arith,
      get_or-le-sum i.counts.items p,
      get_or-le-sum o.counts.items p,
      ap (λ t. get_or t p 0) c.deref_mut.ensures.value,
      ap
          (λ t. get_or t p 0) c.deref.ensures.value,
    )

-- the condition on cells, in terms of the table
room_by : (room most len other x y used others : ℕ) → room + 1 ≡ x → most ≡ y → len ≡ used → other ≡ others →
    (room ≡ most) ⊎ (len + other ≤ room) → (x ≡ y + 1) ⊎ (used + others < x)
room_by room most len other x y used others e f g h r = grind arith

pub raise_all-self-inside-requires-clause-room : goal.raise_all-self-inside-requires-clause-room
raise_all-self-inside-requires-clause-room c =
    let i = c.self.inside in
    let v = c.self.invariant in
    room_by _ _ _ _ _ _ i.used c.other.inside.used
    (sym (ap (λ t. t.room + 1) c.self.view_is) ∙ sym v.room_for ∙ sym (ap length c.deref_mut-2.ensures.value))
    (sym (ap (λ t. most_cells t.classes) c.self.view_is) ∙ places_is i.classes (omega (arith, v.few)) ∙ sym v.places
    ∙ sym (ap length c.deref_mut.ensures.value))
    (sym (ap (λ t. length t.cells) c.self.view_is) ∙ sym (used_of_layout v))
    (sym (ap (λ t. length t.cells) c.other.view_is) ∙ sym (used_of_layout c.other.invariant))
    c.requires.room

pub overflow_add-self : goal.overflow_add-self
overflow_add-self c =
    let e = ap (λ t. total_of t.cells) c.self.view_is in
    let f = ap (λ t. total_of t.cells) c.other.view_is in
    omega (arith, total_of_layout c.self.invariant, total_of_layout c.other.invariant, e, f)

adds : (s s' t t' r : List ℕ) → s' ≡ s → t' ≡ t → ((p : ℕ) → get_or r p 0 ≡ get_or s' p 0 + get_or t' p 0) → (p : ℕ) →
    get_or r p 0 ≡ get_or s p 0 + get_or t p 0
adds s s' t t' r e f h = λ p. omega (arith, h p, ap (λ l. get_or l p 0) e, ap (λ l. get_or l p 0) f)

pub invariant_of-self : goal.invariant_of-self
invariant_of-self c =
    let i = c.self.inside in
    let r = c.raise_all-self-inside in
    let e = ap (λ t. total_of t.cells) c.self.view_is in
    let g = ap (λ t. total_of t.cells) c.other.view_is in
    let same : i.classes ≡ c.other.inside.classes = ap (λ t. t.classes) c.self.view_is ∙ c.requires.classes
    ∙ sym (ap (λ t. t.classes) c.other.view_is) in
    let l : length r.new.counts ≡ i.counts.len = omega arith in
    let k : length r.new.touched ≡ i.touched.len = omega arith in
    let b : i.total + c.other.inside.total ≤ MAX_TOTAL = omega
    (arith, total_of_layout c.self.invariant, total_of_layout c.other.invariant, e, g) in
    let f = adds _ _ _ _ _ c.deref_mut.ensures.value c.deref.ensures.value r.ensures.counts in
    let o = subst
    (λ n. IsLayout n c.other.inside.room c.other.inside.counts.items c.other.inside.touched.items c.other.inside.used c.other.inside.total)
    (sym same) c.other.invariant in
    subst (λ t. IsLayout i.classes i.room t (with_items i.touched r.new.touched).items r.result (i.total + c.other.inside.total))
    (sym (with_items_is i.counts r.new.counts l))
    (subst (λ t. IsLayout i.classes i.room r.new.counts t r.result (i.total + c.other.inside.total))
    (sym (with_items_is i.touched r.new.touched k))
    (layout_merged c.self.invariant o (omega arith) (omega arith) r.ensures.listing f b))

pub returns-clause-merged : goal.returns-clause-merged
returns-clause-merged c =
    let i = c.self.inside in
    let o = c.other.inside in
    let r = c.raise_all-self-inside in
    let l : length r.new.counts ≡ i.counts.len = omega arith in
    let same : i.classes ≡ o.classes = ap (λ t. t.classes) c.self.view_is ∙ c.requires.classes
    ∙ sym (ap (λ t. t.classes) c.other.view_is) in
    let f = adds _ _ _ _ _ c.deref_mut.ensures.value c.deref.ensures.value r.ensures.counts in
    let a = counts_merged i.classes i.counts.items o.counts.items r.new.counts c.self.invariant.few c.self.invariant.places
    (c.other.invariant.places ∙ ap (λ n. row_start n n) (sym same)) (omega (arith, c.self.invariant.places)) f in
    let m = subst
    (λ n. (a b : ℕ) →
    count_of (counts_in i.classes i.room r.new.counts).cells a b ≡ count_of
    (counts_in i.classes i.room i.counts.items).cells a b + count_of (counts_in n o.room o.counts.items).cells a b) same a in
    rw (with_items_is i.counts r.new.counts l, ← c.self.view_is, ← c.other.view_is) m

pub returns-clause-total : goal.returns-clause-total
returns-clause-total c =
    sym (total_of_layout (invariant_of-self c))
    ∙ ap₂ ◌+◌ (total_of_layout c.self.invariant ∙ ap (λ t. total_of t.cells) c.self.view_is)
    (total_of_layout c.other.invariant ∙ ap (λ t. total_of t.cells) c.other.view_is)

pub returns-clause-counts : goal.returns-clause-counts
returns-clause-counts c = counts_of (invariant_of-self c)

pub returns-clause-cells : goal.returns-clause-cells
returns-clause-cells c =
    omega (
      arith,
      used_of_layout (invariant_of-self c),
      used_of_layout c.self.invariant,
      used_of_layout c.other.invariant,
      ap (λ t. length t.cells) c.self.view_is,
      ap (λ t. length t.cells) c.other.view_is,
      c.raise_all-self-inside.ensures.used,
    )
