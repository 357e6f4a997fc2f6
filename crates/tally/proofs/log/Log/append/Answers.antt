use Rattle.std.proofs.Common.{◌≡◌, ◌+◌, ◌≤◌, ◌⊎◌, ◌∙◌, List, ◌++◌, length, sym, ap, ap₂, subst, arith}
use Rattle.std.specs.Prelude.{Bool, false, true, Result, Ok, Err, IsOk, is_ok, if◌then◌else◌}
use Rattle.std.specs.declared.alloc.AllocError.{AllocError}
use Rattle.std.specs.Vec.{vec_capacity}
use Rattle.tally.specs.declared.cells.Cell.{Cell}
use Rattle.tally.specs.declared.cells.TheConstants.{MAX_TOTAL}
use Rattle.tally.specs.Counts.{Counts, HasGreatestRoom, most_cells, count_of, total_of}
use Rattle.tally.specs.Log.{cells_of, IsLog}
use Rattle.tally.proofs.LogCells.{counts_log, total_of-cells_of}
use Rattle.tally.proofs.AddEntries.{append_counts, append_total, append_length, append_log}
use Rattle.tally.proofs.log.Log.append.Goals as goal

pub returns-then-capacity-len-clause-counts : goal.returns-then-capacity-len-clause-counts
returns-then-capacity-len-clause-counts c = rw (← c.self.view_is) (counts_log c.self.invariant)

not_ok : ◌≡◌ {A = Bool} false true → ⊥
not_ok e = cc

-- what was written where there are places
written : (old after more : List Cell) (r : Result (Unit {0}) AllocError) → IsOk r → after ≡ (if is_ok r then more else old) → after ≡ more
written old after more (Ok x) o e = e
written old after more (Err x) o e = absurd (not_ok o)

pub overflow_add-self : goal.overflow_add-self
overflow_add-self c =
    omega (
      arith,
      c.self.invariant.summed,
      c.other.invariant.summed,
      total_of-cells_of c.self.inside.entries.items,
      total_of-cells_of c.other.inside.entries.items,
      ap (λ t. total_of t.cells) c.self.view_is,
      ap (λ t. total_of t.cells) c.other.view_is,
      c.requires.total,
    )

module _ (c : goal.After-self-1) where
  abbrev old : List Cell
  old = c.self.inside.entries.items

  abbrev others : List Cell
  others = c.other.inside.entries.items

  items_are : c.extend_from_slice.new.self.items ≡ old ++ others
  items_are =
      written old _ _ c.extend_from_slice.result
      (c.extend_from_slice.ensures.succeeds
      (omega (arith, c.if-capacity-len.false, c.deref.ensures.len))) c.extend_from_slice.ensures.items
      ∙ ap (λ l. old ++ l) c.deref.ensures.value

  of_other : IsLog c.self.inside.classes c.other.inside.room c.other.inside.total others (vec_capacity c.other.inside.entries)
  of_other =
      subst (λ k. IsLog k c.other.inside.room c.other.inside.total others (vec_capacity c.other.inside.entries))
      (ap (λ t. t.classes) c.other.view_is ∙ sym c.requires.classes ∙ sym (ap (λ t. t.classes) c.self.view_is)) c.other.invariant

  room_is : (c.self.inside.room ≡ most_cells c.self.inside.classes) ⊎
      (length (cells_of old) + length (cells_of others) ≤ c.self.inside.room)
  room_is =
      subst (λ (t : Counts). HasGreatestRoom t ⊎ (length t.cells + length (cells_of others) ≤ t.room)) (sym c.self.view_is)
      (subst (λ (t : Counts). HasGreatestRoom c.args.self.now ⊎ (length c.args.self.now.cells + length t.cells ≤ c.args.self.now.room))
      (sym c.other.view_is) c.requires.room)

pub invariant_of-self : goal.invariant_of-self
invariant_of-self c =
    let i = c.self.inside in
    let b : i.total + c.other.inside.total ≤ MAX_TOTAL = omega (
      arith,
      c.self.invariant.summed,
      c.other.invariant.summed,
      total_of-cells_of i.entries.items,
      total_of-cells_of c.other.inside.entries.items,
      ap (λ t. total_of t.cells) c.self.view_is,
      ap (λ t. total_of t.cells) c.other.view_is,
      c.requires.total,
    ) in
    subst (λ l. IsLog i.classes i.room (i.total + c.other.inside.total) l (vec_capacity c.extend_from_slice.new.self)) (sym (items_are c))
    (append_log c.self.invariant (of_other c) (vec_capacity c.extend_from_slice.new.self) c.extend_from_slice.ensures.capacity
    (room_is c) b)

pub returns-clause-merged : goal.returns-clause-merged
returns-clause-merged c = λ a b.
    ap (λ l. count_of (cells_of l) a b) (items_are c) ∙ append_counts c.self.invariant (of_other c) a b
    ∙ ap₂ ◌+◌ (ap (λ t. count_of t.cells a b) c.self.view_is) (ap (λ t. count_of t.cells a b) c.other.view_is)

pub returns-clause-total : goal.returns-clause-total
returns-clause-total c =
    ap (λ l. total_of (cells_of l)) (items_are c) ∙ append_total c.self.invariant (of_other c)
    ∙ ap₂ ◌+◌ (ap (λ t. total_of t.cells) c.self.view_is) (ap (λ t. total_of t.cells) c.other.view_is)

pub returns-clause-cells : goal.returns-clause-cells
returns-clause-cells c =
    omega (
      arith,
      ap (λ l. length (cells_of l)) (items_are c),
      append_length c.self.invariant (of_other c),
      ap (λ t. length t.cells) c.self.view_is,
      ap (λ t. length t.cells) c.other.view_is,
    )

pub returns-clause-counts : goal.returns-clause-counts
returns-clause-counts c = counts_log (invariant_of-self c)
