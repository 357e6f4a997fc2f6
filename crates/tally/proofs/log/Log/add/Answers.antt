use Rattle.std.proofs.Common.{ℕ, ◌≡◌, ◌+◌, ◌<◌, ◌≤◌, ◌⊎◌, ◌∙◌, List, [], ◌∷◌, ◌++◌, sym, ap, subst, length, arith}
use Rattle.tally.specs.declared.cells.TheConstants.{MAX_TOTAL}
use Rattle.tally.specs.declared.cells.Cell.{Cell}
use Rattle.tally.specs.Counts.{Counts, HasPlace, count_of, total_of}
use Rattle.tally.specs.Log.{cells_of}
use Rattle.tally.proofs.RowTables.{one_of}
use Rattle.tally.proofs.Equal.{cell_of}
use Rattle.tally.proofs.Ascending.{place_of_pair}
use Rattle.tally.proofs.LogCells.{counts_log, log_more, log_count, log_total, log_length, total_of-cells_of}
use Rattle.tally.proofs.log.Log.add.Goals as goal

module _ (c : goal.After-push_reserved) where
  abbrev old : List Cell
  old = c.self.inside.entries.items

  abbrev now : List Cell
  now = c.make_place.new.entries.items

  within : c.args.hi < c.self.inside.classes
  within = omega (arith, ap (λ t. t.classes) c.self.view_is)

  free : (c.args.n ≡ 0) ⊎ ((0 < count_of (cells_of old) c.args.lo c.args.hi) ⊎ (length (cells_of old) < c.self.inside.room))
  free =
      let t : Counts = record { classes = c.self.inside.classes; room = c.self.inside.room; cells = cells_of old } in
      place_of_pair t c.args.lo c.args.hi c.args.n (counts_log c.self.invariant) c.requires.ordered within
      (subst (λ (t : Counts). HasPlace t c.args.lo c.args.hi c.args.n) (sym c.self.view_is) c.requires.room)

  items_are : c.push_reserved.new.self.items ≡ now ++ cell_of c.args.lo c.args.hi c.args.n ∷ []
  items_are = c.push_reserved.ensures.items

pub invariant_of-self : goal.invariant_of-self
invariant_of-self c =
    let i = c.self.inside in
    let b : i.total + c.args.n ≤ MAX_TOTAL = omega
    (arith, c.self.invariant.summed, total_of-cells_of i.entries.items, ap (λ t. total_of t.cells) c.self.view_is, c.requires.total) in
    rw (items_are c)
    (log_more c.args.lo c.args.hi c.args.n c.self.invariant c.make_place.ensures.entries c.requires.ordered (within c) c.if-n-gt0.true
    (free c) _
    (omega (arith, c.push_reserved.ensures.capacity, c.make_place.ensures.capacity)) b)

pub returns-then-n-gt0-clause-added : goal.returns-then-n-gt0-clause-added
returns-then-n-gt0-clause-added c =
    subst (λ l. (a b : ℕ) → count_of (cells_of l) a b ≡ count_of c.args.self.now.cells a b + one_of a b c.args.lo c.args.hi c.args.n)
    (sym (items_are c))
    (subst (λ t. (a b : ℕ) →
    count_of (cells_of
    (now c ++ cell_of c.args.lo c.args.hi c.args.n ∷ [])) a b ≡ count_of t.cells a b + one_of a b c.args.lo c.args.hi c.args.n)
    c.self.view_is
    (log_count c.args.lo c.args.hi c.args.n c.self.invariant c.make_place.ensures.entries c.requires.ordered (within c) c.if-n-gt0.true
    (free c)))

pub returns-then-n-gt0-clause-total : goal.returns-then-n-gt0-clause-total
returns-then-n-gt0-clause-total c =
    ap (λ l. total_of (cells_of l)) (items_are c)
    ∙ log_total c.args.lo c.args.hi c.args.n c.self.invariant c.make_place.ensures.entries c.requires.ordered (within c) c.if-n-gt0.true
    (free c)
    ∙ ap (λ t. total_of t.cells + c.args.n) c.self.view_is

pub returns-then-n-gt0-clause-cells : goal.returns-then-n-gt0-clause-cells
returns-then-n-gt0-clause-cells c =
    let p = log_length c.args.lo c.args.hi c.args.n c.self.invariant c.make_place.ensures.entries c.requires.ordered
    (within c) c.if-n-gt0.true (free c) in
    omega (arith, p, ap (λ l. length (cells_of l)) (items_are c), ap (λ t. length t.cells) c.self.view_is)

pub returns-then-n-gt0-clause-counts : goal.returns-then-n-gt0-clause-counts
returns-then-n-gt0-clause-counts c = counts_log (invariant_of-self c)

pub returns-else-n-gt0-clause-counts : goal.returns-else-n-gt0-clause-counts
returns-else-n-gt0-clause-counts c = counts_log c.self.invariant

pub overflow_add-self : goal.overflow_add-self
overflow_add-self c =
    let i = c.self.inside in
    omega (arith, c.self.invariant.summed, total_of-cells_of i.entries.items, ap (λ t. total_of t.cells) c.self.view_is, c.requires.total)
