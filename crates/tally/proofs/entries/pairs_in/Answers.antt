use Rattle.std.proofs.Common.{◌≡◌, ◌<◌, ◌≤◌, ◌+◌, ◌∙◌, ◌⊎◌, inl, inr, ℕ, refl, ap, sym, subst, length, get_or, arith}
use Rattle.std.specs.Prelude.{Some, None, Option}
use Rattle.std.proofs.lemmas.Bool.{cases_lt}
use Rattle.calibration.specs.declared.grid.TheConstants.{MAX_CLASSES}
use Rattle.tally.specs.declared.cells.Cell.{Cell}
use Rattle.tally.specs.Counts.{IsCell}
use Rattle.tally.specs.Log.{cells_of}
use Rattle.tally.proofs.Equal.{cell_of}
use Rattle.tally.proofs.LogCells.{each-cells_of, ascending-cells_of, length-cells_of, find_none}
use Rattle.tally.proofs.AddEntries.{found_first, found_next, found_last}
use Rattle.tally.proofs.entries.pairs_in.Goals as goal
use Rattle.tally.proofs.entries.pairs_in.Goals.{in-Some, in_default}
use Rattle.lemmas.proofs.Outcomes.{same_some}

pub loop-init : goal.loop-init
loop-init c =
    let g = cells_of c.args.entries.now in
    record {
      bound = omega arith;
      each = inl refl;
      from = λ d h. c.first_in-next.ensures ∙ found_first g d h;
      last = λ e. c.first_in-next.ensures ∙ find_none 0 0 g e;
    }

counted : (p n i q : ℕ) → (p ≡ i) ⊎ (p ≡ n) → (p ≡ n → ⊥) → q ≡ p + 1 → q ≡ i + 1
counted p n i q (inl e) h f = omega arith
counted p n i q (inr e) h f = absurd (h e)

not_less_by : (p n : ℕ) → (p < n → ⊥) → ((p < n) ⊎ (n ≤ p)) → n ≤ p
not_less_by p n h (inl g) = absurd (h g)
not_less_by p n h (inr g) = g

not_less : (p n : ℕ) → (p < n → ⊥) → n ≤ p
not_less p n h = not_less_by p n h (cases_lt p n)

less_by : (p n : ℕ) → (p ≡ n → ⊥) → p ≤ n → ((p < n) ⊎ (n ≤ p)) → p < n
less_by p n h b (inl g) = g
less_by p n h b (inr g) = absurd (h (omega arith))

less : (p n : ℕ) → (p ≡ n → ⊥) → p ≤ n → p < n
less p n h b = less_by p n h b (cases_lt p n)

ended : (p n i : ℕ) → (p ≡ i) ⊎ (p ≡ n) → n ≤ i → p ≤ n → p ≡ n
ended p n i (inl e) h b = omega arith
ended p n i (inr e) h b = e

some_none : (c : Cell) (o : Option Cell) → o ≡ Some c → o ≡ None → ⊥
some_none c o e f = cc

pub overflow_add-cell : goal.overflow_add-cell
overflow_add-cell c =
    let g = cells_of c.args.entries.now in
    let n_last : c.loop.pairs ≡ length g → ⊥ = λ e. some_none c.in-Some.cell c.loop.next c.in-Some.is (c.loop.invariant.last e) in
    let w : c.loop.pairs < length g = less c.loop.pairs (length g) (n_last) c.loop.invariant.bound in
    let e = same_some c.in-Some.is (c.loop.invariant.from c.in-Some.cell w) in
    let h = (subst (IsCell MAX_CLASSES) (sym e)
    (each-cells_of MAX_CLASSES c.args.entries.now c.requires.each c.loop.pairs c.in-Some.cell w)).within in
    omega (arith, h)

pub loop-preserved : goal.loop-preserved
loop-preserved c =
    let es = c.args.entries.now in
    let g = cells_of es in
    let v = c.loop.invariant in
    let p = c.loop.pairs in
    let a = ascending-cells_of es in
    elim c.match-next.branch [
      | in-Some x ↦
          let cell = x.in-Some.cell in
          let n : p ≡ length g → ⊥ = λ e. some_none cell c.loop.next x.in-Some.is (v.last e) in
          let w : p < length g = less p (length g) n v.bound in
          let e : cell ≡ get_or g p cell = same_some x.in-Some.is (v.from cell w) in
          record {
            bound = omega (arith, x.pairs-is);
            each = inl (counted p (length g) c.loop.counter c.match-next.pairs v.each n x.pairs-is);
            from = λ d h. x.next-is ∙ x.first_in-next-in-Some.ensures ∙ found_next g p cell d a w e (omega (arith, h, x.pairs-is))
                ∙ ap (λ k. Some (get_or g k d)) (sym x.pairs-is);
            last = λ h. x.next-is ∙ x.first_in-next-in-Some.ensures ∙ found_last g p cell a w e (omega (arith, h, x.pairs-is));
          }
      | in_default x ↦
          let w : length g ≤ p =
          (not_less p (length g) (λ h. x.in_default.not-Some (get_or g p (cell_of 0 0 0)) (v.from (cell_of 0 0 0) h))) in
          record {
            bound = omega (arith, x.pairs-is, v.bound);
            each = inr (omega (arith, x.pairs-is, v.bound, w));
            from = λ d h. absurd (omega (arith, h, x.pairs-is, w));
            last = λ h. x.next-is ∙ v.last (sym x.pairs-is ∙ h);
          }
    ]

pub returns : goal.returns
returns c =
    let v = c.loop.invariant in
    ended c.loop.pairs (length (cells_of c.args.entries.now)) c.loop.counter v.each
    (omega (arith, c.loop-test.false, length-cells_of c.args.entries.now)) v.bound
