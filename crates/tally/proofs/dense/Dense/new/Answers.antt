use Rattle.std.proofs.Common.{ℕ, ◌+◌, ◌-◌, ◌*◌, ◌/◌, ◌∙◌, arith}
use Rattle.std.specs.Prelude.{replicate}
use Rattle.std.proofs.lemmas.List.{length-replicate}
use Rattle.lemmas.proofs.Lists.{get_or-zeros}
use Rattle.tally.proofs.Places.{places_is}
use Rattle.tally.proofs.RowTables.{layout_empty, counts_empty}
use Rattle.tally.proofs.dense.Dense.new.Goals as goal

pub invariant_of-result : goal.invariant_of-result
invariant_of-result c =
    let k = c.args.classes in
    let n = k * (k - 1) / 2 in
    let e = c.in_ok-vec.ensures.items_if_clones_equal (λ y h. h) in
    let f = c.in_ok-vec-2.ensures.items_if_clones_equal (λ y h. h) in
    let l = length-replicate {A = ℕ} n 0 in
    rw (e, f)
    (layout_empty k c.args.room (replicate {A = ℕ} n 0) (replicate {A = ℕ} (c.args.room + 1) 0) c.requires.0 c.requires.1.0
    (l ∙ places_is k (omega arith)) (omega (arith, l)) (length-replicate {A = ℕ} (c.args.room + 1) 0) (get_or-zeros n))

pub returns : goal.returns
returns c =
    let k = c.args.classes in
    let e = c.in_ok-vec.ensures.items_if_clones_equal (λ y h. h) in
    record { empty = counts_empty k c.args.room c.in_ok-vec.field-0.items (rw e (get_or-zeros (k * (k - 1) / 2))) }
