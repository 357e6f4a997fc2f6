use Rattle.std.proofs.Common.{◌∙◌, ◌+◌, sym, ap, arith}
use Rattle.std.specs.Prelude.{slice_index}
use Rattle.tally.specs.Counts.{count_of}
use Rattle.tally.specs.Layout.{place_of}
use Rattle.tally.proofs.Walk.{count_is}
use Rattle.tally.proofs.dense.Dense.write_row.Goals as goal

pub returns : goal.returns
returns c =
    let i = c.self.inside in
    λ k h.
    let row = ap (λ t. t.classes) c.self.view_is in
    c.write_row.ensures k h ∙ ap (λ t. slice_index t (place_of i.classes c.args.lo (c.args.lo + 1 + k))) c.deref.ensures.value
    ∙ sym (count_is i.classes c.args.lo (c.args.lo + 1 + k) i.counts.items (omega arith)
    (omega (arith, row, c.requires, h, c.write_row.auto.out)))
    ∙ ap (λ t. count_of t.cells c.args.lo (c.args.lo + 1 + k)) c.self.view_is
