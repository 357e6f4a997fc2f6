use Rattle.std.proofs.Common.{◌∙◌, ap, subst, rules}
use Rattle.tally.specs.Counts.{Counts}
use Rattle.recount.proofs.Differences.{differs, used_first, missing_first, refused_first, CellsAnswer, cells_compared}
use Rattle.recount.specs.declared.compare.What.TheVariants.{Used, Missing, Refused}
use Rattle.recount.proofs.compare.first_difference.Goals as goal

pub returns-then-used-found : goal.returns-then-used-found
returns-then-used-found c = λ gain w is.
    used_first _ _ gain w is _ (c.some_difference.ensures ∙ ap
    (λ n. differs Used n c.args.recount.now.counts.used) c.used-then-used-found.ensures) (search rules)

pub returns-then-missing-found : goal.returns-then-missing-found
returns-then-missing-found c = λ gain w is.
    missing_first _ _ gain w is _ (c.some_difference-then-missing-found.ensures ∙ ap
    (λ n. differs Missing n c.args.recount.now.counts.missing) c.missing-then-missing-found.ensures) (search rules) (search rules)

pub returns-then-refused-found : goal.returns-then-refused-found
returns-then-refused-found c = λ gain w is.
    refused_first _ _ gain w is _ (c.some_difference-then-refused-found.ensures ∙ ap
    (λ n. differs Refused n c.args.recount.now.counts.refused) c.refused-then-refused-found.ensures) (search rules) (search rules)
    (search rules)

pub returns : goal.returns
returns c = λ gain w is.
    cells_compared c.args.segment.now c.args.recount.now gain w is (search rules) (search rules) (search rules) c.first_other_cell.result
    (subst (λ (t : Counts). CellsAnswer c.args.segment.now t c.first_other_cell.result) c.tally.ensures c.first_other_cell.ensures)
