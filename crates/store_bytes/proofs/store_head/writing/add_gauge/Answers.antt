use Rattle.std.proofs.Common.{◌++◌, List, ℕ, ap, ◌∙◌, append_assoc}
use Rattle.store_bytes.proofs.store_head.writing.add_gauge.Goals as goal

pub returns-clause-items : goal.returns-clause-items
returns-clause-items c =
    c.in_ok-extend_from_slice-2.ensures.items ∙ ap (λ (l : List ℕ). l ++ c.numbers_of.result) c.in_ok-extend_from_slice.ensures.items
    ∙ append_assoc c.args.bytes.now.items c.args.head.now.id c.numbers_of.result
    ∙ ap (λ (l : List ℕ). c.args.bytes.now.items ++ (c.args.head.now.id ++ l)) c.numbers_of.ensures.bytes
