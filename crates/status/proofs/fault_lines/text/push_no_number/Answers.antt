use Rattle.std.proofs.Common.{ℕ, List, ◌++◌, codes, ap, ◌∙◌, append_assoc}
use Rattle.std.specs.Fmt.{decimal}
use Rattle.status.specs.line_room.Room.{with_text}
use Rattle.status.proofs.fault_lines.text.push_no_number.Goals as goal

pub returns : goal.returns
returns c =
    let row : List ℕ = codes "row " ++ decimal c.args.row in
    c.push.ensures ∙ (ap (λ l. with_text l (codes " is no number")) c.push_row.ensures
    ∙ ap (λ (b : List ℕ). record c.args.line.now { bytes = b }) (append_assoc c.args.line.now.bytes row (codes " is no number")))
