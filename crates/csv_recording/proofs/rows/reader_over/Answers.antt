use Rattle.std.proofs.Common.{◌≡◌, ℕ, List, [], Option, unwrap_or, ap, refl}
use Rattle.csv.specs.Reading.{strip_bom}
use Rattle.csv_recording.specs.Rows.{rows_left, text_left}
use Rattle.csv_recording.proofs.rows.reader_over.Goals as goal

pub returns-clause-rows : goal.returns-clause-rows
unfolding rows_left
returns-clause-rows c =
    let text : text_left c.from_reader.result ≡ strip_bom c.args.text.now =
    ap (λ (o : Option (List ℕ)). unwrap_or o []) c.from_reader.ensures.source in
    rw (text, c.from_reader.ensures.state) refl
