use Rattle.std.proofs.Common.{◌≡◌, ◌∷◌, ℤ, Err, FitsSigned, w32, Global, Ok, Vec, rules, subst, sym, vec_len}
use Rattle.std.proofs.lemmas.Int.{to_z-of_z}
use Rattle.csv.specs.Records.{fields_of}
use Rattle.csv_recording.specs.Column.{GivesColumn, column_of, sample_of_row}
use Rattle.csv_recording.specs.Rows.{rows_left}
use Rattle.csv_recording.proofs.ColumnFacts.{asks-end, asks-fault, asks-sample, gives-fault}
use Rattle.csv_recording.proofs.columns.column.Goals as goal

pub returns-in_err-sample : goal.returns-in_err-sample
returns-in_err-sample c =
    let asked = column_of c.args.name.now c.args.bytes.now in
    let fault = c.in_err-sample.field-0.0 in
    let row = vec_len c.rows.samples in
    let fields = fields_of c.next_row-in-rows.new.row in
    let is : c.from_residual-in_err-sample.result ≡ Err fault = search rules in
    let faulty : sample_of_row c.in-Some.place row fields ≡ Err fault = search rules in
    let given : asked ≡ Err fault = asks-fault asked c.rows.samples.items c.in-Some.place row (rows_left c.rows.reader)
    (rows_left c.next_row-in-rows.new.reader) fields c.in_ok-next_row-2.field-0 fault c.if-branch.true c.in_ok-next_row-2.ensures.rows
    c.rows.invariant.asks faulty in
    subst (λ r. GivesColumn (λ (samples : Vec ℤ Global). samples.items) r asked) (sym is)
    (gives-fault (λ (samples : Vec ℤ Global). samples.items) fault asked given)

pub rows-preserved : goal.rows-preserved
rows-preserved c =
    let asked = column_of c.args.name.now c.args.bytes.now in
    let row = vec_len c.rows.samples in
    let fields = fields_of c.next_row-in-rows.new.row in
    let read : sample_of_row c.in-Some.place row fields ≡ Ok c.in_ok-sample.sample = search rules in
    let next = asks-sample asked c.rows.samples.items c.in-Some.place row (rows_left c.rows.reader)
    (rows_left c.next_row-in-rows.new.reader) fields c.in_ok-next_row-2.field-0 c.in_ok-sample.sample c.if-branch.true
    c.in_ok-next_row-2.ensures.rows c.rows.invariant.asks read in
    let fits : FitsSigned w32 c.in_ok-sample.sample = search rules in
    record {
      plain = rw c.if-branch.true at c.in_ok-next_row-2.ensures.plain;
      asks = rw (c.in_ok-push.ensures.items, c.in_ok-push.ensures.len, to_z-of_z w32 c.in_ok-sample.sample fits) next;
    }

pub returns : goal.returns
returns c =
    asks-end (column_of c.args.name.now c.args.bytes.now) c.rows.samples.items c.in-Some.place (vec_len c.rows.samples)
    (rows_left c.rows.reader) (fields_of c.next_row-in-rows.new.row ∷ rows_left c.next_row-in-rows.new.reader)
    c.in_ok-next_row-2.field-0
    c.if-branch.false c.in_ok-next_row-2.ensures.rows c.rows.invariant.asks
