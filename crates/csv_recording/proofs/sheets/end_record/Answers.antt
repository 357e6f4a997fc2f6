use Rattle.std.proofs.Common.{◌≡◌, false, rules}
use Rattle.std.specs.Result.{is_err}
use Rattle.csv.proofs.ReadFacts.{on-ok}
use Rattle.csv_recording.proofs.Writing.{record_done}
use Rattle.csv_recording.proofs.sheets.end_record.Goals as goal

pub returns : goal.returns
returns c text fields h =
    let went = c.end_record.ensures in
    let good : is_err c.end_record.result ≡ false = search rules in
    record_done _ _ text fields (record {
      bytes = on-ok _ good went.bytes;
      fields = on-ok _ good went.fields;
      wrote = on-ok _ good went.wrote;
      same = on-ok _ good went.same;
    }) h
