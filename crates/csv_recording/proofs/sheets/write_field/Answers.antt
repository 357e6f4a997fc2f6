use Rattle.std.proofs.Common.{◌≡◌, false, rules}
use Rattle.std.specs.Result.{is_err}
use Rattle.csv.proofs.ReadFacts.{on-ok}
use Rattle.csv_recording.proofs.Writing.{field_more}
use Rattle.csv_recording.proofs.sheets.write_field.Goals as goal

pub returns : goal.returns
returns c text fields few h =
    let went = c.write_field.ensures in
    let good : is_err c.write_field.result ≡ false = search rules in
    field_more _ _ text fields c.args.field.now few (record {
      text = on-ok _ good went.text;
      same = on-ok _ good went.same;
      count = on-ok _ good went.count;
      wrote = on-ok _ good went.wrote;
      stays = on-ok _ good went.stays;
    }) h
