use Rattle.csv.specs.Records.{fields_of}
use Rattle.csv_recording.proofs.RowFacts.{After, after_read}
use Rattle.csv_recording.proofs.rows.next_row.Goals as goal

after : (c : goal.In-Ok) → After c.args.reader.now c.read_byte_record.new.self c.in-Ok.found (fields_of c.read_byte_record.new.row)
after c =
    let plain = c.requires.plain in
    after_read c.args.reader.now c.read_byte_record.new.self c.in-Ok.found (fields_of c.read_byte_record.new.row) plain
    (c.in-Ok.ensures.ready plain.trim) (c.in-Ok.ensures.reads plain.trim plain.ready)

pub returns-clause-rows : goal.returns-clause-rows
returns-clause-rows c = (after c).rows

pub returns-clause-plain : goal.returns-clause-plain
returns-clause-plain c = (after c).plain

pub returns-clause-shorter : goal.returns-clause-shorter
returns-clause-shorter c = (after c).shorter
