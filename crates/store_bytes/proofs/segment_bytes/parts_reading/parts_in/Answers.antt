use Rattle.std.proofs.Common.{subst}
use Rattle.segment.specs.segment_rules.Parts.{parts_value}
use Rattle.store_bytes.specs.segment_bytes.Fields.{Gives}
use Rattle.store_bytes.proofs.on_segment_bytes.RowReading.{parts_again}
use Rattle.store_bytes.proofs.segment_bytes.parts_reading.parts_in.Goals as goal

pub returns-in-Two : goal.returns-in-Two
returns-in-Two c = rw c.in-Two.is (subst (λ read. Gives parts_value c.parts_of_rows.result read)
    (parts_again c.args.grid.now c.args.bytes.now) c.parts_of_rows.ensures)
