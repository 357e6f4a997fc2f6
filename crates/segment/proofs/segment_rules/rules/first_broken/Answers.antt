use Rattle.segment.specs.segment_rules.Parts.{parts_value}
use Rattle.segment.proofs.on_segment_rules.Broken.{none_exactly}
use Rattle.segment.proofs.segment_rules.rules.first_broken.Goals as goal

pub returns-clause-segment : goal.returns-clause-segment
returns-clause-segment c = none_exactly c.args.grid.now (parts_value c.args.parts.now) c.first_wrong.result c.first_wrong.ensures
