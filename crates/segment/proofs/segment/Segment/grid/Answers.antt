use Rattle.segment.proofs.PartsRules.{parts_kept_by}
use Rattle.segment.proofs.segment.Segment.grid.Goals as goal

pub returns-clause-parts : goal.returns-clause-parts
returns-clause-parts c = parts_kept_by _ _ c.self.view_is c.self.invariant c.classes-classes.ensures.counts
