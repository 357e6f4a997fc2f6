use Rattle.segment.proofs.on_segment_rules.Residues.{residue_test}
use Rattle.segment.proofs.segment_rules.rules.first_wrong.Goals as goal

pub first_wrong_end-requires : goal.first_wrong_end-requires
first_wrong_end-requires c = residue_test c.args.has_residue c.args.grid.now.classes c.args.parts.now.residue c.requires
