use Rattle.std.proofs.Common.{◌+◌, ◌∙◌, ap, get_or, rules}
use Rattle.std.specs.Prelude.{pos}
use Rattle.std.specs.Int.{w32}
use Rattle.std.proofs.lemmas.Int.{to_z-of_z}
use Rattle.calibration.proofs.Places.{missing_more}
use mir.Val.{bool_byte}
use Rattle.calibration.proofs.classifier.Classifier.missing_among.Goals as goal

pub loop-raw-preserved : goal.loop-raw-preserved
loop-raw-preserved c =
    let raws = c.args.raws.now in
    let i = c.loop-raw.raw-index in
    let raw = to_z-of_z w32 (get_or raws i (pos 0)) (search rules) in
    record {
      missing = ap (λ b. c.loop-raw.missing + bool_byte b) c.is_missing.ensures ∙ missing_more c.args.self.now.gain c.args.self.now.grid
          raws i (pos 0) _ c.loop-raw.missing c.loop-raw-test.true raw c.loop-raw.invariant.missing;
    }
