-- A value outside the bounds has no level.
use Rattle.std.proofs.Common.{◌≡◌, get_or, refl, rules, subst}
use Rattle.std.specs.Prelude.{pos, None, FitsSigned}
use Rattle.std.specs.Int.{w32}
use Rattle.std.proofs.lemmas.Int.{to_z-of_z}
use Rattle.calibration.specs.Level.{reading_of}
use Rattle.calibration.specs.History.{level_in}
use Rattle.calibration.proofs.Bounds.{no_level_more, none_within}
use Rattle.calibration.proofs.classifier.Classifier.has_some_within.Goals as goal

pub loop-raw-preserved : goal.loop-raw-preserved
loop-raw-preserved c =
    let raws = c.args.raws.now in
    let raw = get_or raws c.loop-raw.raw-index (pos 0) in
    let fits : FitsSigned w32 raw = search rules in
    let bounds = c.self.inside.bounds in
    record {
      some = λ e.
          let (none, out) = none_within c.loop-raw.some bounds.first raw bounds.last _ _ _ (to_z-of_z w32 bounds.first (search rules))
          (to_z-of_z w32 raw fits) (to_z-of_z w32 bounds.last (search rules)) e in
          no_level_more c.args.self.now.gain c.args.self.now.grid raws c.loop-raw.raw-index (pos 0) raw c.loop-raw-test.true refl
          (subst (λ v. level_in (reading_of v.gain v.grid raw) ≡ None) c.self.view_is (c.self.invariant.bounds raw fits out))
          (c.loop-raw.invariant.some none);
    }
