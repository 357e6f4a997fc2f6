-- The steps give the level where both tests say that there is one.
use Rattle.std.proofs.Common.{◌≡◌, subst, rules, ap, ◌∙◌, ◌%◌}
use Rattle.std.specs.Prelude.{Some, None, not, ◌&&◌, nat_lt, if◌then◌else◌}
use Rattle.std.specs.Int.{w32}
use Rattle.std.proofs.lemmas.Int.{to_z-of_z}
use Rattle.calibration.specs.Level.{is_missing, reading_of}
use Rattle.calibration.specs.History.{level_in}
use Rattle.calibration.proofs.Class.{shift_fits}
use Rattle.calibration.proofs.Places.{place_is}
use Rattle.calibration.proofs.classifier.Classifier.place.Goals as goal

pub stress_above-requires-clause-shift : goal.stress_above-requires-clause-shift
stress_above-requires-clause-shift c =
    shift_fits c.self.inside.gain c.self.inside.grid c.self.inside.shift c.self.invariant.gain c.self.invariant.grid c.self.invariant.shift

pub returns : goal.returns
returns c =
    subst (λ v. level_in (reading_of v.gain v.grid c.args.raw) ≡ (if nat_lt c.cast_unsigned-above.result c.self.inside.limit &&
    not c.is_missing.result then Some (c.divide-class.result % 65536) else None)) c.self.view_is
    (place_is c.self.inside.gain c.self.inside.grid c.args.raw c.self.inside.shift _ c.stress_above.result _ c.self.inside.limit
    c.self.inside.scale
    c.self.inside.multiplier c.divide-class.result c.is_missing.result c.self.invariant.gain c.self.invariant.grid c.ranges.raw
    (c.is_missing.ensures ∙ ap is_missing (to_z-of_z w32 c.args.raw c.ranges.raw))
    c.self.invariant.shift c.self.invariant.limit c.self.invariant.scale c.self.invariant.multiplier
    c.num.ensures.value c.stress_above.ensures (search rules) c.cast_unsigned-above.ensures c.divide-class.ensures)
