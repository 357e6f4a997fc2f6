use Rattle.std.proofs.Common.{◌++◌, ◌∷◌, [], ap, sym, subst, ◌∙◌}
use mir.Syntax.{w32}
use Rattle.std.proofs.lemmas.Int.{to_z-of_z}
use Rattle.calibration.specs.Level.{reading_of}
use Rattle.calibration.specs.History.{history}
use Rattle.segment.specs.Segment.{Stands}
use Rattle.segment.proofs.Standing.{stands_missing, stands_refused, stands_level}
use Rattle.segment.proofs.segment.Segment.take.Goals as goal

pub returns-in-Missing-clause-stands : goal.returns-in-Missing-clause-stands
returns-in-Missing-clause-stands c = λ w a.
    let e = simp c.reading.ensures.unchanged at c.skip_missing.ensures in
    let before = subst (λ v. Stands v c.args.gain.now w) (sym c.self.view_is) a in
    subst (λ v. Stands v c.args.gain.now (w ++ (c.args.raw ∷ []))) (sym e)
    (stands_missing _ c.args.gain.now c.args.raw w before (sym (c.reading.ensures.value
    ∙ ap (reading_of c.args.gain.now c.self.inside.grid) (to_z-of_z w32 c.args.raw c.ranges.raw)) ∙ c.in-Missing.is))

pub returns-in-Refused-clause-stands : goal.returns-in-Refused-clause-stands
returns-in-Refused-clause-stands c = λ w a.
    let e = simp c.reading.ensures.unchanged at c.skip_refused.ensures in
    let before = subst (λ v. Stands v c.args.gain.now w) (sym c.self.view_is) a in
    subst (λ v. Stands v c.args.gain.now (w ++ (c.args.raw ∷ []))) (sym e)
    (stands_refused _ c.args.gain.now c.args.raw w before (sym (c.reading.ensures.value
    ∙ ap (reading_of c.args.gain.now c.self.inside.grid) (to_z-of_z w32 c.args.raw c.ranges.raw)) ∙ c.in-Refused.is))

pub returns-in-Level-clause-stands : goal.returns-in-Level-clause-stands
returns-in-Level-clause-stands c = λ w a.
    let e = simp c.reading.ensures.unchanged at c.take_level.ensures in
    let before = subst (λ v. Stands v c.args.gain.now w) (sym c.self.view_is) a in
    stands_level _ c.args.gain.now c.args.raw w before c.take_level.new.self c.in-Level.level
    (sym (c.reading.ensures.value ∙ ap (reading_of c.args.gain.now c.self.inside.grid) (to_z-of_z w32 c.args.raw c.ranges.raw))
    ∙ c.in-Level.is) e.start.0 e.start.2 e.end e.missing e.refused (e.histories (history c.self.inside.grid c.args.gain.now w))
