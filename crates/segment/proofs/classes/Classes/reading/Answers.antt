use Rattle.std.proofs.Common.{◌≡◌, ap, sym, ◌∙◌}
use Rattle.std.proofs.lemmas.Bool.{and_parts}
use Rattle.std.proofs.lemmas.Bool.Decides.{Decides-eqb, Decides-int_eq}
use Rattle.std.proofs.lemmas.Int.{to_z-of_z}
use mir.Syntax.{w32}
use Rattle.calibration.specs.Gain.{GainValue}
use Rattle.calibration.specs.Level.{reading_of}
use Rattle.segment.proofs.classes.Classes.reading.Goals as goal

same_gain : (g h : GainValue) → g.num ≡ h.num → g.den ≡ h.den → g.offset ≡ h.offset → g ≡ h
same_gain g h num den offset =
    ap (λ n. record { num = n; den = g.den; offset = g.offset }) num
    ∙ ap (λ d. record { num = h.num; den = d; offset = g.offset }) den
    ∙ ap (λ o. record { num = h.num; den = h.den; offset = o }) offset

pub returns-clause-value : goal.returns-clause-value
returns-clause-value c =
    let last = c.in-Some.last in
    let gain = c.args.gain.now in
    let e = c.self.invariant last c.in-Some.is in
    let all = and_parts _ _ (sym c.eq.ensures ∙ c.if-eq.true) in
    let rest = and_parts _ _ all.1 in
    let same : last.gain ≡ gain = same_gain last.gain gain ((Decides-int_eq _ _).0 all.0) ((Decides-eqb _ _).0 rest.0)
    ((Decides-int_eq _ _).0 rest.1) in
    c.level.ensures
    ∙ ap (reading_of last.classifier.gain last.classifier.grid) (to_z-of_z w32 c.args.raw c.ranges.raw)
    ∙ ap (λ classifier. reading_of classifier.gain classifier.grid c.args.raw) e
    ∙ ap (λ g. reading_of g c.self.inside.grid c.args.raw) same
    ∙ ap (λ grid. reading_of gain grid c.args.raw) c.self.view_is
