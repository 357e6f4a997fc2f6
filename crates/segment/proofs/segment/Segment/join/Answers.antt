use Rattle.std.proofs.Common.{ap, sym, ◌∙◌}
use Rattle.calibration.specs.History.{history}
use Rattle.segment.proofs.Standing.{stands_append}
use Rattle.segment.proofs.segment.Segment.join.Goals as goal

pub returns-clause-stands : goal.returns-clause-stands
returns-clause-stands c = λ gain g h a b.
    let n = sym (ap (λ v. v.to) c.self.view_is) ∙ c.if-self-right-2.false ∙ ap (λ v. v.from) c.right.view_is in
    let e = c.append.ensures in
    let v = c.args.self.now in
    let w = c.args.right.now in
    stands_append v w c.append.new.self gain g h a b c.requires.grid n e.start.0 e.start.2 e.end e.readings.1 e.readings.2
    (e.histories (history v.grid gain g) (history w.grid gain h))
