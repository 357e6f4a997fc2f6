use Rattle.std.proofs.Common.{sym, ap, ◌∙◌, arith}
use Rattle.calibration.specs.History.{history}
use Rattle.segment.proofs.OfPoints.{points_below}
use Rattle.segment.proofs.Standing.{block_stands}
use Rattle.segment.proofs.segment.Segment.count_block.Goals as goal
use Rattle.turning_points.proofs.Levels.{points_own}

pub take_block-requires-clause-own : goal.take_block-requires-clause-own
take_block-requires-clause-own c =
    points_own (history c.args.classifier.now.grid c.args.classifier.now.gain c.args.raws.now) _ c.points_in-block.ensures.points

pub take_block-requires-clause-below : goal.take_block-requires-clause-below
take_block-requires-clause-below c = points_below c.args.classifier.now.grid c.args.classifier.now.gain c.args.raws.now _ _
    c.points_in-block.ensures.points (ap (λ g. g.classes) c.requires.grid)

pub take_block-requires-clause-room : goal.take_block-requires-clause-room
take_block-requires-clause-room c = omega (arith, c.points_in-block.ensures.sum, c.requires.room)

pub take_block-requires-clause-longest : goal.take_block-requires-clause-longest
take_block-requires-clause-longest c = omega (arith, c.points_in-block.ensures.sum, c.requires.longest)

pub returns-clause-stands : goal.returns-clause-stands
returns-clause-stands c =
    let e = c.take_block.ensures in
    let p = c.points_in-block.ensures in
    let h = history c.args.classifier.now.grid c.args.classifier.now.gain c.args.raws.now in
    block_stands c.take_block.new.self c.args.classifier.now.grid c.args.classifier.now.gain c.args.raws.now
    (e.start.0 ∙ sym c.requires.grid) (omega (arith, e.end, e.start.2, p.sum)) (e.missing ∙ p.missing) (e.refused ∙ p.refused)
    (e.histories h (sym p.points) p.used)
