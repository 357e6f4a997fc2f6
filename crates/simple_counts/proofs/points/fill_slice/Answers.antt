use Rattle.std.proofs.Common.{◌∙◌, refl, ap, arith, length, length-set}
use Rattle.turning_points.proofs.Over.{zig_own}
use Rattle.tally.specs.tables.Tables.{raise}
use Rattle.simple_counts.proofs.OfPoints.{ranges_none, ranges_more, ranges_all, few_ranges}
use Rattle.simple_counts.proofs.points.fill_slice.Goals as goal

pub loop-i-init : goal.loop-i-init
loop-i-init c = record {
  fills = ranges_none _ c.args.list.now c.args.decided.now (zig_own _ c.requires.own) c.requires.below c.requires.classes refl
      c.requires.decided;
  length_same = refl;
}

pub loop-i-preserved : goal.loop-i-preserved
loop-i-preserved c =
    let d = c.loop-i.decided in
    let e = c.raise.ensures ∙ ap (raise d) c.range.ensures in
    record {
      fills = ranges_more _ c.args.list.now d c.raise.new.table c.loop-i.i (zig_own _ c.requires.own) c.requires.below c.requires.few
          (omega arith) (omega arith) c.loop-i.invariant.fills e;
      length_same = ap length c.raise.ensures ∙ length-set d _ _ ∙ c.loop-i.invariant.length_same;
    }

pub returns-clause-ranges : goal.returns-clause-ranges
returns-clause-ranges c = ranges_all _ c.args.list.now c.loop-i.decided c.loop-i.i c.requires.own c.loop-i.invariant.fills (omega arith)

pub raise-requires-clause-room : goal.raise-requires-clause-room
raise-requires-clause-room c = omega (
  arith,
  few_ranges _ c.args.list.now c.loop-i.decided c.loop-i.i c.range.result c.requires.classes
      c.loop-i.invariant.fills,
)
