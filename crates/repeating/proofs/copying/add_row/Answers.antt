use Rattle.std.proofs.Common.{◌≡◌, ◌+◌, ◌≤◌, ◌^◌, ℕ, refl, ap, ◌∙◌, arith}
use Rattle.tally.specs.Counts.{count_of}
use Rattle.segment.specs.Segment.{SegmentValue, IsSegment}
use Rattle.segment.proofs.HalfUnits.{count_few}
use Rattle.repeating.proofs.CopiedRows.{row_begun, row_more, row_ended}
use Rattle.repeating.proofs.copying.add_row.Goals as goal

pub loop-n-init : goal.loop-n-init
loop-n-init c =
    let v = c.args.segment.now in
    record {
      hi = omega arith;
      added = row_begun v.tally.classes v.tally.cells c.args.tally.now.cells c.args.lo c.requires.held.each;
      total = omega arith;
      classes = refl;
      room = refl;
      counts = c.requires.counts;
    }

few : (v : SegmentValue) (a b n : ℕ) → IsSegment v → n ≡ count_of v.tally.cells a b → n ≤ 2 ^ 40
few v a b n s e = omega (arith, count_few v.tally.cells a b, s.balance, s.used, s.readings, s.span.0, s.span.1)

pub add-requires-clause-total : goal.add-requires-clause-total
add-requires-clause-total c =
    let i = c.loop-n.n-index in
    let w = c.loop-n-test.true in
    let h = few c.args.segment.now c.args.lo (c.args.lo + 1 + i) _ c.requires.rules (c.write_cycles.ensures i w) in
    omega (arith, h, c.loop-n.invariant.total, c.requires.total, c.requires.row, c.requires.rules.over.limits.classes_to)

pub loop-n-preserved : goal.loop-n-preserved
loop-n-preserved c =
    let i = c.loop-n.n-index in
    let w = c.loop-n-test.true in
    let v = c.loop-n.invariant in
    let held = c.args.segment.now.tally.cells in
    let e = c.write_cycles.ensures i w in
    let h = few c.args.segment.now c.args.lo (c.args.lo + 1 + i) _ c.requires.rules e in
    record {
      hi = omega (arith, v.hi);
      added = row_more held c.args.tally.now.cells c.loop-n.tally.cells c.add.new.self.cells c.args.lo c.loop-n.hi _
          (e ∙ ap (count_of held c.args.lo) (omega (arith, v.hi))) v.added c.add.ensures.added;
      total = omega (arith, h, v.total, c.add.ensures.total);
      classes = c.add.ensures.classes ∙ v.classes;
      room = c.add.ensures.room ∙ v.room;
      counts = c.add.ensures.counts;
    }

pub returns-clause-added : goal.returns-clause-added
returns-clause-added c =
    let v = c.args.segment.now in
    let i = c.loop-n.invariant in
    row_ended v.tally.classes v.tally.cells c.args.tally.now.cells c.loop-n.tally.cells c.args.lo c.loop-n.hi c.requires.held.each
    (omega (arith, i.hi, c.loop-n-test.false, c.loop-n.auto.n-index-end, c.requires.row, c.requires.rules.over.tally)) i.added
