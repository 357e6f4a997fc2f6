use Rattle.std.proofs.Common.{◌≡◌, ◌*◌, refl, sym, subst, arith, rules, get_or}
use Rattle.segment.specs.Segment.{SegmentValue, empty_at}
use Rattle.board.proofs.Begun.{new_fresh}
use Rattle.board.proofs.Lists.{each_pushed}
use Rattle.board.specs.declared.flow.TheConstants.{BLOCKS_PER_WINDOW}
use Rattle.board.proofs.intervals.Intervals.new.Goals as goal

pub loop-init : goal.loop-init
loop-init c = record {
  long = search rules;
  room = search rules;
  each = λ k d m. subst (λ l. get_or l k d ≡ empty_at c.args.grid.now c.args.gauge 0 (BLOCKS_PER_WINDOW * c.args.block))
      (sym c.push_reserved.ensures.items)
      (each_pushed (λ i (x : SegmentValue). x ≡ empty_at c.args.grid.now c.args.gauge 0
      (BLOCKS_PER_WINDOW * c.args.block)) c.in_ok-slots.slots.items c.in_ok-new.field-0 0
      (omega (arith, c.in_ok-slots.ensures.len)) (λ j e n. absurd (omega (arith, n))) c.in_ok-new.ensures.empty k d m);
}

pub loop-preserved : goal.loop-preserved
loop-preserved c = record {
  long = search rules;
  room = search rules;
  each = λ k d m. subst (λ l. get_or l k d ≡ empty_at c.args.grid.now c.args.gauge 0 (BLOCKS_PER_WINDOW * c.args.block))
      (sym c.push_reserved-in-loop.ensures.items)
      (each_pushed (λ i (x : SegmentValue). x ≡ empty_at c.args.grid.now c.args.gauge 0
      (BLOCKS_PER_WINDOW * c.args.block)) c.loop.slots.items c.in_ok-new_spare.field-0 c.loop.counter
      (omega (arith, c.loop.invariant.long, c.loop.slots.ok.0)) c.loop.invariant.each c.in_ok-new_spare.ensures.empty k d m);
}

pub returns : goal.returns
returns c = new_fresh c.args.block c.args.gauge c.args.grid.now (record { start = 0; slots = c.loop.slots.items }) refl
    (omega (arith, c.loop.invariant.long, c.loop.slots.ok.0)) (λ k d m. c.loop.invariant.each k d (omega (arith, m)))
