use Rattle.std.proofs.Common.{rules, arith, ◌<◌, ◌∙◌, length, subst, sym}
use Rattle.std.proofs.lemmas.List.{get_or-set_other, get_or_default}
use Rattle.std.proofs.Math.ListN.{length-set}
use Rattle.count_workers.specs.block_workers.Jobs.{CanRead, ReadJob, SameSource}
use Rattle.count_workers.proofs.on_running.Turns.{done_more, goes_same, goes_both}
use Rattle.count_workers.proofs.running.lanes.run_readers.Goals as goal

pub loop-g-init : goal.loop-g-init
loop-g-init h c = record {
  long = search rules;
  done = λ u d l. absurd (omega (arith, l));
  same = λ u d l. absurd (omega (arith, l));
  rest = search rules;
  on = goes_same _ _ _ c.requires.on;
}

pub run_reader-requires-clause-read : goal.run_reader-requires-clause-read
run_reader-requires-clause-read h c κs p =
    let r = c.index-readers-g.result in
    subst CanRead (sym (c.loop-g.invariant.rest c.loop-g.g r (omega arith)))
    (c.requires.read c.loop-g.g r (omega (arith, c.loop-g.invariant.long)))

pub run_reader-requires-clause-on : goal.run_reader-requires-clause-on
run_reader-requires-clause-on h c κs p = c.loop-g.invariant.on.can

pub loop-g-preserved : goal.loop-g-preserved
loop-g-preserved h c =
    let k = c.loop-g.g in let rs = c.loop-g.readers in let rs0 = c.args.readers.now in let y = c.run_reader.new.reader in
    let l : k < length rs = omega arith in
    let job = ReadJob h.C.Source.tells h.C.Source.left h.C.Source.faults in
    record {
      long = length-set rs k y ∙ c.loop-g.invariant.long;
      done = done_more job rs0 rs k y l c.loop-g.invariant.done
          (λ d. subst (λ x. job x y) (get_or_default rs k _ d l ∙ c.loop-g.invariant.rest k d (omega arith)) c.run_reader.ensures.job);
      same = done_more (λ a b. SameSource h.C.Source.number a.src b.src) rs0 rs k y l c.loop-g.invariant.same
          (λ d. subst (λ x. SameSource h.C.Source.number x.src y.src) (get_or_default rs k _ d l ∙ c.loop-g.invariant.rest k d (omega arith))
          c.run_reader.ensures.source);
      rest = λ j d m. get_or-set_other rs k j y d (λ e. omega arith) ∙ c.loop-g.invariant.rest j d (omega arith);
      on = goes_both _ _ _ _ _ _ _ _ _ c.loop-g.invariant.on c.run_reader.ensures.on;
    }
