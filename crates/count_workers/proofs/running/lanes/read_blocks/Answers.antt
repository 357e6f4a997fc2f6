use Rattle.std.proofs.Common.{rules}
use Rattle.count_workers.proofs.on_block_workers.Blocks.{none_yet, still_ready, whole_step, done_with, done_all}
use Rattle.count_workers.proofs.on_running.Turns.{goes_same, goes_both}
use Rattle.count_workers.proofs.running.lanes.read_blocks.Goals as goal

pub loop-number-init : goal.loop-number-init
loop-number-init g c = record {
  read = none_yet _ _ _ c.requires.ready;
  later = search rules;
  number = search rules;
  on = goes_same _ _ _ c.requires.on;
}

pub read_block-more-requires-clause-ready : goal.read_block-more-requires-clause-ready
read_block-more-requires-clause-ready g c κs p = still_ready _ _ _ _ _ _ c.requires.ready (search rules) c.loop-number.invariant.read

pub pass_on-requires : goal.pass_on-requires
pass_on-requires g c = c.loop-number.invariant.on.can

pub loop-number-preserved : goal.loop-number-preserved
loop-number-preserved g c = record {
  read =
      whole_step _ _ _ _ _ _ _ _ c.read_block-more.result (search rules) c.loop-number.invariant.read c.read_block-more.ensures.read;
  later =
      search rules;
  number = search rules;
  on = goes_both _ _ _ _ _ _ _ _ _ c.loop-number.invariant.on c.pass_on.ensures;
}

pub returns-then-not-more-clause-read : goal.returns-then-not-more-clause-read
returns-then-not-more-clause-read g c =
    done_with _ _ _ _ _ _ _ _ c.read_block-more.result (search rules) (search rules) c.loop-number.invariant.read
    c.read_block-more.ensures.read

pub returns-then-not-more-clause-on : goal.returns-then-not-more-clause-on
returns-then-not-more-clause-on g c = goes_both _ _ _ _ _ _ _ _ _ c.loop-number.invariant.on c.pass_on.ensures

pub returns-clause-read : goal.returns-clause-read
returns-clause-read g c = done_all _ _ _ _ _ _ (search rules) c.loop-number.invariant.read
