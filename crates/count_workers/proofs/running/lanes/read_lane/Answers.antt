use Rattle.count_workers.proofs.on_block_workers.Blocks.{marked}
use Rattle.count_workers.proofs.on_running.Turns.{goes_both}
use Rattle.count_workers.proofs.running.lanes.read_lane.Goals as goal

pub pass_on-requires : goal.pass_on-requires
pass_on-requires g c = c.read_blocks.ensures.on.can

pub returns-clause-read : goal.returns-clause-read
returns-clause-read g c = marked _ _ _ c.args.desk.now c.read_blocks.new.desk _ c.read_blocks.ensures.read c.mark_lane.ensures

pub returns-clause-on : goal.returns-clause-on
returns-clause-on g c = goes_both _ _ _ _ _ _ _ _ _ c.read_blocks.ensures.on c.pass_on.ensures
