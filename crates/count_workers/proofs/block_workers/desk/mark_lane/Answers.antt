use Rattle.std.proofs.Common.{refl}
use Rattle.count_workers.proofs.on_block_workers.Blocks.{marks_only, marks_through}
use Rattle.count_workers.proofs.block_workers.desk.mark_lane.Goals as goal

pub returns : goal.returns
returns g c = marks_only c.args.desk.now _
    (record { gauge = refl; gain = refl; block = refl; grid = refl; feeders = refl; room = refl }) refl refl refl
    (marks_through _ _ c.mark_all.new.feeders _ c.as_mut_slice.ensures.value c.args.desk.now.feeders.ok.0 c.mark_all.ensures)
