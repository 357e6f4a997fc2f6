use Rattle.count_workers.proofs.on_running.Turns.{can_still}
use Rattle.count_workers.proofs.running.passing.pass_on.Goals as goal

pub pass_to_all-came-requires : goal.pass_to_all-came-requires
pass_to_all-came-requires g c = c.requires.work

pub returns : goal.returns
returns g c =
    let on = c.pass_to_all-came.ensures in
    record {
      long = on.long;
      work = on.work;
      collects = c.look_in_turn.ensures.more;
      can = record {
        work = can_still c.args.workers.now c.pass_to_all-came.new.workers on.long on.work c.requires.work;
        grid = c.look_in_turn.ensures.grid;
      };
    }
