use Rattle.count_workers.proofs.on_running.Turns.{works_same, works_both, works_hands}
use Rattle.count_workers.proofs.running.passing.pass_to.Goals as goal

pub returns-then-not-is_helped : goal.returns-then-not-is_helped
returns-then-not-is_helped g c = works_same c.args.worker.now

pub returns : goal.returns
returns g c = works_both c.args.worker.now c.work_once-took.new.worker c.fetch-fetched.new.worker c.work_once-took.ensures
    (works_hands c.work_once-took.new.worker c.fetch-fetched.new.worker c.fetch-fetched.ensures)
