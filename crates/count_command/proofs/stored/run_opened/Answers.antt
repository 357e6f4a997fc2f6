use Rattle.std.proofs.Common.{sym, subst}
use Rattle.count_command.specs.declared.course.Course.{Course}
use Rattle.count_command.specs.Opened.{OpenedRuns}
use Rattle.count_command.proofs.stored.run_opened.Goals as goal

pub returns-in-Count : goal.returns-in-Count
returns-in-Count g c = record {
  run = subst (λ (course : Course). OpenedRuns course g.C.Source g.K.Station g.O.Sink c.args.run.now.config.now c.args.store.now
      c.count_opened.new.store c.args.lanes.now c.count_opened.new.lanes c.args.station.now c.count_opened.new.station c.args.out.now
      c.count_opened.new.out c.count_opened.result) (sym c.in-Count.is) c.count_opened.ensures.run;
}

pub returns-in-Watch : goal.returns-in-Watch
returns-in-Watch g c = record {
  run = subst (λ (course : Course). OpenedRuns course g.C.Source g.K.Station g.O.Sink c.args.run.now.config.now c.args.store.now
      c.watch_opened.new.store c.args.lanes.now c.watch_opened.new.lanes c.args.station.now c.watch_opened.new.station c.args.out.now
      c.watch_opened.new.out c.watch_opened.result) (sym c.in-Watch.is) c.watch_opened.ensures.run;
}
