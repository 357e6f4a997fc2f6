use Rattle.std.proofs.Common.{List, ℕ, ◌∙◌, subst}
use Rattle.segment_store.specs.Held.{ends_of}
use Rattle.site_config.specs.recorded.Recorded.{recordings}
use Rattle.count_command.specs.declared.course.Course.TheVariants.{Watch}
use Rattle.count_command.specs.watching.Seen.{IsSeenLine, TellsSeen, TellsOnlySeen}
use Rattle.count_command.proofs.OpenedEnds.{opened_nothing, opened_failed, opened_unshown, opened_fault, opened_untold, opened_printed, made_as, held_all}
use Rattle.count_command.proofs.watched.watch_opened.Goals as goal

pub returns-in_default : goal.returns-in_default
returns-in_default g c = record {
  run = opened_nothing g.C.Source g.K.Station g.O.Sink c.args.run.now.config.now c.args.store.now c.args.lanes.now c.args.station.now c.args.out.now
      Watch (λ tells. g.met.K.Station.only_now tells c.args.station.now) c.requires.opened.sources c.requires.opened.faulty;
}

pub returns-in_default-new : goal.returns-in_default-new
returns-in_default-new g c = record {
  run = opened_nothing g.C.Source g.K.Station g.O.Sink c.args.run.now.config.now c.args.store.now c.args.lanes.now c.args.station.now c.args.out.now
      Watch (λ tells. g.met.K.Station.only_now tells c.args.station.now) c.requires.opened.sources c.requires.opened.faulty;
}

pub returns-in-Err : goal.returns-in-Err
returns-in-Err g c = record {
  run = opened_failed g.C.Source g.K.Station g.O.Sink c.args.run.now.config.now c.args.store.now c.args.lanes.now c.args.station.now c.args.out.now
      c.watch_rounds-done.new.store c.watch_rounds-done.new.lanes c.watch_rounds-done.new.station Watch _
      (made_as c.in-Err.is c.watch_rounds-done.ensures.made);
}

pub returns-then-refused : goal.returns-then-refused
returns-then-refused g c = record {
  run = opened_unshown g.C.Source g.K.Station g.O.Sink c.args.run.now.config.now c.args.store.now c.args.lanes.now c.args.station.now c.args.out.now
      c.watch_rounds-done.new.store c.watch_rounds-done.new.lanes c.watch_rounds-done.new.station _
      (made_as c.in-Ok-done.is c.watch_rounds-done.ensures.made) c.requires.opened.held c.requires.opened.count;
}

pub first_fault-requires-clause-gauges : goal.first_fault-requires-clause-gauges
first_fault-requires-clause-gauges g c κs within = λ h d lt.
    ((made_as c.in-Ok-done.is c.watch_rounds-done.ensures.made).held h d lt).0.gauge

pub returns-in-Some : goal.returns-in-Some
returns-in-Some g c = record {
  run = opened_fault g.C.Source g.K.Station g.O.Sink c.args.run.now.config.now c.args.store.now c.args.lanes.now c.args.station.now c.args.out.now
      c.watch_rounds-done.new.store c.watch_rounds-done.new.lanes c.watch_rounds-done.new.station _
      (made_as c.in-Ok-done.is c.watch_rounds-done.ensures.made) c.requires.opened.held c.requires.opened.count Watch c.in-Some.status
      c.in-Some.ensures;
}

pub returns-in-Ok-tell_seen : goal.returns-in-Ok-tell_seen
returns-in-Ok-tell_seen g c =
    let opened = c.requires.opened in
    let told = g.K.Station.told in
    let made = made_as c.in-Ok-done.is c.watch_rounds-done.ensures.made in
    let starts = c.watch_rounds-done.ensures.starts ∙ c.in-Ok-new.ensures.starts in
    record {
      run = opened_printed g.C.Source g.K.Station g.O.Sink c.args.run.now.config.now c.args.store.now c.args.lanes.now
          c.args.station.now c.args.out.now c.watch_rounds-done.new.store c.watch_rounds-done.new.lanes c.watch_rounds-done.new.station _
          made opened.held opened.count Watch
          c.tell_seen.new.station (λ tells. subst (λ (n : List ℕ). TellsOnlySeen g.K.Station (IsSeenLine c.args.run.now.config.now n
          (ends_of c.watch_rounds-done.new.store.held)) c.watch_rounds-done.new.station c.tell_seen.new.station) starts
          (c.tell_seen.ensures.only tells)) c.tell_seen.ensures.cause.later c.in_default-first_fault.ensures
          (made.gauges.0 ∙ opened.gauges)
          (λ tells reads files are. subst (λ (n : List ℕ). TellsSeen c.args.run.now.config.now.block (recordings c.args.run.now.config.now files) n
          (told c.watch_rounds-done.new.station) (told c.tell_seen.new.station)) starts
          (c.in-Ok-tell_seen.ensures.told tells files (held_all g.C.Source g.K.Station g.O.Sink c.args.run.now.config.now
          c.args.store.now c.args.lanes.now c.args.station.now c.args.out.now c.watch_rounds-done.new.store
          c.watch_rounds-done.new.lanes c.watch_rounds-done.new.station _ made opened.held opened.count reads files are
          c.in_default-first_fault.ensures)))
          c.print_held.new.out c.print_held.result c.print_held.ensures.kind c.print_held.ensures.prints c.print_held.ensures.write;
    }

pub returns : goal.returns
returns g c =
    let starts = c.watch_rounds-done.ensures.starts ∙ c.in-Ok-new.ensures.starts in
    record {
      run = opened_untold g.C.Source g.K.Station g.O.Sink c.args.run.now.config.now c.args.store.now c.args.lanes.now c.args.station.now
          c.args.out.now c.watch_rounds-done.new.store c.watch_rounds-done.new.lanes c.watch_rounds-done.new.station _
          (made_as c.in-Ok-done.is c.watch_rounds-done.ensures.made) c.requires.opened.held c.requires.opened.count Watch
          c.tell_seen.new.station (λ tells. subst (λ (n : List ℕ). TellsOnlySeen g.K.Station (IsSeenLine c.args.run.now.config.now n
          (ends_of c.watch_rounds-done.new.store.held)) c.watch_rounds-done.new.station c.tell_seen.new.station) starts
          (c.tell_seen.ensures.only tells)) c.tell_seen.ensures.cause.later c.in-Err-tell_seen.ensures.cause.failed;
    }
