use Rattle.segment_store.specs.Holds.{held_of}
use Rattle.report_command.proofs.StoreRun.{no_room, refused_store, ended, printing_copies, reads_as}
use Rattle.report_command.proofs.on_repeat_command.Stand.{all_held_stand}
use Rattle.report_command.proofs.repeat_command.command.RepeatTextStoreWriter.write.Goals as goal

pub returns-in_default : goal.returns-in_default
returns-in_default g c = record { run = no_room (λ tells. g.met.K.Station.only_now tells c.args.station.now) }

pub returns-in_default-new : goal.returns-in_default-new
returns-in_default-new g c = record { run = no_room (λ tells. g.met.K.Station.only_now tells c.args.station.now) }

-- the store is resumed
pub returns-in-Ok-resume : goal.returns-in-Ok-resume
returns-in-Ok-resume g c =
    let k = g.K.Station in
    let store = c.in-Ok-resume.store in
    let here = c.in-Ok-resume.ensures in
    record {
      run = ended c.resume.ensures.quiet c.resume.ensures.later
          (λ tells. reads_as store here.setup (here.on tells) (c.resume.ensures.quiet tells).seen_same)
          (printing_copies c.print_held.result c.print_held.ensures.kind) (λ writes not. absurd (not c.print_held.ensures.kind))
          c.print_held.ensures.write (λ writes tells printing. record {
            prints = λ w n h.
                let found = here.reads tells h.head h.bodies n h.of_setup h.reads in
                c.print_held.ensures.prints writes (held_of w n)
                (all_held_stand store h.bodies (k.seen c.resume.new.station) (k.leaves c.resume.new.station) found.2 c.args.config.now w n
                here.setup found.1 h.stand);
          });
    }

pub returns : goal.returns
returns g c = record {
  run = refused_store c.in-Err.fault c.status_of.ensures c.in-Err.ensures.answer c.in-Err.ensures.unharmed c.in-Err.ensures.cause
      c.resume.ensures.quiet c.resume.ensures.later;
}
