use Rattle.std.proofs.Common.{refl, sym, ◌∙◌, ap, subst}
use Rattle.std.specs.Prelude.{Option, IfSome}
use Rattle.command_words.specs.Commands.{meaning_of, IsWithinRanges}
use Rattle.command_words.specs.declared.command.Command.{Command as Named}
use Rattle.init_command.specs.Init.{IsInit}
use Rattle.demo_command.specs.Answer.{IsDemoAnswer}
use Rattle.status.specs.declared.status.Status.{Status}
use Rattle.report_command.specs.declared.window_counts.counting.Times.{Times}
use Rattle.report_command.proofs.on_window_counts.Adding.{times_passed}
use Rattle.report_command.specs.StoreRun.{StoreRuns, store_shown}
use Rattle.report_command.specs.window_command.Printing.{WritesWindow}
use Rattle.monitor.proofs.Runs.{of_words, is_run, back_of, files_of, refused, not_done, not_usage, left_run}
use Rattle.monitor.proofs.top.monitor.Goals as goal

pub returns-in-Ok-Some-Table : goal.returns-in-Ok-Some-Table
returns-in-Ok-Some-Table g c =
    let here = c.in-Ok-Some-Table in
    let run = c.told_table.ensures in
    record {
      run = is_run (of_words here.ensures.line here.field-0-is here.field-0-0-is)
          (record {
            run = run.run;
            tells = record { told = run.told; silent = run.silent; last = run.last };
            unread = refl;
          })
          run.named (back_of run.run) (files_of run.run);
    }

pub returns-in-Ok-Some-Init : goal.returns-in-Ok-Some-Init
returns-in-Ok-Some-Init g c =
    let here = c.in-Ok-Some-Init in
    let run = c.init_command.ensures in
    record {
      run = is_run (of_words here.ensures.line here.field-0-is here.field-0-0-is) (run.run, λ tells. refl)
          (λ is. subst (λ (x : Status). IsInit x) is run.run.kind) run.back run.files;
    }

pub returns-in-Ok-Some-Count : goal.returns-in-Ok-Some-Count
returns-in-Ok-Some-Count g c =
    let here = c.in-Ok-Some-Count in
    let run = c.count_command.ensures in
    record { run = is_run (of_words here.ensures.line here.field-0-is here.field-0-0-is) run.run run.run.named run.back run.files }

pub returns-in-Ok-Some-Watch : goal.returns-in-Ok-Some-Watch
returns-in-Ok-Some-Watch g c =
    let here = c.in-Ok-Some-Watch in
    let run = c.watch_command.ensures in
    record { run = is_run (of_words here.ensures.line here.field-0-is here.field-0-0-is) run.run run.run.named run.back run.files }

pub returns-in-Ok-Some-Report : goal.returns-in-Ok-Some-Report
returns-in-Ok-Some-Report g c =
    let here = c.in-Ok-Some-Report in
    let run = c.report_command.ensures.run in
    record {
      run = is_run (of_words here.ensures.line here.field-0-is here.field-0-0-is) (record { run = run; asked = λ names has. has })
          (not_usage run.kind) c.requires.home (λ tells. refl);
    }

pub returns-in-Ok-Some-Audit : goal.returns-in-Ok-Some-Audit
returns-in-Ok-Some-Audit g c =
    let here = c.in-Ok-Some-Audit in
    let run = c.audit_command.ensures in
    record { run = is_run (of_words here.ensures.line here.field-0-is here.field-0-0-is) run.run run.run.named run.back run.files }

pub returns-in-Ok-Some-Demo : goal.returns-in-Ok-Some-Demo
returns-in-Ok-Some-Demo g c =
    let here = c.in-Ok-Some-Demo in
    let run = c.told_demo.ensures in
    record {
      run = is_run (of_words here.ensures.line here.field-0-is here.field-0-0-is)
          (record {
            run = run.run;
            asked = λ names has. has;
            tells = record { told = run.told; silent = run.silent; last = run.last };
            unread = refl;
          })
          (λ is. subst (λ (x : Status). IsDemoAnswer x) is run.run.kind) c.requires.home (λ tells. refl);
    }

pub returns-in-Ok-Some-Repeat : goal.returns-in-Ok-Some-Repeat
returns-in-Ok-Some-Repeat g c =
    let here = c.in-Ok-Some-Repeat in
    let run = c.repeat_command.ensures.run in
    record {
      run = is_run (of_words here.ensures.line here.field-0-is here.field-0-0-is) (record { run = run; asked = λ names has. has })
          (not_usage run.kind) c.requires.home (λ tells. refl);
    }

pub returns-in-Ok-Some-Column : goal.returns-in-Ok-Some-Column
returns-in-Ok-Some-Column g c =
    let here = c.in-Ok-Some-Column in
    let run = c.told_column.ensures in
    record {
      run = is_run (of_words here.ensures.line here.field-0-is here.field-0-0-is)
          (record {
            run = run.run;
            tells = record { told = run.told; silent = run.silent; last = run.last };
            unread = refl;
          })
          run.named (back_of run.run) (files_of run.run);
    }

pub returns-in-Ok-Some-Sheet : goal.returns-in-Ok-Some-Sheet
returns-in-Ok-Some-Sheet g c =
    let here = c.in-Ok-Some-Sheet in
    let run = c.sheet_command.ensures in
    record { run = is_run (of_words here.ensures.line here.field-0-is here.field-0-0-is) run.run run.run.named run.back run.files }

pub returns-in-Ok-Some-Window : goal.returns-in-Ok-Some-Window
returns-in-Ok-Some-Window g c =
    let here = c.in-Ok-Some-Window in
    let run = c.window_command.ensures.run in
    let ranges = subst IsWithinRanges here.field-0-0-is
    (subst (λ (r : Option Named). IfSome r IsWithinRanges) here.field-0-is here.ensures.ranges) in
    record {
      run = is_run (of_words here.ensures.line here.field-0-is here.field-0-0-is) (record {
        run = subst (λ (t : Times). StoreRuns (WritesWindow t)
            (store_shown g.C.Source g.K.Station g.O.Sink c.args.config.now c.args.station.now c.args.out.now)
            (store_shown g.C.Source g.K.Station g.O.Sink c.window_command.new.config c.window_command.new.station c.window_command.new.out)
            c.window_command.result) (times_passed here.start here.from here.to ranges.0 ranges.1 ranges.2) run;
        asked = λ names has. has;
      })
          (not_usage run.kind) c.requires.home (λ tells. refl);
    }

pub returns-in-Ok-Some-Compact : goal.returns-in-Ok-Some-Compact
returns-in-Ok-Some-Compact g c =
    let here = c.in-Ok-Some-Compact in
    let run = c.compact_command.ensures.run in
    record {
      run = is_run (of_words here.ensures.line here.field-0-is here.field-0-0-is) (record { run = run; asked = λ names has. has })
          (not_usage run.kind) c.requires.home (λ tells. refl);
    }

pub returns-in-Ok-None : goal.returns-in-Ok-None
returns-in-Ok-None g c =
    let here = c.in-Ok-None in
    let run = c.usage.ensures in
    record {
      run = is_run (sym here.ensures.line ∙ ap meaning_of here.field-0-is) (record {
        run = refused run.status (record { written = refl; asked = λ names has. has; faults = refl; back = c.requires.home; files = λ tells. refl });
        tells = record {
          told = run.told;
          silent = λ tells done. absurd (not_done run.status done);
          last = λ tells some. run.last tells;
        };
        unread = refl;
      })
          run.status c.requires.home (λ tells. refl);
    }

pub returns-in-Err : goal.returns-in-Err
returns-in-Err g c =
    let told = c.tell_no_memory.ensures in
    record {
      run = left_run refl refl (record {
        counts = λ tells. g.met.K.Station.seen_counts tells c.args.station.now;
        only = λ tells. g.met.K.Station.only_now tells c.args.station.now;
        tells = told.tells;
        last = told.last;
        same = record { written = refl; asked = λ names has. has; faults = refl; back = c.requires.home; files = λ tells. refl };
      });
    }
