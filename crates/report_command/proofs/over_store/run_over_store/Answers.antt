use Rattle.std.proofs.Common.{refl, ap}
use Rattle.std.specs.Prelude.{Err}
use Rattle.status.specs.declared.status.Status.{Status}
use Rattle.report_command.proofs.StoreRun.{unread, no_line, told}
use Rattle.report_command.proofs.over_store.run_over_store.Goals as goal

-- no room for a line
pub returns-in_default : goal.returns-in_default
returns-in_default g c = record { run = unread (no_line refl c.tell_no_memory.ensures.tells c.tell_no_memory.ensures.last) }

pub returns-in-Ok-read_config : goal.returns-in-Ok-read_config
returns-in-Ok-read_config g c = record {
  run = told g.C.Source c.args.config.now c.read_config.new.config c.tell_fault.new.station c.in-Ok-read_config.ensures.meaning
      c.write-status.ensures.run c.tell_fault.ensures.tells c.tell_fault.ensures.nothing c.tell_fault.ensures.last
      c.tell_fault.ensures.later;
}

-- a configuration that is refused
pub returns : goal.returns
returns g c = record {
  run = unread (record {
    refusal = c.in-Err.ensures.refusal;
    means = c.in-Err.ensures.meaning;
    cause = λ is. c.in-Err.ensures.cause (ap (λ (s : Status). Err s) is);
    written = refl;
    quiet = c.tell_fault-in-Err.ensures.tells;
    last = c.tell_fault-in-Err.ensures.last;
  });
}
