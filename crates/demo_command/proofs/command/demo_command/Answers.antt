use Rattle.std.proofs.Common.{◌≢◌, refl, sym, subst}
use Rattle.status.specs.declared.status.Status.TheVariants.{Done, WriteFault}
use Rattle.status.proofs.AnswerCases.{by_printing}
use Rattle.demo_command.specs.Answer.{IsDemoAnswer}
use Rattle.demo_command.specs.Summary.{IsSummary}
use Rattle.demo_command.proofs.OneSummary.{done_any, front_any}
use Rattle.demo_command.proofs.WithoutMemory.{without_memory}
use Rattle.demo_command.proofs.command.demo_command.Goals as goal

pub returns-in_default-clause-run : goal.returns-in_default-clause-run
returns-in_default-clause-run g c = without_memory c.args.seed c.args.samples g.O.Sink.tells _ _ _ _ refl

pub returns-in_default-summary_text-clause-run : goal.returns-in_default-summary_text-clause-run
returns-in_default-summary_text-clause-run g c = without_memory c.args.seed c.args.samples g.O.Sink.tells _ _ _ _ refl

pub returns-clause-run : goal.returns-clause-run
returns-clause-run g c =
    let run = c.print.ensures in
    let old = g.O.Sink.written c.args.out.now in
    let new = g.O.Sink.written c.print.new.out in
    let is = subst (IsSummary c.args.seed c.args.samples) (sym c.as_str.ensures.value) c.in-Ok-summary_text.ensures in
    record {
      done = λ tells done text s. done_any _ _ _ text _ _ is (run.done tells done) s;
      front = λ tells front text s. front_any _ _ _ text _ _ is (run.front tells front) s;
      nothing = λ tells not_done not_write. absurd (by_printing (λ x. x ≢ Done → x ≢ WriteFault → ⊥) (λ d w. d refl) (λ d w. w refl)
          c.print.result run.printing not_done not_write);
      some = λ prints. (_, is);
      kind = by_printing IsDemoAnswer tt tt c.print.result run.printing;
      write = run.cause;
    }
