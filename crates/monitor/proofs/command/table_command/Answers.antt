use Rattle.std.proofs.Common.{ℤ, ◌≡◌, ℕ, ◌<◌, List, [], ◌∷◌, ◌++◌, Option, Err, refl, sym, ◌∙◌, ap, subst, arith}
use Rattle.outside.specs.Sink.{AppendsPrefix}
use Rattle.outside.specs.Fault.{CountRose}
use Rattle.file_commands.specs.file_tasks.Answer.{MayAnswer}
use Rattle.file_commands.specs.file_tasks.FileState.{state_of, file_state}
use Rattle.status.specs.declared.status.Status.{Status}
use Rattle.status.specs.declared.status.Status.TheVariants.{Done, ReadFault, WriteFault}
use Rattle.monitor.specs.Printed.{text_of_samples}
use Rattle.file_commands.proofs.on_file_tasks.Answering.{complete, printing_may, printing_no_read, refusal_no_done, refusal_no_write, refusal_read}
use Rattle.monitor.proofs.TableRun.{text_for}
use Rattle.monitor.proofs.command.table_command.Goals as goal

pub print_table-requires : goal.print_table-requires
print_table-requires g c =
    record { few = c.in-Ok-read.ensures.few; figures = (c.in-Ok-read.ensures.figures.0, c.in-Ok-read.ensures.figures.1) }

pub returns-in-Ok-read-clause-run : goal.returns-in-Ok-read-clause-run
returns-in-Ok-read-clause-run g c =
    let held = g.T.Site.files c.args.site.now c.args.file.now in
    let left = g.T.Src.Source.left c.in-Ok.src in
    let before = g.O.Sink.written c.args.out.now in
    let after = g.O.Sink.written c.print_table.new.out in
    let answer = c.print_table.result in
    let fetched = c.in-Ok.ensures in
    let read = c.in-Ok-read.ensures in
    let printed = c.print_table.ensures in
    let no_read = printing_no_read answer printed.printing in
    let may = λ (tells : g.T.Site.tells). subst (λ (h : Option (List ℕ)). MayAnswer 0 answer (file_state h)) (sym (fetched.file tells))
    (printing_may 0 answer (state_of left) printed.printing (read.answer (fetched.source_tells tells))) in
    let text = λ (tells : g.T.Site.tells). ap (λ (w : List ℤ). text_of_samples w) (read.figures.2 (fetched.source_tells tells)) in
    record {
      done = λ tells told is. text_for held left (λ (text : List ℕ). after ≡ before ++ text) (fetched.file tells)
          (printed.done told is read.figures.0 read.figures.1 ∙ ap (λ (text : List ℕ). before ++ text) (text tells));
      front = λ tells told is. text_for held left (λ (text : List ℕ). AppendsPrefix before after text) (fetched.file tells)
          (subst (λ (text : List ℕ). AppendsPrefix before after text) (text tells) (printed.front told is read.figures.0 read.figures.1));
      nothing = printed.nothing;
      answer_may = may;
      complete = λ tells sound whole. complete 0 answer (file_state held) (may tells) no_read (λ is. whole (printed.write is));
      read = λ is. absurd (no_read is);
      write = printed.write;
      asked = λ names was. c.give_back.ensures.asked (names ++ c.args.file.now ∷ []) (fetched.asked names was);
      back = omega (arith, c.give_back.ensures.one_less, fetched.one_more, c.requires.home);
      files = λ tells. c.give_back.ensures.files tells ∙ fetched.files tells;
    }

pub returns-in-Err-clause-run : goal.returns-in-Err-clause-run
returns-in-Err-clause-run g c =
    let held = g.T.Site.files c.args.site.now c.args.file.now in
    let left = g.T.Src.Source.left c.in-Ok.src in
    let answer = c.status.result in
    let fetched = c.in-Ok.ensures in
    let read = c.in-Err.ensures in
    let no_done = λ (is : answer ≡ Done). refusal_no_done 0 c.in-Err.refusal (sym c.status.ensures ∙ is) in
    let no_write = λ (is : answer ≡ WriteFault). refusal_no_write 0 c.in-Err.refusal (sym c.status.ensures ∙ is) in
    let rose = λ (is : answer ≡ ReadFault).
    let fault = read.cause (ap Err (refusal_read 0 c.in-Err.refusal (sym c.status.ensures ∙ is))) in
    let some : 0 < g.T.Src.Source.faults c.read_recording-read.new.src = omega (arith, fault, fetched.fresh) in
    let rises : CountRose (g.T.Site.faults c.args.site.now) (g.T.Site.faults c.give_back.new.self) = omega
    (arith, c.give_back.ensures.cause some, fetched.cause.later) in
    rises in
    let may = λ (tells : g.T.Site.tells). subst (λ (h : Option (List ℕ)). MayAnswer 0 answer (file_state h)) (sym (fetched.file tells))
    (subst (λ (a : Status). MayAnswer 0 a (state_of left)) (sym c.status.ensures) (read.answer (fetched.source_tells tells))) in
    record {
      done = λ tells told is. absurd (no_done is);
      front = λ tells told is. absurd (no_write is);
      nothing = λ told d w. refl;
      answer_may = may;
      complete = λ tells sound whole. complete 0 answer (file_state held) (may tells) (λ is. sound (rose is)) no_write;
      read = rose;
      write = λ is. absurd (no_write is);
      asked = λ names was. c.give_back.ensures.asked (names ++ c.args.file.now ∷ []) (fetched.asked names was);
      back = omega (arith, c.give_back.ensures.one_less, fetched.one_more, c.requires.home);
      files = λ tells. c.give_back.ensures.files tells ∙ fetched.files tells;
    }
