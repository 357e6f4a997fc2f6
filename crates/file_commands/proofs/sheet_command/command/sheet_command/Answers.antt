use Rattle.std.proofs.Common.{◌≡◌, ◌≢◌, ◌⊎◌, ℕ, List, [], inl, inr, ⊎_elim, refl, ap, subst}
use Rattle.std.specs.Prelude.{Err}
use Rattle.lemmas.proofs.Outcomes.{same_ok}
use Rattle.site_config.specs.Configuration.{config_of_bytes}
use Rattle.site_config.specs.recorded.Asked.{file_names}
use Rattle.status.specs.config_reading.Reading.{IsRefusal}
use Rattle.status.specs.declared.status.Status.{Status}
use Rattle.status.specs.declared.status.Status.TheVariants.{Done, Usage, ReadFault, WriteFault, OutOfMemory}
use Rattle.status.specs.fault_lines.FaultLine.{fault_line, name_for}
use Rattle.file_commands.specs.sheet_command.Sheet.{sheet_answer, MayAnswer, Prints}
use Rattle.file_commands.proofs.on_file_tasks.Answering.{by_printed, printing_no_read}
use Rattle.file_commands.proofs.on_sheet_command.Answered.{IsUnprinted, left_unprinted, left_unread}
use Rattle.file_commands.proofs.on_sheet_command.Asking.{by_read, printing_asks}
use Rattle.file_commands.proofs.sheet_command.command.sheet_command.Goals as goal

-- before the configuration was read
pub returns-in_default-clause-run : goal.returns-in_default-clause-run
returns-in_default-clause-run g c = left_unread _ _ _ tt c.tell_no_memory.ensures.tells c.tell_no_memory.ensures.last refl
    (λ names has. has) (λ reads. tt) (λ is. absurd cc) refl

-- a configuration that is refused
pub returns-in-Err-clause-run : goal.returns-in-Err-clause-run
returns-in-Err-clause-run g c =
    let refused = c.in-Err.ensures in
    left_unread _ _ _ refused.refusal c.tell_fault.ensures.tells
    (λ tells. c.tell_fault.ensures.last tells (λ done. subst IsRefusal done refused.refusal)) refl (λ names has. has) refused.meaning
    (λ is. refused.cause (ap Err is)) refl

-- a recording that is refused
pub returns-in-Err-read_recordings-clause-run : goal.returns-in-Err-read_recordings-clause-run
returns-in-Err-read_recordings-clause-run g c =
    let s = c.in-Err-read_recordings.status in
    let refused = c.in-Err-read_recordings.ensures in
    let means = c.in-Ok-read_config.ensures.meaning in
    let left = by_read IsUnprinted (λ gauge f. tt) (λ gauge bytes. tt) (λ gauge. tt) tt tt s refused.kind in
    left_unprinted _ _ _ (fault_line s c.name_in.result.now) left
    (by_read (λ x. (text old new : List ℕ) → new ≡ old → Prints x text old new) (λ h f t o n e. e) (λ h b t o n e. e) (λ h t o n e. e)
    (λ t o n e. e) (λ t o n e. e) s refused.kind)
    (by_read (λ x. (asked : Status) → MayAnswer asked x → x ≢ ReadFault → (x ≡ asked) ⊎ (x ≡ OutOfMemory)) (λ h f a m r. inl m)
    (λ h b a m r. inl m) (λ h a m r. inl m) (λ a m r. absurd (r refl)) (λ a m r. inr refl) s refused.kind)
    (λ reads. rw (means reads) (ap (fault_line s) c.name_in.ensures)) c.tell_fault-in-Err-read_recordings.ensures.tells
    (λ tells. c.tell_fault-in-Err-read_recordings.ensures.last tells (λ done. subst IsUnprinted done left)) refl
    (λ shows reads. rw (means reads) (refused.refused shows)) (λ is. inr (refused.cause (ap Err is)))
    (λ other. refused.steady (λ is. other cc)) (λ reads. rw (means reads) refused.asked)

-- a sheet that was written, or wasn't
pub returns-clause-run : goal.returns-clause-run
returns-clause-run g c =
    let s = c.write_sheet-status.result in
    let run = c.write_sheet-status.ensures in
    let end = c.tell_fault-2.ensures in
    let all = c.in-Ok-read_recordings.ensures in
    let config = c.in-Ok-read_config.config in
    let read = config_of_bytes (g.C.Source.left c.args.config.now) in
    let means = c.in-Ok-read_config.ensures.meaning in
    let files = g.T.Site.files c.args.site.now in
    let asked = g.T.Site.names_asked in
    let old = g.O.Sink.written c.args.out.now in
    let new = g.O.Sink.written c.write_sheet-status.new.out in
    let named : name_for config s ≡ [] = by_printed (λ x. name_for config x ≡ []) refl refl refl s run.kind in
    let may : g.T.Site.tells → g.C.Source.tells → MayAnswer (sheet_answer read files) s = λ shows reads.
    rw (means reads, all.sound shows) (by_printed (MayAnswer Done) refl refl tt s run.kind) in
    let not_read = printing_no_read s run.kind in
    let whole : c.as_slice.result.now ≡ c.in-Ok-read_recordings.recordings.items = c.as_slice.ensures.value in
    record {
      prints = λ writes shows reads x is. rw (same_ok is (means reads), ← all.samples shows, ← whole) (run.prints writes);
      nothing = λ writes done write.
          by_printed (λ x. x ≢ Done → x ≢ WriteFault → (text : List ℕ) → Prints x text old new → new ≡ old)
          (λ d w t p. absurd (d refl)) (λ d w t p. absurd (w refl)) (λ d w t p. p) s run.kind done write _ (run.prints writes);
      quiet = λ tells reads. rw (means reads, named) (end.tells tells);
      silent = end.nothing;
      last = λ tells reads other. rw (means reads, named)
          (⊎_elim (λ rose. inl rose) (λ is. inr (g.K.Station.told c.args.station.now, is)) (end.last tells other));
      named = by_printed (λ x. x ≢ Usage) (λ is. cc) (λ is. cc) (λ is. cc) s run.kind;
      answer_is = may;
      complete = λ shows reads source site out.
          by_printed (λ x. MayAnswer (sheet_answer read files) x → x ≢ WriteFault → (x ≡ sheet_answer read files) ⊎ (x ≡ OutOfMemory))
          (λ m w. inl m) (λ m w. absurd (w refl)) (λ m w. inr refl) s run.kind (may shows reads) (λ e. out (run.write e));
      read = λ is. absurd (not_read is);
      steady = λ other. all.steady (λ is. absurd cc);
      write = run.write;
      asked = λ reads. rw (means reads)
          (printing_asks (asked c.args.site.now) (asked c.read_recordings.new.site) (file_names config) all.asked s run.kind);
    }
