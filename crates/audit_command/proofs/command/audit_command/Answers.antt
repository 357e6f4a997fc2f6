use Rattle.std.proofs.Common.{◌≡◌, inr, ℕ, List, [], length, sym, ◌∙◌, ap, subst, arith, refl}
use Rattle.std.specs.Prelude.{Err}
use Rattle.outside.proofs.Faults.{rose_more}
use Rattle.outside.proofs.on_station.Told.{last_after}
use Rattle.lemmas.proofs.Outcomes.{same_ok}
use Rattle.segment_store.specs.Held.{ends_of}
use Rattle.segment_store.specs.Holds.{Holds, held_of}
use Rattle.segment_store.specs.Moments.{StoreValue}
use Rattle.store_bytes.specs.store_head.Head.{HeadValue}
use Rattle.site_config.specs.declared.config.Config.{Config}
use Rattle.site_config.specs.recorded.Recorded.{recordings}
use Rattle.status.specs.config_reading.Reading.{IsRefusal}
use Rattle.status.specs.fault_lines.FaultLine.{fault_line}
use Rattle.status.proofs.on_fault_lines.Telling.{quiet_tells}
use Rattle.status.proofs.Refusals.{refused_complete}
use Rattle.audit_command.specs.Answers.{HeldAnswers, IsAudited, IsAuditing}
use Rattle.audit_command.specs.Audited.{FindsDifference, HasKept, IsItem, IsStanding}
use Rattle.audit_command.proofs.AuditRun.{IsEarly, left_early, left_unread, by_refused, store_early, store_not_read, store_disk}
use Rattle.audit_command.proofs.Audits.{finds_by}
use Rattle.audit_command.proofs.Ended.{answers_by, answers_over, auditing_no_disk, finds_of, held_complete, items_keep, items_stand, not_printed, read_as}
use Rattle.audit_command.proofs.command.audit_command.Goals as goal

-- before the configuration was read
pub returns-in_default-clause-run : goal.returns-in_default-clause-run
returns-in_default-clause-run g c = left_unread _ _ _ tt c.tell_no_memory.ensures.tells c.tell_no_memory.ensures.last refl
    (λ names has. has) refl (λ reads. tt) (λ is. absurd cc)

-- a configuration that is refused
pub returns-in-Err-clause-run : goal.returns-in-Err-clause-run
returns-in-Err-clause-run g c =
    let refused = c.in-Err.ensures in
    left_unread _ _ _ refused.refusal c.tell_fault.ensures.tells
    (λ tells. c.tell_fault.ensures.last tells (λ done. subst IsRefusal done refused.refusal)) refl (λ names has. has) refl
    refused.meaning (λ is. refused.cause (ap Err is))

-- a store that is refused
pub returns-in-Err-resume-clause-run : goal.returns-in-Err-resume-clause-run
returns-in-Err-resume-clause-run g c =
    let f = c.in-Err-resume.fault in
    let refused = c.in-Err-resume.ensures in
    let is = c.status_of-status.ensures in
    let end = c.tell_fault-in-Err-resume.ensures in
    let quiet = c.resume.ensures.quiet in
    let means = c.in-Ok-read_config.ensures.meaning in
    let early = subst IsEarly (sym is) (store_early f) in
    left_early _ _ _ early (λ tells. quiet_tells _ _ _ _ _ _ _ _ _ _ _ _ _ _ _ _ (quiet tells) (end.tells tells))
    (λ tells. last_after _ _ _ _ _ _ (fault_line c.status_of-status.result []) c.resume.ensures.later (quiet tells).told_same
    (end.last tells (λ done. subst IsEarly done early)))
    refl (λ names has. has) refl
    (λ tells reads. rw is (by_refused _ c.in-Ok-read_config.config (means reads) (g.K.Station.seen c.args.station.now) (g.T.Site.files c.args.site.now)
    (λ (store : StoreValue). (store.place, ends_of store.held)) f (refused.answer tells)))
    (λ tells reads sound source station.
    let r = subst (λ (x : Config). IsAudited x (g.K.Station.seen c.args.station.now) (g.T.Site.files c.args.site.now))
    (same_ok sound.1 (means reads)) sound.2 in
    rw is (refused_complete StoreValue f _ _ _ (refused.unharmed tells r.0.head r.0.bodies r.0.ends r.0.of_setup r.0.reads)
    refused.cause end.later station))
    (λ e. absurd (store_not_read f (sym is ∙ e)))
    (λ e. rose_more _ _ _ (refused.cause (ap Err (store_disk f (sym is ∙ e)))) end.later)

-- a store that was audited
pub returns-clause-run : goal.returns-clause-run
returns-clause-run g c =
    let k = g.K.Station in
    let s = c.audit_held-status.result in
    let run = c.audit_held-status.ensures in
    let end = c.tell_fault-2.ensures in
    let config = c.in-Ok-read_config.config in
    let means = c.in-Ok-read_config.ensures.meaning in
    let files = g.T.Site.files c.args.site.now in
    let mid = c.resume.new.station in
    let quiet = c.resume.ensures.quiet in
    let store = c.in-Ok-resume.store in
    let resumed = c.in-Ok-resume.ensures in
    let many : length store.held ≡ length config.gauges = resumed.gauges ∙ c.in-Ok-read_config.ensures.valid.gains in
    record {
      answer_is = λ tells shows reads.
          let there = resumed.on tells in
          answers_over _ config (k.seen c.args.station.now) files (means reads)
          (read_as store there.0 (k.seen mid) (k.leaves mid) there.1 config.setup _ resumed.setup (quiet tells).seen_same) s run.kind
          (answers_by config store.head.heads (IsItem store.held) (HasKept there.0) (ends_of store.held) files
          (λ h v lt is. items_keep store there.0 (k.seen mid) (k.leaves mid) there.1 h v (omega (arith, lt, many)) is) s run.kind
          (run.answer shows));
      complete = λ tells shows reads sound source site station out.
          let is = subst (λ (x : Config). IsAudited x (k.seen c.args.station.now) files) (same_ok sound.1 (means reads)) sound.2 in
          let r = is.0 in
          let found = resumed.reads tells r.head r.bodies r.ends r.of_setup r.reads in
          held_complete config r.head.heads r.bodies r.ends files s run.kind
          (subst (λ (x : HeadValue). HeldAnswers config x.heads (HasKept r.bodies) r.ends files s) found.0
          (subst (λ (e : List ℕ). HeldAnswers config store.head.heads (HasKept r.bodies) e files s) found.1
          (answers_by config store.head.heads (IsItem store.held) (HasKept r.bodies) (ends_of store.held) files
          (λ j v lt item. items_keep store r.bodies (k.seen mid) (k.leaves mid) found.2 j v (omega (arith, lt, many)) item) s run.kind
          (run.answer shows))))
          is.1 is.2 (λ e. site (run.read e)) (λ e. out (run.write e));
      stands = λ tells shows reads x is w n holds.
          let same = same_ok is (means reads) in
          let h = subst (λ (y : Config). Holds y.setup w n (k.seen c.args.station.now)) same holds in
          let found = resumed.reads tells h.head h.bodies n h.of_setup h.reads in
          rw same (subst (λ (e : List ℕ). FindsDifference config (IsStanding config (held_of w e))
          (held_of (recordings config files).samples e) s) found.1
          (finds_by config (IsItem store.held) (IsStanding config (held_of w (ends_of store.held)))
          (held_of (recordings config files).samples (ends_of store.held))
          (λ j v lt item. items_stand store h.bodies (k.seen mid) (k.leaves mid) found.2 config w resumed.setup h.stand j v
          (omega (arith, lt, many)) item)
          s (finds_of config store.head.heads (IsItem store.held) (ends_of store.held) files s run.kind (run.answer shows))));
      prints = λ writes reads x is. rw (same_ok is (means reads)) (run.prints writes);
      nothing = λ writes other. not_printed config _ _ s run.kind other (run.prints writes);
      quiet = λ tells reads. rw (means reads, ← c.name_in.ensures)
          (quiet_tells _ _ _ _ _ _ _ _ _ _ _ _ _ _ _ _ (quiet tells) (end.tells tells));
      silent = λ tells done. end.nothing tells done ∙ (quiet tells).told_same;
      last = λ tells reads other. rw (means reads, ← c.name_in.ensures) (last_after _ _ _ _ _ _ (fault_line s c.name_in.result.now)
          c.resume.ensures.later (quiet tells).told_same (end.last tells other));
      named = λ usage. subst IsAuditing usage run.kind;
      read = λ is. inr (run.read is);
      steady = run.steady;
      write = run.write;
      disk = λ is. absurd (auditing_no_disk s run.kind is);
      asked = λ reads. rw (means reads) run.asked;
    }
