use Rattle.std.proofs.Common.{◌≡◌, ◌⊎◌, ℕ, List, refl, sym, subst, ⊎_elim, inl, inr, ◌++◌, [], ◌∷◌, ◌∙◌, length, ap}
use Rattle.std.specs.Prelude.{Result, Err}
use Rattle.outside.specs.Fault.{CountRose}
use Rattle.outside.specs.station.Station.{Since}
use Rattle.site_config.specs.Configuration.{config_of_bytes}
use Rattle.site_config.specs.declared.config.Config.{Config}
use Rattle.site_config.specs.declared.fault.ConfigFault.{ConfigFault}
use Rattle.site_config.specs.recorded.Recorded.{recordings}
use Rattle.site_config.specs.recorded.Asked.{names_in}
use Rattle.segment_store.specs.Holds.{Holds}
use Rattle.segment_store.specs.Quiet.{StaysQuiet}
use Rattle.site_lanes.specs.Answers.{HeadsFit, AllSound}
use Rattle.status.specs.config_reading.Reading.{IsRefusal}
use Rattle.status.specs.declared.status.Status.TheVariants.{OutOfMemory}
use Rattle.status.specs.fault_lines.FaultLine.{fault_line, name_by}
use Rattle.status.specs.Shown.{shown_by, Tells}
use Rattle.status.proofs.on_fault_lines.Telling.{quiet_tells}
use Rattle.status.proofs.on_fault_lines.Refused.{line_same}
use Rattle.count_command.specs.Acknowledging.{AcknowledgesBy, AreShort}
use Rattle.count_command.specs.Appending.{TellsTruly}
use Rattle.count_command.specs.Asked.{CountAsks}
use Rattle.count_command.specs.Holding.{HoldLimited, HeldAt, HeldCut, QuietOr}
use Rattle.count_command.specs.Pacing.{TellsInPace}
use Rattle.count_command.specs.Printed.{Prints}
use Rattle.count_command.specs.held_samples.Going.{AllHold, KeepsTold}
use Rattle.count_command.proofs.Acknowledging.{acknowledged_by}
use Rattle.count_command.proofs.Appending.{truly_fault, only_grown}
use Rattle.count_command.proofs.AtEnd.{count_answers}
use Rattle.count_command.proofs.Complete.{done_or_memory}
use Rattle.count_command.proofs.CountRun.{left_unread}
use Rattle.count_command.proofs.FaultTold.{safe_fault, fault_below}
use Rattle.count_command.proofs.Pacing.{paced_fault}
use Rattle.count_command.proofs.Whole.{held_fewer, cut_fewer, not_usage_counting}
use Rattle.count_command.proofs.WithoutMemory.{or_both}
use Rattle.outside.proofs.Faults.{rose_more, rose_before}
use Rattle.lemmas.proofs.Outcomes.{same_ok}
use Rattle.count_command.proofs.command.run_command.Goals as goal

-- before the configuration was read
pub returns-in_default-clause-run : goal.returns-in_default-clause-run
returns-in_default-clause-run g c =
    let before = shown_by g.C.Source g.T.Site g.K.Station g.O.Sink c.args.config.now c.args.site.now c.args.station.now c.args.out.now in
    let after = shown_by g.C.Source g.T.Site g.K.Station g.O.Sink c.args.config.now c.args.site.now c.tell_no_memory.new.station
    c.args.out.now in
    left_unread c.args.asked.course before after OutOfMemory tt (λ tells. g.met.K.Station.only_now tells c.args.station.now) refl
    c.tell_no_memory.ensures.tells
    (λ tells. ⊎_elim (λ rose. inl rose) (λ is. inr (g.K.Station.told c.args.station.now, is)) (c.tell_no_memory.ensures.last tells))
    refl (λ names has. has) (λ reads. tt) (λ is. absurd cc) refl

-- a configuration that is refused
pub returns-in-Err-clause-run : goal.returns-in-Err-clause-run
returns-in-Err-clause-run g c =
    let s = c.in-Err.status in
    let told = g.K.Station.told in
    let before = shown_by g.C.Source g.T.Site g.K.Station g.O.Sink c.args.config.now c.args.site.now c.args.station.now c.args.out.now in
    let after = shown_by g.C.Source g.T.Site g.K.Station g.O.Sink c.read_config.new.config c.args.site.now c.tell_fault.new.station
    c.args.out.now in
    left_unread c.args.asked.course before after s c.in-Err.ensures.refusal (λ tells. g.met.K.Station.only_now tells c.args.station.now)
    (line_same s c.in-Err.ensures.refusal [] (name_by (config_of_bytes (g.C.Source.left c.args.config.now)) s))
    c.tell_fault.ensures.tells
    (λ tells. ⊎_elim (λ rose. inl rose) (λ is. inr (told c.args.station.now, is))
    (c.tell_fault.ensures.last tells (λ done. subst IsRefusal done c.in-Err.ensures.refusal)))
    refl (λ names has. has) c.in-Err.ensures.meaning (λ is. c.in-Err.ensures.cause (ap Err is)) refl

-- a run
pub returns-clause-run : goal.returns-clause-run
returns-clause-run g c =
    let k = g.K.Station in
    let files = g.T.Site.files c.args.site.now in
    let asked = g.T.Site.names_asked in
    let written = g.O.Sink.written in
    let course = c.args.asked.course in
    let old = c.args.station.now in
    let mid = c.count_by-status.new.station in
    let new = c.tell_fault-2.new.station in
    let s = c.count_by-status.result in
    let run = c.count_by-status.ensures.run in
    let means = c.in-Ok-read_config.ensures.meaning in
    let end = c.tell_fault-2.ensures in
    let before = shown_by g.C.Source g.T.Site g.K.Station g.O.Sink c.args.config.now c.args.site.now old c.args.out.now in
    let after = shown_by g.C.Source g.T.Site g.K.Station g.O.Sink c.read_config.new.config c.count_by-status.new.site new
    c.count_by-status.new.out in
    let name = name_by (config_of_bytes (g.C.Source.left c.args.config.now)) s in
    let quiet = (name : List ℕ) × Tells (fault_line s name) before after in
    let spoken : k.tells → StaysQuiet k old mid → quiet = λ tells still.
    (c.name_in.result.now, quiet_tells _ _ _ _ _ _ _ _ _ _ _ _ _ _ _ _ still (end.tells tells)) in
    let rose = CountRose (g.T.Site.faults c.args.site.now) (g.T.Site.faults c.count_by-status.new.site) in
    let line : g.C.Source.tells → fault_line s c.name_in.result.now ≡ fault_line s name = λ reads. ap (fault_line s) (c.name_in.ensures
    ∙ ap (λ (x : Result Config ConfigFault). name_by x s) (sym (means reads))) in
    record {
      every_moment = λ tells shows reads config is a holds lines f was.
          let same = same_ok (means reads) is in
          let r = recordings c.in-Ok-read_config.config files in
          let safe = run.safe tells shows a (subst (λ (x : Config). AllHold (recordings x files) a (k.leaves old)) (sym same) holds) in
          subst (λ (x : Config). KeepsTold (recordings x files) a (k.told old) lines f) same
          ((safe_fault r a _ _ _ _ _ _ _ _ _ _ _ _ _ safe _ (fault_below r _ _) (end.tells tells)).run.each lines f was);
      appends = λ tells first front ends was.
          let r = recordings c.in-Ok-read_config.config files in
          only_grown r first front _ _ (truly_fault r first front _ _ s c.name_in.result.now
          (run.appends tells files first front ends was) (end.tells tells));
      truly = λ tells reads config is files first front ends was.
          let r = recordings c.in-Ok-read_config.config files in
          subst (λ (x : Config). Since (k.clock old) (k.moments old) (k.clock new) (k.moments new)
          (TellsTruly (recordings x files) first front (k.told old) (k.leaves old))) (same_ok (means reads) is)
          (truly_fault r first front _ _ s c.name_in.result.now (run.appends tells files first front ends was) (end.tells tells)).run;
      paced = λ tells reads config is first front ends was.
          subst (λ (x : Config). TellsInPace course s x first front ends (fault_line s name) (k.clock old) (k.moments old) (k.told old)
          (k.leaves old) (k.clock new) (k.moments new) (k.told new) (k.leaves new)) (same_ok (means reads) is)
          (paced_fault course s c.in-Ok-read_config.config first front ends _ _ (fault_line s c.name_in.result.now) (fault_line s name)
          (line reads) (run.paced tells first front ends was) (end.tells tells));
      ended = λ tells shows reads config is a holds.
          subst (λ (x : Config). AllHold (recordings x files) a (k.leaves old) → HeldAt s (recordings x files) (k.leaves new))
          (same_ok (means reads) is) (λ all. held_fewer _ _ _ (end.tells tells).none_new s (run.ended tells shows a all)) holds;
      cut = λ tells shows reads config is a holds none.
          subst (λ (x : Config). AllHold (recordings x files) a (k.leaves old) → HeldCut s (recordings x files) (k.leaves new))
          (same_ok (means reads) is) (λ all. cut_fewer _ _ _ (end.tells tells).none_new s (run.cut tells shows a all none)) holds;
      memory = λ tells shows reads config is a holds none.
          subst (λ (x : Config). AllHold (recordings x files) a (k.leaves old) → QuietOr s course quiet
          (HoldLimited (recordings x files) (k.leaves new))) (same_ok (means reads) is)
          (λ all. or_both (spoken tells) (λ held f has. held f ((end.tells tells).none_new f has)) s course
          (run.memory tells shows a all none)) holds;
      prints = λ writes tells shows reads config is a holds.
          subst (λ (x : Config). AllHold (recordings x files) a (k.leaves old) → Prints s x (recordings x files).samples
          (written c.args.out.now) (written c.count_by-status.new.out)) (same_ok (means reads) is)
          (λ all. run.prints writes tells shows a all) holds;
      nothing = run.nothing;
      acknowledged = λ tells shows reads config is n h.
          let between = k.told c.count_by-status.new.station in
          let at_most = subst (λ (l : List ℕ). (k.told new ≡ between) ⊎ (k.told new ≡ between ++ l ∷ [])) (line reads)
          (end.tells tells).told_at_most in
          subst (λ (x : Config). Holds x.setup (recordings x files).samples n (k.seen old) →
          AcknowledgesBy course s ((rose → ⊥) × AreShort (recordings x files)) x.block (recordings x files) n (k.told old)
          (fault_line s name) (k.told new)) (same_ok (means reads) is)
          (λ held. acknowledged_by course _ _ _ _ _ (fault_line s name) between (k.told new) at_most s (end.nothing tells)
          (run.acknowledged tells shows n held)) h;
      answer_is = λ tells shows reads.
          count_answers (config_of_bytes (g.C.Source.left c.args.config.now)) c.in-Ok-read_config.config (k.seen old) files (means reads) s
          run.kind (run.answer_is tells shows);
      complete = λ tells shows reads config is n h fit sound source site station out.
          let by : (x : Config) → config ≡ x → (m : Holds x.setup (recordings x files).samples n (k.seen old)) × HeadsFit x
          m.head.heads files × AllSound x files (length x.gauges) =
          λ x e. subst (λ (y : Config). (m : Holds y.setup (recordings y files).samples n (k.seen old)) × HeadsFit y m.head.heads files
          × AllSound y files (length y.gauges)) e (h, fit, sound) in
          let here = by c.in-Ok-read_config.config (sym (same_ok (means reads) is)) in
          done_or_memory s (run.complete tells shows n here.0 here.1 here.2)
          (λ e. site (run.read e)) (λ e. out (run.write e)) (λ e. station (rose_more _ _ _ (run.disk e) end.later));
      quiet = λ tells leaves. spoken tells (run.quiet tells leaves);
      opens = λ tells shows reads.
          ⊎_elim (λ still. inl (spoken tells still)) (λ opened. inr (c.in-Ok-read_config.config, means reads, opened))
          (run.opens tells shows);
      named = not_usage_counting s run.kind;
      refused = run.refused;
      read = λ is. inr (run.read is);
      write = run.write;
      disk = λ is. rose_more _ _ _ (run.disk is) end.later;
      asked = λ reads. subst (λ (x : Result Config ConfigFault). CountAsks s (asked c.args.site.now)
          (asked c.count_by-status.new.site) (names_in x)) (sym (means reads)) run.asked;
      last = λ tells reads other. ⊎_elim (λ up. inl (rose_before _ _ _ run.later up))
          (λ is. inr (
            k.told c.count_by-status.new.station,
            is ∙ ap (λ (l : List ℕ). k.told c.count_by-status.new.station ++ l ∷ []) (line reads),
          ))
          (end.last tells other);
    }
