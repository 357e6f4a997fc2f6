use Rattle.std.proofs.Common.{◌≡◌, List, [], ◌∷◌, ◌++◌, ℕ, inl, inr, ⊎_elim, refl, sym, ap, ◌∙◌, subst, length}
use Rattle.std.specs.Prelude.{Ok, Err}
use Rattle.outside.specs.station.Station.{Image, Since}
use Rattle.outside.proofs.Faults.{rose_more, rose_before}
use Rattle.segment_store.specs.Quiet.{IsQuiet}
use Rattle.site_config.specs.Configuration.{config_of_bytes}
use Rattle.site_config.specs.declared.config.Config.{Config}
use Rattle.site_config.specs.recorded.Asked.{file_names}
use Rattle.status.specs.config_reading.Reading.{IsRefusal}
use Rattle.status.specs.fault_lines.FaultLine.{fault_line}
use Rattle.status.specs.Shown.{shown_by, Tells, line_for}
use Rattle.status.proofs.on_fault_lines.Telling.{quiet_tells}
use Rattle.init_command.specs.Heads.{IsHeadsStatus}
use Rattle.init_command.specs.Init.{init_line, InMaking, InitAnswers, IsInit, IsUnmade}
use Rattle.init_command.specs.InitRun.{no_output}
use Rattle.init_command.proofs.Asking.{making_asks}
use Rattle.init_command.proofs.InitRun.{left_unmade, left_unread}
use Rattle.init_command.proofs.AnswerCases.{one_config, by_making, still_unmade, not_read, no_name, heads_answer, made_answer, init_complete}
use Rattle.init_command.proofs.MakingMoments.{then_last}
use Rattle.init_command.proofs.Reading.{by_heads}
use Rattle.init_command.proofs.command.init_command.Goals as goal

-- before the configuration was read
pub returns-in_default-clause-run : goal.returns-in_default-clause-run
returns-in_default-clause-run g c =
    left_unread _ _ _ tt (λ tells. g.met.K.Station.seen_counts tells c.args.station.now) c.tell_no_memory.ensures.tells
    c.tell_no_memory.ensures.last (λ names has. has) (λ reads. tt) (λ is. absurd cc) refl

-- a configuration that is refused
pub returns-in-Err-clause-run : goal.returns-in-Err-clause-run
returns-in-Err-clause-run g c =
    let refused = c.in-Err.ensures in
    left_unread _ _ _ refused.refusal (λ tells. g.met.K.Station.seen_counts tells c.args.station.now) c.tell_fault.ensures.tells
    (λ tells. c.tell_fault.ensures.last tells (λ done. subst IsRefusal done refused.refusal)) (λ names has. has) refused.meaning
    (λ is. refused.cause (ap Err is)) refl

-- a head that is refused
pub returns-in-Err-read_heads-clause-run : goal.returns-in-Err-read_heads-clause-run
returns-in-Err-read_heads-clause-run g c =
    let s = c.in-Err-read_heads.status in
    let means = c.in-Ok-read_config.ensures.meaning in
    let heads = c.in-Err-read_heads.ensures in
    let kinds = by_heads (λ x. IsUnmade x × IsInit x) (λ gauge f. (tt, tt)) (tt, tt) (tt, tt) s heads.kind in
    left_unmade _ _ _ (fault_line s c.name_in.result.now) kinds.0 kinds.1
    (λ tells. g.met.K.Station.seen_counts tells c.args.station.now)
    (λ reads. rw (means reads) (ap (fault_line s) c.name_in.ensures)) c.tell_fault-in-Err-read_heads.ensures.tells
    (λ tells. c.tell_fault-in-Err-read_heads.ensures.last tells (λ done. subst IsHeadsStatus done heads.kind))
    (λ tells shows reads. heads_answer _ c.in-Ok-read_config.config (means reads) (g.T.Site.files c.args.site.now)
    (g.K.Station.seen c.args.station.now) s heads.kind (heads.answer shows))
    (λ is. inr (heads.cause (ap Err is))) (λ other. heads.steady (λ is. other cc)) (λ reads. rw (means reads) heads.asked)

-- a store that was made, or couldn't be
pub returns-clause-run : goal.returns-clause-run
returns-clause-run g c =
    let k = g.K.Station in
    let s = c.make_store-status.result in
    let files = g.T.Site.files c.args.site.now in
    let config = c.in-Ok-read_config.config in
    let heads = c.in-Ok-read_heads.heads in
    let are = c.in-Ok-read_heads.ensures in
    let read = config_of_bytes (g.C.Source.left c.args.config.now) in
    let means = c.in-Ok-read_config.ensures.meaning in
    let asked = g.T.Site.names_asked in
    let old = c.args.station.now in
    let mid = c.make_store-status.new.station in
    let new = c.tell_fault-2.new.station in
    let run = c.make_store-status.ensures in
    let end = c.tell_fault-2.ensures in
    let before = shown_by g.C.Source g.T.Site k no_output c.args.config.now c.args.site.now old tt in
    let after = shown_by g.C.Source g.T.Site k no_output c.read_config.new.config c.read_heads.new.site new tt in
    let line : g.C.Source.tells → line_for before s ≡ fault_line s [] = λ reads. ap (fault_line s) (no_name read config (means reads) s
    run.kind) in
    let gauges = ap init_line c.in-Ok-read_config.ensures.valid.gains in
    let at_most : g.C.Source.tells → k.tells → IsQuiet (k.clock old) (k.moments old) (k.clock mid) (k.moments mid) (k.told old) (k.told mid)
    (k.seen old) (k.seen mid) (k.leaves old) (k.leaves mid) → Tells (line_for before s) before after = λ reads tells quiet.
    rw (line reads) (quiet_tells _ _ _ _ _ _ _ _ _ _ _ _ _ _ _ _ quiet (end.tells tells)) in
    let moments : k.tells → g.T.Site.tells → g.C.Source.tells → (x : Config) → read ≡ Ok x →
    ((image : Image) → k.leaves old image → length image ≡ 0) →
    Since (k.clock old) (k.moments old) (k.clock new) (k.moments new) (InMaking x files (k.told old) (line_for before s)) =
    λ tells shows reads x is none.
    let made = run.any_moment tells none in
    rw (line reads, one_config is (means reads))
    (then_last config files (k.told old) (fault_line s []) heads (are.answer shows) (k.clock old) (k.clock mid)
    (k.clock new) (k.moments old) (k.moments mid) (k.moments new) (init_line (length config.setup.gains)) (k.told mid) (k.leaves mid)
    gauges made (λ image has. g.met.K.Station.counts_now tells mid (k.clock old) image made.later has) (end.tells tells).run) in
    let answers : k.tells → g.T.Site.tells → g.C.Source.tells → InitAnswers read files (k.seen old) s = λ tells shows reads.
    made_answer read config (means reads) files (k.seen old) heads (are.answer shows) s run.kind (run.answer tells) in
    record {
      made = λ tells shows reads x is done.
          let made = run.made tells done in
          let told = end.tells tells in
          rw (one_config is (means reads)) (record {
            is = (heads, are.answer shows, told.seen_same ∙ made.0);
            durable = λ image has. made.1 image (told.none_new image has) ∙ sym told.seen_same;
          });
      told = λ tells reads x is done.
          rw (one_config is (means reads))
          (end.nothing tells done ∙ run.told tells done ∙ ap (λ (l : List ℕ). k.told old ++ l ∷ []) gauges);
      any_moment = moments;
      ended = λ tells shows reads x is none.
          let all = moments tells shows reads x is none in
          all.each (k.told new) (k.seen new)
          (g.met.K.Station.counts_now tells new (k.clock old) (k.seen new) all.later (g.met.K.Station.seen_counts tells new));
      unmade = λ tells reads was. at_most reads tells (still_unmade s run.kind was (run.unmade tells));
      quiet = λ tells reads some. at_most reads tells (run.quiet tells some);
      last = λ tells reads other. ⊎_elim (λ rose. inl (rose_before _ _ _ run.later rose))
          (λ is. inr (k.told mid, rw (line reads) is)) (end.last tells other);
      answer_is = answers;
      complete = λ tells shows reads x is sound none no_config no_site no_station.
          init_complete read x files (k.seen old) is sound none s (answers tells shows reads) (not_read s run.kind)
          (λ disk. no_station (rose_more _ _ _ (run.disk disk) end.later));
      kind = by_making IsInit tt (λ n. tt) tt tt s run.kind;
      read = λ is. absurd (not_read s run.kind is);
      steady = λ other. are.steady (λ is. absurd cc);
      disk = λ is. rose_more _ _ _ (run.disk is) end.later;
      asked = λ reads. rw (means reads)
          (making_asks (asked c.args.site.now) (asked c.read_heads.new.site) (file_names config) are.asked s run.kind);
    }
