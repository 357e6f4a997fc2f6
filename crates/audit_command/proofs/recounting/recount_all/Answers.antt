use Rattle.std.proofs.Common.{◌≡◌, length, ◌∙◌, ap, subst, arith, slice_index}
use Rattle.std.specs.Prelude.{Err, None}
use Rattle.outside.specs.Site.{Files}
use Rattle.recount.specs.declared.count.Recount.{Recount}
use Rattle.segment_store.specs.Held.{ends_of}
use Rattle.site_config.specs.recorded.Recorded.{recordings}
use Rattle.site_config.specs.recorded.Asked.{file_names}
use Rattle.site_config.proofs.on_recorded.Asking.{asks_more}
use Rattle.site_lanes.specs.Answers.{GaugeAnswers, FaultOf}
use Rattle.site_lanes.proofs.Asking.{up_to, all_asked, refused_asks}
use Rattle.site_lanes.proofs.Opened.{open_refused, all_more_opened}
use Rattle.audit_command.proofs.Recounts.{recounts_more, first_again}
use Rattle.audit_command.proofs.recounting.recount_all.Goals as goal

pub returns-in-Err-clause-answer : goal.returns-in-Err-clause-answer
returns-in-Err-clause-answer g c = λ shows.
    let was = c.loop-gauge.invariant in
    let n = slice_index (ends_of c.args.store.now.held) in
    open_refused Recount c.args.config.now c.args.store.now.head.heads n (g.T.Site.files c.args.site.now) c.loop-gauge.gauge
    (omega (arith, ap length c.as_slice-gauge-end.ensures)) (was.sound shows) c.in-Err.status
    (subst (λ (f : Files). GaugeAnswers {A = Recount} c.args.config.now c.args.store.now.head.heads n f c.loop-gauge.gauge
    (Err c.in-Err.status)) (was.files shows) (c.in-Err.ensures.answer shows))

pub loop-gauge-preserved : goal.loop-gauge-preserved
loop-gauge-preserved g c =
    let was = c.loop-gauge.invariant in
    let now = c.in-Ok.ensures in
    let n = slice_index (ends_of c.args.store.now.held) in
    let t = g.T.Site in
    let long : c.loop-gauge.gauge ≡ length c.loop-gauge.recounts.items = omega (arith, was.many, c.loop-gauge.recounts.ok.0) in
    record {
      many = omega (arith, was.many, c.push_reserved.ensures.len);
      room = c.push_reserved.ensures.capacity ∙ was.room;
      counted = recounts_more c.args.config.now t.tells (recordings c.args.config.now (t.files c.args.site.now)).samples n
          c.loop-gauge.recounts.items
          c.push_reserved.new.self.items c.in-Ok.recount c.loop-gauge.gauge c.push_reserved.ensures.items long was.counted
          (first_again c.args.config.now t.tells (t.files c.loop-gauge.site) (t.files c.args.site.now) n c.loop-gauge.gauge c.in-Ok.recount
          was.files now.counted);
      sound = λ shows. all_more_opened c.args.config.now c.args.store.now.head.heads n (t.files c.args.site.now) c.loop-gauge.gauge
          (was.sound shows)
          (subst (λ (f : Files). FaultOf c.args.config.now c.args.store.now.head.heads n f c.loop-gauge.gauge None) (was.files shows)
          (now.answer shows));
      asked = asks_more c.args.config.now c.loop-gauge.gauge (t.names_asked c.args.site.now) (t.names_asked c.loop-gauge.site) was.asked
          (t.names_asked c.recount_gauge.new.site) (omega (arith, ap length c.as_slice-gauge-end.ensures)) c.recount_gauge.ensures.asked;
      back = c.recount_gauge.ensures.back;
      files = λ shows. c.recount_gauge.ensures.files shows ∙ was.files shows;
      faults = c.recount_gauge.ensures.steady (λ e. absurd cc) ∙ was.faults;
    }

pub returns-clause-answer : goal.returns-clause-answer
returns-clause-answer g c =
    λ shows h lt. c.loop-gauge.invariant.sound shows h (omega (arith, lt, c.loop-gauge-test.false, ap length c.as_slice-gauge-end.ensures))

pub returns-in-Err-clause-asked : goal.returns-in-Err-clause-asked
returns-in-Err-clause-asked g c =
    let asked = g.T.Site.names_asked in
    refused_asks c.loop-gauge.gauge (asked c.args.site.now) (asked c.recount_gauge.new.site) (file_names c.args.config.now)
    (up_to c.args.config.now c.loop-gauge.gauge (asked c.args.site.now) (asked c.loop-gauge.site) c.loop-gauge.invariant.asked
    (asked c.recount_gauge.new.site) (omega (arith, ap length c.as_slice-gauge-end.ensures)) c.recount_gauge.ensures.asked)
    c.in-Err.status c.in-Err.ensures.own

pub returns-clause-asked : goal.returns-clause-asked
returns-clause-asked g c =
    all_asked c.args.config.now c.loop-gauge.gauge (g.T.Site.names_asked c.args.site.now) (g.T.Site.names_asked c.loop-gauge.site)
    c.loop-gauge.invariant.asked (omega (arith, c.loop-gauge-test.false, ap length c.as_slice-gauge-end.ensures))
