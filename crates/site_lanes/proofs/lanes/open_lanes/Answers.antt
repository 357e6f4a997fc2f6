use Rattle.std.proofs.Common.{◌≡◌, ℕ, length, ◌∙◌, ap, subst, arith, slice_index}
use Rattle.std.specs.Prelude.{Err, None}
use Rattle.outside.specs.Site.{Files}
use Rattle.segment_store.specs.Held.{ends_of}
use Rattle.count_workers.specs.lane_loans.Lent.{CanRound}
use Rattle.count_workers.specs.declared.lane_loans.lane.Lane.{Lane}
use Rattle.recording.specs.declared.lane_ends.end.End.TheVariants.{More}
use Rattle.site_config.specs.recorded.Recorded.{recordings}
use Rattle.site_config.specs.recorded.Asked.{file_names}
use Rattle.site_config.proofs.on_recorded.Asking.{asks_more}
use Rattle.site_lanes.specs.Answers.{GaugeAnswers, FaultOf}
use Rattle.site_lanes.specs.Lanes.{HasSource, HasNoFaults, IsLane}
use Rattle.site_lanes.proofs.Asking.{up_to, all_asked, refused_asks}
use Rattle.site_lanes.proofs.Opened.{open_refused, all_more_opened}
use Rattle.site_lanes.proofs.lanes.open_lanes.Goals as goal
use Rattle.lemmas.proofs.Lists.{each_more}

pub returns-in-Err-clause-answer : goal.returns-in-Err-clause-answer
returns-in-Err-clause-answer g c = λ shows.
    let was = c.loop-gauge.invariant in
    let n = slice_index (ends_of c.args.store.now.held) in
    open_refused (Lane g.row.T-Src.Denot) c.args.config.now c.args.store.now.head.heads n (g.T.Site.files c.args.site.now)
    c.loop-gauge.gauge
    (omega (arith, ap length c.as_slice-gauge-end.ensures)) (was.sound shows) c.in-Err.status
    (subst (λ (f : Files). GaugeAnswers {A = Lane g.row.T-Src.Denot} c.args.config.now c.args.store.now.head.heads n f c.loop-gauge.gauge
    (Err c.in-Err.status)) (was.files shows) (c.in-Err.ensures.answer shows))

pub loop-gauge-preserved : goal.loop-gauge-preserved
loop-gauge-preserved g c =
    let was = c.loop-gauge.invariant in
    let now = c.in-Ok.ensures in
    let l = c.in-Ok.lane in
    let old = c.loop-gauge.lanes.items in
    let more = c.push_reserved.new.self.items in
    let is = c.push_reserved.ensures.items in
    let long : c.loop-gauge.gauge ≡ length old = omega (arith, was.many, c.loop-gauge.lanes.ok.0) in
    let n = slice_index (ends_of c.args.store.now.held) in
    let r = recordings c.args.config.now (g.T.Site.files c.args.site.now) in
    let asked = g.T.Site.names_asked in
    record {
      out = omega (arith, now.one_more, was.out, c.push_reserved.ensures.len);
      many = omega (arith, was.many, c.push_reserved.ensures.len);
      room = c.push_reserved.ensures.capacity ∙ was.room;
      sources = each_more (λ (k : ℕ) (x : Lane g.row.T-Src.Denot). HasSource x) old more l c.loop-gauge.gauge is long
          was.sources now.source;
      new = each_more (λ (k : ℕ) (x : Lane g.row.T-Src.Denot). x.end ≡ More) old more l c.loop-gauge.gauge is long was.new now.new;
      held = each_more (λ (k : ℕ) (x : Lane g.row.T-Src.Denot). CanRound k x × (n k ≡ x.at)) old more l c.loop-gauge.gauge is long
          was.held now.held;
      source_tells = λ shows some. now.source_tells shows;
      lanes = λ shows. each_more (λ (k : ℕ) (x : Lane g.row.T-Src.Denot). IsLane g.T.Src.Source.tells g.T.Src.Source.left r k x) old more l
          c.loop-gauge.gauge is long (was.lanes shows)
          (subst (λ (f : Files). IsLane g.T.Src.Source.tells g.T.Src.Source.left (recordings c.args.config.now f) c.loop-gauge.gauge l)
          (was.files shows) (now.lane shows));
      sound = λ shows. all_more_opened c.args.config.now c.args.store.now.head.heads n (g.T.Site.files c.args.site.now) c.loop-gauge.gauge
          (was.sound shows)
          (subst (λ (f : Files). FaultOf c.args.config.now c.args.store.now.head.heads n f c.loop-gauge.gauge None) (was.files shows)
          (now.answer shows));
      asked = asks_more c.args.config.now c.loop-gauge.gauge (asked c.args.site.now) (asked c.loop-gauge.site) was.asked
          (asked c.open_lane.new.site) (omega (arith, ap length c.as_slice-gauge-end.ensures)) c.open_lane.ensures.asked;
      files = λ shows. c.open_lane.ensures.files shows ∙ was.files shows;
      faults = c.open_lane.ensures.steady (λ e. absurd cc) ∙ was.faults;
      fresh = each_more (λ (k : ℕ) (x : Lane g.row.T-Src.Denot). HasNoFaults g.T.Src.Source.faults x) old more l c.loop-gauge.gauge is
          long was.fresh now.fresh;
    }

pub returns-clause-answer : goal.returns-clause-answer
returns-clause-answer g c =
    λ shows h lt. c.loop-gauge.invariant.sound shows h (omega (arith, lt, c.loop-gauge-test.false, ap length c.as_slice-gauge-end.ensures))

pub returns-in-Err-clause-asked : goal.returns-in-Err-clause-asked
returns-in-Err-clause-asked g c =
    let asked = g.T.Site.names_asked in
    refused_asks c.loop-gauge.gauge (asked c.args.site.now) (asked c.open_lane.new.site) (file_names c.args.config.now)
    (up_to c.args.config.now c.loop-gauge.gauge (asked c.args.site.now) (asked c.loop-gauge.site) c.loop-gauge.invariant.asked
    (asked c.open_lane.new.site) (omega (arith, ap length c.as_slice-gauge-end.ensures)) c.open_lane.ensures.asked)
    c.in-Err.status c.in-Err.ensures.own

pub returns-clause-asked : goal.returns-clause-asked
returns-clause-asked g c =
    all_asked c.args.config.now c.loop-gauge.gauge (g.T.Site.names_asked c.args.site.now) (g.T.Site.names_asked c.loop-gauge.site)
    c.loop-gauge.invariant.asked (omega (arith, c.loop-gauge-test.false, ap length c.as_slice-gauge-end.ensures))
