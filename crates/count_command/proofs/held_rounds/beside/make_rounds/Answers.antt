use Rattle.std.proofs.Common.{ℕ, ◌++◌, length, refl, sym, ◌∙◌, ap, subst, arith}
use Rattle.std.proofs.lemmas.Result.{IfOk-from_err}
use Rattle.calibration.specs.declared.setup.Setup.{Setup}
use Rattle.board.specs.Board.{BoardValue}
use Rattle.store_bytes.specs.store_head.Head.{HeadValue}
use Rattle.segment_store.specs.Held.{ends_of}
use Rattle.site_config.specs.Valid.{name_of}
use Rattle.site_config.specs.recorded.Recorded.{recordings}
use Rattle.count_command.specs.held_samples.Fronts.{AreFronts, FrontsStand}
use Rattle.count_command.specs.held_samples.Kept.{recorded, beginning}
use Rattle.count_command.proofs.on_held_samples.Going.{going_starts, going_then, stored_beginning, on_both, on_any, cause_since, cause_of}
use Rattle.count_command.specs.held_samples.Pace.{window_of}
use Rattle.count_command.proofs.on_held_samples.Pace.{paced_starts, paced_then, paced_where, no_done}
use Rattle.count_command.specs.held_rounds.Beside.{Leads}
use Rattle.count_command.specs.held_rounds.Telling.{HasTold}
use Rattle.count_command.proofs.on_held_rounds.Ahead.{IsAhead, ahead_first, ahead_on, ahead_last}
use Rattle.count_command.proofs.on_held_rounds.LeadsOn.{leads_next, stands_next, held_after, held_last, board_for}
use Rattle.count_command.proofs.on_held_rounds.RoundOf.{can_first}
use Rattle.site_lanes.proofs.AllLanes.{sources_after, all_faulty_after, ready_after, whole_before}
use Rattle.count_command.proofs.held_rounds.beside.make_rounds.Goals as goal

pub loop-init : goal.loop-init
loop-init g c =
    let done = c.round.ensures.done in
    let out = c.exchange-board.ensures.out in
    let same = c.exchange-board.ensures.same in
    let count = c.requires.opened.count ∙ sym c.requires.rounds.gauges in
    let ends = ends_of c.args.store.now.held in
    let can = can_first ends c.args.lanes.now c.requires.opened.held in
    record {
      usable = c.requires.opened.usable;
      head = refl;
      gauges = (refl, same.gauges ∙ done.gauges ∙ c.requires.rounds.gauges, done.long);
      grid = same.grid ∙ done.grid ∙ c.requires.rounds.grid;
      block = same.block ∙ done.block ∙ c.requires.rounds.block;
      board = board_for c.args.prepared.now _ _ _ _ done.board done.grid done.block done.gauges same out;
      leads = subst (λ (b : BoardValue). Leads c.args.store.now.head.setup ends b c.round.new.lanes) (sym out)
          (leads_next done count ends c.requires.opened.held c.args.store.now.head.setup
          (c.requires.rounds.grid ∙ ap (λ (s : Setup). s.grid) (sym c.requires.opened.setup)));
      can = ready_after done count can;
      sources = sources_after done count can;
      faulty = all_faulty_after done count can c.requires.opened.faulty;
      there = c.requires.opened.there;
      read = λ reads files lanes.
          let both = stands_next done count ends c.requires.opened.held (recordings c.args.run.now.config.now files)
          (sym c.requires.opened.count) reads
          lanes in
          (both.0, subst (λ (b : BoardValue). FrontsStand (recordings c.args.run.now.config.now files) b) (sym out) both.1);
      going = λ tells reads files lanes stored. (
        going_starts (recordings c.args.run.now.config.now files) _ _ _ _ _ _ stored
            (g.met.K.Station.only_now tells c.args.station.now),
        stored,
      );
      appends = λ tells files front on.
          let stored = stored_beginning c.args.store.now front _ _ on in (
            going_starts (recordings c.args.run.now.config.now files) _ _ _ _ _ _ stored
                (g.met.K.Station.only_now tells c.args.station.now),
            stored,
          );
      paced = λ tells bodies on. paced_starts (name_of c.args.run.now.config.now) (window_of c.args.run.now.config.now) _ bodies _ _ _ _ _ _ on
          (g.met.K.Station.only_now tells c.args.station.now);
      told = λ tells reads files lanes n told was whole.
          let r = recordings c.args.run.now.config.now files in
          let first = g.K.Station.told c.args.station.now in
          subst (λ (b : ℕ). IsAhead b r n told first ends c.round.new.lanes) c.requires.rounds.block
          (ahead_first done count r (sym c.requires.opened.count) reads lanes n told first ends c.requires.opened.held whole
          (subst (λ (b : ℕ). HasTold b r n told first c.args.lanes.now) (sym c.requires.rounds.block) was));
      later = omega arith;
      follows = c.requires.follows;
    }

pub round_beside-requires-clause-fronts : goal.round_beside-requires-clause-fronts
round_beside-requires-clause-fronts g c = λ lifetimes outlive.
    let was = c.loop.invariant in
    subst (λ (n : ℕ). AreFronts c.loop.store.head.setup (ends_of c.loop.store.held) c.loop.board n) (was.gauges.2 ∙ c.requires.opened.count)
    was.leads.fronts

pub store_fronts-requires-clause-fronts : goal.store_fronts-requires-clause-fronts
store_fronts-requires-clause-fronts g c =
    let was = c.loop.invariant in
    subst (λ (n : ℕ). AreFronts c.loop.store.head.setup (ends_of c.loop.store.held) c.loop.board n) (was.gauges.2 ∙ c.requires.opened.count)
    was.leads.fronts

pub returns-then-have_ended-clause-made : goal.returns-then-have_ended-clause-made
returns-then-have_ended-clause-made g c =
    let was = c.loop.invariant in
    let stores = c.store_fronts.ensures.stores in
    let result = c.store_fronts.result in
    let held = held_last (length c.args.run.now.config.now.gauges) c.loop.lanes (was.gauges.2 ∙ c.requires.opened.count) was.can
    c.loop.store.head.setup
    (ends_of c.loop.store.held) c.loop.board was.leads result _ stores.ends in
    record {
      going = λ tells reads files lanes stored.
          let so_far = was.going tells reads files lanes stored in
          going_then so_far.0 (stores.going tells files (recorded (recordings c.args.run.now.config.now files)) so_far.1
          (was.read reads files lanes).1);
      appends = λ tells files front on.
          let so_far = was.appends tells files front on in
          going_then so_far.0 (stores.going tells files (beginning c.args.store.now.head front) so_far.1 (λ h d lt is some. tt));
      paced = λ tells bodies on.
          let so_far = was.paced tells bodies on in
          paced_then so_far tt
          (stores.paced tells (was.board.1 ∙ was.block) (bodies ++ (so_far.level tt).more) (so_far.level tt).on);
      stored = λ tells reads files lanes stored.
          let so_far = was.going tells reads files lanes stored in
          stores.stored tells (recorded (recordings c.args.run.now.config.now files)) so_far.1 (was.read reads files lanes).1;
      read = λ reads files lanes. on_any result (was.read reads files lanes).0;
      lines = λ tells reads files lanes n told had.
          let r = recordings c.args.run.now.config.now files in
          on_both result (λ to lines whole. ahead_last c.args.run.now.config.now.block r n told (g.K.Station.told c.loop.station)
          (g.K.Station.told c.store_fronts.new.station) (ends_of c.loop.store.held) (ends_of c.store_fronts.new.store.held) c.loop.lanes
          (sym (was.gauges.2 ∙ c.requires.opened.count)) to lines (was.told tells reads files lanes n told had whole)) held
          (stores.lines tells);
      ended = on_any result (c.have_ended.ensures.0 c.if-have_ended.true);
      there = stores.there;
      held = held;
      sources = was.sources;
      faulty = was.faulty;
      head = stores.head ∙ was.head;
      gauges = (stores.gauges ∙ was.gauges.0, was.gauges.2);
      cause = cause_since result was.later stores.cause;
    }

pub returns-in_err-round_beside-clause-made : goal.returns-in_err-round_beside-clause-made
returns-in_err-round_beside-clause-made g c =
    let was = c.loop.invariant in
    let stores = c.round_beside.ensures.stores in
    let result = c.from_residual.result in
    let failed = c.from_residual.ensures.0 in
    let done = c.round_beside.ensures.round in
    let count = was.gauges.2 ∙ c.requires.opened.count ∙ sym was.gauges.1 in
    record {
      going = λ tells reads files lanes stored.
          let so_far = was.going tells reads files lanes stored in
          going_then so_far.0 (stores.going tells files (recorded (recordings c.args.run.now.config.now files)) so_far.1
          (was.read reads files lanes).1);
      appends = λ tells files front on.
          let so_far = was.appends tells files front on in
          going_then so_far.0 (stores.going tells files (beginning c.args.store.now.head front) so_far.1 (λ h d lt is some. tt));
      paced = λ tells bodies on.
          let so_far = was.paced tells bodies on in
          paced_where (λ done. absurd (no_done result failed done)) (paced_then so_far tt
          (stores.paced tells (was.board.1 ∙ was.block) (bodies ++ (so_far.level tt).more) (so_far.level tt).on));
      stored = λ tells reads files lanes stored. IfOk-from_err result _ failed;
      read = λ reads files lanes. IfOk-from_err result _ failed;
      lines = λ tells reads files lanes n told had. IfOk-from_err result _ failed;
      ended = IfOk-from_err result _ failed;
      there = λ tells. IfOk-from_err result _ failed;
      held = IfOk-from_err result _ failed;
      sources = sources_after done count was.can;
      faulty = all_faulty_after done count was.can was.faulty;
      head = stores.head ∙ was.head;
      gauges = (stores.gauges ∙ was.gauges.0, done.long ∙ was.gauges.2);
      cause = cause_of result was.later stores.cause.later c.in_err-round_beside.ensures.stores.cause.failed;
    }

pub loop-preserved : goal.loop-preserved
loop-preserved g c =
    let was = c.loop.invariant in
    let now = c.in_ok-round_beside.ensures in
    let done = c.round_beside.ensures.round in
    let out = c.exchange-board-in-loop.ensures.out in
    let same = c.exchange-board-in-loop.ensures.same in
    let count = was.gauges.2 ∙ c.requires.opened.count ∙ sym was.gauges.1 in
    let ends = ends_of c.loop.store.held in
    let ends2 = ends_of c.round_beside.new.store.held in
    let held = held_after (length c.args.run.now.config.now.gauges) c.loop.lanes (was.gauges.2 ∙ c.requires.opened.count) was.can
    c.loop.store.head.setup ends c.loop.board was.leads ends2 now.stores.ends in
    let setup = was.grid ∙ ap (λ (s : Setup). s.grid) (sym c.requires.opened.setup ∙ ap (λ (h : HeadValue). h.setup) (sym (c.round_beside.ensures.stores.head ∙ was.head))) in
    record {
      usable = now.stores.usable;
      head = c.round_beside.ensures.stores.head ∙ was.head;
      gauges = (c.round_beside.ensures.stores.gauges ∙ was.gauges.0, same.gauges ∙ done.gauges ∙ was.gauges.1, done.long ∙ was.gauges.2);
      grid = same.grid ∙ done.grid ∙ was.grid;
      block = same.block ∙ done.block ∙ was.block;
      board = board_for c.loop.prepared _ _ _ _ done.board done.grid done.block done.gauges same out;
      leads = subst (λ (b : BoardValue). Leads c.round_beside.new.store.head.setup ends2 b c.round_beside.new.lanes) (sym out)
          (leads_next done count ends2 held c.round_beside.new.store.head.setup setup);
      can = ready_after done count was.can;
      sources = sources_after done count was.can;
      faulty = all_faulty_after done count was.can was.faulty;
      there = now.stores.there;
      read = λ reads files lanes.
          let both = stands_next done count ends2 held (recordings c.args.run.now.config.now files)
          (sym (was.gauges.2 ∙ c.requires.opened.count)) reads
          (was.read reads files lanes).0 in
          (both.0, subst (λ (b : BoardValue). FrontsStand (recordings c.args.run.now.config.now files) b) (sym out) both.1);
      going = λ tells reads files lanes stored.
          let so_far = was.going tells reads files lanes stored in
          let stand = (was.read reads files lanes).1 in
          let kept = recorded (recordings c.args.run.now.config.now files) in (
            going_then so_far.0 (c.round_beside.ensures.stores.going tells files kept so_far.1 stand),
            now.stores.stored tells kept so_far.1 stand,
          );
      appends = λ tells files front on.
          let so_far = was.appends tells files front on in
          let kept = beginning c.args.store.now.head front in (
            going_then so_far.0 (c.round_beside.ensures.stores.going tells files kept so_far.1 (λ h d lt is some. tt)),
            now.stores.stored tells kept so_far.1 (λ h d lt is some. tt),
          );
      paced = λ tells bodies on.
          let so_far = was.paced tells bodies on in
          paced_where (λ done. refl) (paced_then so_far tt (now.stores.paced tells (was.board.1 ∙ was.block)
          (bodies ++ (so_far.level tt).more) (so_far.level tt).on));
      told = λ tells reads files lanes n told had whole.
          let r = recordings c.args.run.now.config.now files in
          let before = g.K.Station.told c.loop.station in
          let after = g.K.Station.told c.round_beside.new.station in
          let many = sym (was.gauges.2 ∙ c.requires.opened.count) in
          let so_far = was.told tells reads files lanes n told had (whole_before done count was.can whole) in
          subst (λ (b : ℕ). IsAhead b r n told after ends2 c.round_beside.new.lanes) was.block
          (ahead_on done count r many reads (was.read reads files lanes).0 n told before after ends ends2 held whole
          (now.stores.lines tells) (subst (λ (b : ℕ). IsAhead b r n told before ends c.loop.lanes) (sym was.block) so_far));
      later = omega (arith, was.later, c.round_beside.ensures.stores.cause.later);
      follows = c.round_beside.ensures.follows;
    }
