use Rattle.std.proofs.Common.{◌<◌, ◌+◌, ℕ, List, [], ◌∷◌, inl, ◌∙◌, length, ap, sym, subst, length-append, arith}
use Rattle.std.proofs.lemmas.List.{length-map, take_all}
use Rattle.std.specs.Prelude.{Ok, Err}
use Rattle.outside.specs.Site.{Asks}
use Rattle.recording.specs.declared.head.Head.{Head}
use Rattle.site_config.specs.recorded.Asked.{file_names}
use Rattle.site_config.specs.declared.config.Gauge.{Gauge}
use Rattle.site_config.proofs.on_recorded.Asking.{asks_file, asks_more}
use Rattle.init_command.specs.Heads.{AreHeadsBelow, AreHeads, HasHeadIn, HeadAnswer}
use Rattle.init_command.proofs.Asking.{head_asks}
use Rattle.init_command.proofs.Reading.{heads_more, heads_all, heads_refused, heads_status, file_for}
use Rattle.init_command.proofs.heads.read_heads.Goals as goal

pub returns-in-Err-clause-answer : goal.returns-in-Err-clause-answer
returns-in-Err-clause-answer g c = λ tells.
    let was = c.loop-gauge.invariant in
    let files = g.T.Site.files c.args.site.now in
    heads_refused c.args.config.now files c.loop-gauge.gauge c.loop-gauge.heads.items c.in-Err.status c.in-Err.ensures.kind
    (omega (arith, c.loop-gauge-test.true, ap length c.as_slice-gauges.ensures)) (was.each tells)
    (file_for c.args.config.now files (λ content. HeadAnswer content c.loop-gauge.gauge (Err c.in-Err.status))
    (g.T.Site.files c.loop-gauge.site) c.loop-gauge.gauge
    c.as_slice-gauges.result.now c.index-gauges-gauge.result c.as_str.result.now c.as_slice-gauges.ensures c.loop-gauge-test.true
    c.as_str.ensures (was.files tells)
    (c.in-Err.ensures.answer tells))

pub loop-gauge-preserved : goal.loop-gauge-preserved
loop-gauge-preserved g c =
    let was = c.loop-gauge.invariant in
    let now = c.in-Ok-read_head_of.ensures in
    let h = c.in-Ok-read_head_of.head in
    let old = c.loop-gauge.heads.items in
    let files = g.T.Site.files c.args.site.now in
    let asked = g.T.Site.names_asked in
    let lt : c.loop-gauge.gauge < length c.args.config.now.gauges =
    omega (arith, c.loop-gauge-test.true, ap length c.as_slice-gauges.ensures) in
    record {
      each = λ tells. subst (λ (l : List Head). AreHeadsBelow c.args.config.now files (c.loop-gauge.gauge + 1) l)
          (sym c.push_reserved.ensures.items)
          (heads_more c.args.config.now files c.loop-gauge.gauge old h was.many (was.each tells)
          (file_for c.args.config.now files (λ content. HasHeadIn content (Ok h)) (g.T.Site.files c.loop-gauge.site) c.loop-gauge.gauge
          c.as_slice-gauges.result.now c.index-gauges-gauge.result c.as_str.result.now c.as_slice-gauges.ensures c.loop-gauge-test.true
          c.as_str.ensures (was.files tells)
          (now.answer tells)));
      many = omega (arith, was.many, ap length c.push_reserved.ensures.items, length-append old (h ∷ []));
      room = omega (arith, was.room, c.push_reserved.ensures.capacity);
      steady = now.steady (λ e. absurd cc) ∙ was.steady;
      asked = asks_more c.args.config.now c.loop-gauge.gauge (asked c.args.site.now) (asked c.loop-gauge.site) was.asked
          (asked c.read_head_of.new.site) lt (asks_file c.args.config.now c.loop-gauge.gauge c.as_slice-gauges.result.now
          c.index-gauges-gauge.result c.as_str.result.now lt c.as_slice-gauges.ensures c.as_str.ensures (asked c.loop-gauge.site)
          (asked c.read_head_of.new.site) c.read_head_of.ensures.asked);
      back = now.back;
      files = λ tells. now.files tells ∙ was.files tells;
    }

pub returns-clause-answer : goal.returns-clause-answer
returns-clause-answer g c = λ tells.
    let was = c.loop-gauge.invariant in
    let files = g.T.Site.files c.args.site.now in
    subst (λ (l : List Head). AreHeads c.args.config.now files l) (sym c.from_vec.ensures)
    (heads_all c.args.config.now files c.loop-gauge.gauge c.loop-gauge.heads.items was.many
    (omega (arith, c.loop-gauge-test.false, c.loop-gauge.auto.gauge-end, ap length c.as_slice-gauges.ensures)) (was.each tells))

pub returns-in-Err-clause-kind : goal.returns-in-Err-clause-kind
returns-in-Err-clause-kind g c = heads_status c.loop-gauge.gauge c.in-Err.status c.in-Err.ensures.kind

pub returns-in-Err-clause-asked : goal.returns-in-Err-clause-asked
returns-in-Err-clause-asked g c =
    let asked = g.T.Site.names_asked in
    let config = c.args.config.now in
    let lt : c.loop-gauge.gauge < length config.gauges = omega (arith, c.loop-gauge-test.true, ap length c.as_slice-gauges.ensures) in
    head_asks (asked c.args.site.now) (asked c.read_head_of.new.site) (file_names config) c.loop-gauge.gauge
    (omega (arith, lt, length-map config.gauges (λ (gauge : Gauge). gauge.file)))
    (asks_more config c.loop-gauge.gauge (asked c.args.site.now) (asked c.loop-gauge.site) c.loop-gauge.invariant.asked
    (asked c.read_head_of.new.site) lt (asks_file config c.loop-gauge.gauge c.as_slice-gauges.result.now
    c.index-gauges-gauge.result c.as_str.result.now lt c.as_slice-gauges.ensures c.as_str.ensures (asked c.loop-gauge.site)
    (asked c.read_head_of.new.site) c.read_head_of.ensures.asked)) c.in-Err.status c.in-Err.ensures.kind

pub returns-clause-asked : goal.returns-clause-asked
returns-clause-asked g c =
    let names = file_names c.args.config.now in
    subst (λ (l : List (List ℕ)). Asks (g.T.Site.names_asked c.args.site.now) (g.T.Site.names_asked c.loop-gauge.site) l)
    (take_all c.loop-gauge.gauge names (omega (
      arith,
      c.loop-gauge-test.false,
      ap length c.as_slice-gauges.ensures,
      length-map c.args.config.now.gauges (λ (gauge : Gauge). gauge.file),
    ))) c.loop-gauge.invariant.asked

pub returns-in_default-clause-asked : goal.returns-in_default-clause-asked
returns-in_default-clause-asked g c = inl (λ names has. has)
