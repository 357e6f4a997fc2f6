use Rattle.std.proofs.Common.{ℕ, List, ◌++◌, string_bytes, ◌∙◌, ap, arith}
use Rattle.demo_command.specs.Summary.{head_line}
use Rattle.demo_command.proofs.Summing.{text_starts, text_more, text_all}
use Rattle.demo_command.proofs.text.summary_text.Goals as goal

pub loop-gauge-init : goal.loop-gauge-init
loop-gauge-init c = text_starts c.args.seed c.args.samples c.args.totals.now (string_bytes c.push_head.new.text)
    (c.in_ok-push_head.ensures ∙ ap (λ (l : List ℕ). l ++ head_line c.args.seed c.args.samples) c.new-text.ensures.bytes)

pub loop-gauge-preserved : goal.loop-gauge-preserved
loop-gauge-preserved c =
    text_more c.args.seed c.args.samples c.args.totals.now c.requires.long c.requires.totals c.loop-gauge.gauge c.index-totals-gauge.result
    (string_bytes c.loop-gauge.text) (string_bytes c.push_gauge.new.text) (omega (arith, c.loop-gauge-test.true, c.requires.long))
    c.index-totals-gauge.is
    c.in_ok-push_gauge.ensures c.loop-gauge.invariant

pub returns : goal.returns
returns c = text_all c.args.seed c.args.samples c.args.totals.now c.requires.long c.requires.totals (string_bytes c.loop-gauge.text)
    c.loop-gauge.gauge
    (omega (arith, c.loop-gauge-test.false, c.loop-gauge.auto.gauge-end, c.requires.long)) c.loop-gauge.invariant
