use Rattle.std.proofs.Common.{sym, ◌∙◌, ap, subst, arith}
use Rattle.std.specs.Prelude.{Some, None}
use Rattle.calibration.specs.declared.setup.Setup.{Setup}
use Rattle.recount.specs.declared.count.Recount.{Recount}
use Rattle.audit_command.specs.Audited.{IsItem}
use Rattle.audit_command.specs.Recounted.{IsRecountOf}
use Rattle.audit_command.proofs.Audits.{all_more_same, audited}
use Rattle.audit_command.proofs.compared.first_other.Goals as goal

pub loop-gauge-preserved : goal.loop-gauge-preserved
loop-gauge-preserved c = λ w are.
    let found = c.index-recounts-gauge in
    let grid = c.held-held.ensures.grid ∙ ap (λ (s : Setup). s.grid) c.requires.setup in
    let here = subst (λ (x : Recount). IsRecountOf c.args.config.now c.loop-gauge.gauge x (w c.loop-gauge.gauge))
    (sym c.index-recounts-gauge.is)
    (are c.loop-gauge.gauge c.index-recounts-gauge.result (omega (arith, c.loop-gauge-test.true))) in
    all_more_same c.args.config.now (IsItem c.args.store.now.held) w c.loop-gauge.gauge (c.loop-gauge.invariant w are)
    (audited c.args.config.now c.args.store.now.held w c.loop-gauge.gauge c.held-held.result.now c.index-recounts-gauge.result None
    (c.held-held.ensures.held c.held-held.result.now) c.grid-grid.ensures.rules grid here c.in_default.ensures)

pub returns-in-Some-clause-finds : goal.returns-in-Some-clause-finds
returns-in-Some-clause-finds c = λ w are.
    let grid = c.held-held.ensures.grid ∙ ap (λ (s : Setup). s.grid) c.requires.setup in
    let here = subst (λ (x : Recount). IsRecountOf c.args.config.now c.loop-gauge.gauge x (w c.loop-gauge.gauge))
    (sym c.index-recounts-gauge.is)
    (are c.loop-gauge.gauge c.index-recounts-gauge.result (omega (arith, c.loop-gauge-test.true))) in (
      omega (arith, c.loop-gauge-test.true, c.requires.all),
      c.loop-gauge.invariant w are,
      audited c.args.config.now c.args.store.now.held w c.loop-gauge.gauge c.held-held.result.now c.index-recounts-gauge.result
          (Some c.in-Some.other)
          (c.held-held.ensures.held c.held-held.result.now) c.grid-grid.ensures.rules grid here c.in-Some.ensures,
    )

pub returns-clause-finds : goal.returns-clause-finds
returns-clause-finds c = λ w are h lt. c.loop-gauge.invariant w are h (omega (arith, lt, c.loop-gauge-test.false, c.requires.all))
