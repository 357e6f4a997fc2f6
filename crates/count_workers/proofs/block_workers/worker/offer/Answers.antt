use Rattle.std.proofs.Common.{refl, sym, ap, ◌∙◌, [], ◌∷◌, ◌++◌}
use Rattle.count_workers.specs.block_workers.Working.{waiting_in}
use Rattle.count_workers.proofs.on_block_workers.Steps.{ok_leads, err_leads, hands_none, hands_one}
use Rattle.count_workers.proofs.block_workers.worker.offer.Goals as goal

pub returns-in-Some-clause-handed : goal.returns-in-Some-clause-handed
returns-in-Some-clause-handed c = ok_leads c.offer.result
    (λ more. hands_one c.args.worker.now _ c.args.filled refl refl refl refl
    (more ∙ ap (λ l. l ++ c.args.filled ∷ []) (sym (ap waiting_in c.in-Some.is)))) c.offer.ensures.handed

pub returns-in-Some-clause-same : goal.returns-in-Some-clause-same
returns-in-Some-clause-same c = err_leads c.offer.result
    (λ given still. hands_none c.args.worker.now _ refl refl refl refl (still ∙ sym (ap waiting_in c.in-Some.is))) c.offer.ensures.same

pub returns-in-None-clause-same : goal.returns-in-None-clause-same
returns-in-None-clause-same c = hands_none c.args.worker.now _ refl refl refl refl refl
