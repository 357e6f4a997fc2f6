use Rattle.std.proofs.Common.{refl, sym, ap, subst, ◌∙◌}
use Rattle.count_workers.specs.crew.Lines.{TakesBack}
use Rattle.count_workers.specs.block_workers.Working.{waiting_in}
use Rattle.count_workers.proofs.on_block_workers.Steps.{hands_none, hands_back}
use Rattle.count_workers.proofs.block_workers.worker.fetch.Goals as goal

pub returns-in_default : goal.returns-in_default
returns-in_default g c = hands_none c.args.worker.now _ refl refl refl refl refl

pub returns-in_default-take_back : goal.returns-in_default-take_back
returns-in_default-take_back g c = hands_none c.args.worker.now _ refl refl refl refl
    (c.in_default-take_back.ensures.none ∙ sym (ap waiting_in c.in-Some.is))

pub returns : goal.returns
returns g c =
    let unit = c.in-Some-take_back.unit in
    hands_back c.args.worker.now _ unit refl refl refl
    (subst (λ l. TakesBack l c.take_back.new.self.waiting unit) (sym (ap waiting_in c.in-Some.is)) c.in-Some-take_back.ensures.some)
    c.feed_waiting.ensures.fed c.feed_waiting.ensures.same
