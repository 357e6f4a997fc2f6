use Rattle.std.proofs.Common.{◌∙◌, sym, ap}
use Rattle.live_view.specs.Rule.{Shown}
use Rattle.live_view.proofs.Keeping.{admits, forks, merges}
use Rattle.live_view.proofs.opening.live.Goals as goal

pub reader-requires : goal.reader-requires
reader-requires g c = admits

pub tell-requires : goal.tell-requires
tell-requires g c = forks _ _

pub learn-requires-clause-rule : goal.learn-requires-clause-rule
learn-requires-clause-rule g c = merges _ _ _ _

pub invariant_of-watcher : goal.invariant_of-watcher
invariant_of-watcher g c = λ r is. record {
  display = c.in_ok-writer.writer.desk.shown.value;
  is = cc (is, c.learn.ensures.1, c.tell.ensures.given.1, c.in_ok-writer.ensures.knows);
  same_first = ap (λ (t : Shown). t.2) (c.in_ok-writer.ensures.shown ∙ c.in_ok-display.ensures) ∙ sym c.in_ok-first.ensures;
  same_history = ap (λ (t : Shown). t.1.of) (c.in_ok-writer.ensures.shown ∙ c.in_ok-display.ensures);
}
