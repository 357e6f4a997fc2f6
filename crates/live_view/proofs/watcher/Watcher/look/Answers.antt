use Rattle.std.proofs.Common.{◌≡◌, ◌∙◌, ap}
use Rattle.live_view.proofs.Keeping.{first_seen, looks, seen_of}
use Rattle.live_view.proofs.watcher.Watcher.look.Goals as goal

pub enter_as-requires : goal.enter_as-requires
enter_as-requires c = λ d. looks _ _ d

pub copy_shown-looked-requires-clause-one : goal.copy_shown-looked-requires-clause-one
copy_shown-looked-requires-clause-one c =
    let own = c.self.invariant c.in-Some.reader cc in
    rw c.get.ensures (seen_of _ _ _ c.in-Ok.reading.part.value own c.in-Ok.ensures.1.2).1

pub copy_shown-looked-requires-clause-alike : goal.copy_shown-looked-requires-clause-alike
copy_shown-looked-requires-clause-alike c =
    let own = c.self.invariant c.in-Some.reader cc in
    let first : c.get.result.now.first ≡ c.args.self.now.first =
    first_seen _ _ _ _ _ own c.in-Ok.ensures.1.2 c.get.ensures ∙ ap (λ w. w.first) c.self.view_is in
    rw first c.requires

pub returns-clause-view : goal.returns-clause-view
returns-clause-view c =
    let own = c.self.invariant c.in-Some.reader cc in
    let first : c.get.result.now.first ≡ c.args.self.now.first =
    first_seen _ _ _ _ _ own c.in-Ok.ensures.1.2 c.get.ensures ∙ ap (λ w. w.first) c.self.view_is in
    rw (← first) c.copy_shown-looked.ensures.view

pub returns-clause-rising : goal.returns-clause-rising
returns-clause-rising c =
    let own = c.self.invariant c.in-Some.reader cc in
    let first : c.get.result.now.first ≡ c.args.self.now.first =
    first_seen _ _ _ _ _ own c.in-Ok.ensures.1.2 c.get.ensures ∙ ap (λ w. w.first) c.self.view_is in
    rw (← first) c.copy_shown-looked.ensures.rising

pub returns-clause-later : goal.returns-clause-later
returns-clause-later c =
    let own = c.self.invariant c.in-Some.reader cc in
    let first : c.get.result.now.first ≡ c.args.self.now.first =
    first_seen _ _ _ _ _ own c.in-Ok.ensures.1.2 c.get.ensures ∙ ap (λ w. w.first) c.self.view_is in
    rw (← first, ← ap (λ w. w.known) c.self.view_is) c.copy_shown-looked.ensures.later

pub returns-clause-alike : goal.returns-clause-alike
returns-clause-alike c =
    let own = c.self.invariant c.in-Some.reader cc in
    let first : c.get.result.now.first ≡ c.args.self.now.first =
    first_seen _ _ _ _ _ own c.in-Ok.ensures.1.2 c.get.ensures ∙ ap (λ w. w.first) c.self.view_is in
    rw (← first) c.copy_shown-looked.ensures.alike
