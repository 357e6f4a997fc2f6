use Rattle.std.proofs.Common.{◌≡◌, ℕ, List, Bool, true, false, nat_eq, Contains, IsTrue, ◌↔◌, length, subst, rules}
use Rattle.std.specs.List.{IsAnyAnswer}
use Rattle.outside.proofs.station.moment_station.MomentStation.is_failing.Goals as goal

is_found : (xs : List ℕ) (x : ℕ) (b : Bool) → IsAnyAnswer (λ y a. nat_eq y x ≡ a) xs b → IsTrue b ↔ Contains xs x
is_found xs x true h = search rules
is_found xs x false h = search rules

pub returns : goal.returns
returns c =
    let found = is_found _ _ _ c.contains.ensures.cases in
    let at_call = subst (λ n. IsTrue c.contains.result ↔ Contains c.deref.result.now n) c.calls-call.ensures found in
    subst (λ l. IsTrue c.contains.result ↔ Contains l (length c.args.self.now.recorder.calls.items)) c.deref.ensures.value at_call
