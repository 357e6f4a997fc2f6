use Rattle.std.proofs.Common.{rules}
use Rattle.outside.proofs.Calls.{last_of_calls}
use Rattle.outside.proofs.bytes_source.BytesSource.is_failing.Goals as goal

pub returns-then-contains-clause-last : goal.returns-then-contains-clause-last
returns-then-contains-clause-last c = λ fails.
    last_of_calls c.self.inside.failing.items c.self.inside.calls c.saturating_add-self-inside.result (search rules) (search rules)
