-- The names that a site was asked for, over several calls.
use Rattle.std.proofs.Common.{ℕ, List, ◌++◌}
use Rattle.outside.specs.Site.{Asked, Asks, AsksNothing}

pub asks_no_more : (before between after : Asked) (more : List (List ℕ)) → Asks before between more → AsksNothing between after →
    Asks before after more
asks_no_more before between after more f s = λ names was. s (names ++ more) (f names was)
