-- Which files a site is asked for while its recordings are opened, in order of gauge.
--   IsOfGauge     the answer is this gauge's, where a recording is refused
--   AsksUpTo      those of the gauges up to this one were asked for, in their order and each once, and no other
--   OpeningAsks   by the answer: up to the gauge that is refused, and all where none is; where a read fails, some
--                 first ones
use Rattle.std.specs.Prelude.{◌≡◌, ◌<◌, ◌+◌, ℕ, List, length, take, Result, Ok, Err}
use Rattle.outside.specs.Site.{Asked, Asks}
use Rattle.site_config.specs.recorded.Asked.{AsksFirst}
use Rattle.status.specs.declared.status.Status.{Status}
use Rattle.status.specs.declared.status.Status.TheVariants.{Recording}

abbrev pub IsOfGauge : ℕ → Status → Type 0
IsOfGauge g (Recording h fault) = h ≡ g
IsOfGauge g status = Unit {0}

abbrev pub AsksUpTo : ℕ → Asked → Asked → List (List ℕ) → Type 0
AsksUpTo g before after names = (g < length names) × Asks before after (take (g + 1) names)

abbrev pub OpeningAsks : Result (Unit {0}) Status → Asked → Asked → List (List ℕ) → Type 0
OpeningAsks (Ok u) before after names = Asks before after names
OpeningAsks (Err (Recording g fault)) before after names = AsksUpTo g before after names
OpeningAsks (Err status) before after names = AsksFirst before after names
