-- Which files `init` asks its site for, by its answer: none where the configuration is refused, up to the gauge whose
-- recording is refused, and all where the store was to be made. Where memory runs out it is none or all, and where a
-- read fails some first ones.
use Rattle.std.specs.Prelude.{◌<◌, ◌⊎◌, ◌+◌, ℕ, List, length, take}
use Rattle.outside.specs.Site.{Asked, Asks, AsksNothing}
use Rattle.site_config.specs.recorded.Asked.{AsksFirst}
use Rattle.status.specs.declared.status.Status.{Status}
use Rattle.status.specs.declared.status.Status.TheVariants.{Config, Recording, ReadFault, OutOfMemory}

abbrev pub InitAsks : Status → Asked → Asked → List (List ℕ) → Type 0
InitAsks (Config fault) before after names = AsksNothing before after
InitAsks (Recording g fault) before after names = (g < length names) × Asks before after (take (g + 1) names)
InitAsks ReadFault before after names = AsksFirst before after names
InitAsks OutOfMemory before after names = AsksNothing before after ⊎ Asks before after names
InitAsks status before after names = Asks before after names
