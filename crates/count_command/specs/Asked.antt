-- Which files `count` and `watch` ask their site for, by the answer: none where the configuration or the store is
-- refused, up to the gauge whose recording is refused, and all where it counted. Where a call of the disk fails or
-- memory runs out it is none or all, and where a read fails some first ones.
use Rattle.std.specs.Prelude.{◌⊎◌, ℕ, List}
use Rattle.outside.specs.Site.{Asked, Asks, AsksNothing}
use Rattle.site_config.specs.recorded.Asked.{AsksFirst}
use Rattle.site_lanes.specs.Asked.{AsksUpTo}
use Rattle.status.specs.declared.status.Status.{Status}
use Rattle.status.specs.declared.status.Status.TheVariants.{Config, Store, Recording, ReadFault, DiskFault, OutOfMemory}

abbrev pub CountAsks : Status → Asked → Asked → List (List ℕ) → Type 0
CountAsks (Config fault) before after names = AsksNothing before after
CountAsks (Store fault) before after names = AsksNothing before after
CountAsks (Recording g fault) before after names = AsksUpTo g before after names
CountAsks ReadFault before after names = AsksFirst before after names
CountAsks DiskFault before after names = AsksNothing before after ⊎ Asks before after names
CountAsks OutOfMemory before after names = AsksNothing before after ⊎ Asks before after names
CountAsks status before after names = Asks before after names
