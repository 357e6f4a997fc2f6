-- Which files `audit` asks its site for, by its answer: none where the configuration or the store is refused, up to the
-- gauge whose recording is refused, and all where what is held was compared. Where a read fails or memory runs out it
-- is some first ones.
use Rattle.std.specs.Prelude.{ℕ, List}
use Rattle.outside.specs.Site.{Asked, Asks, AsksNothing}
use Rattle.site_config.specs.recorded.Asked.{AsksFirst}
use Rattle.site_lanes.specs.Asked.{AsksUpTo}
use Rattle.status.specs.declared.status.Status.{Status}
use Rattle.status.specs.declared.status.Status.TheVariants.{Config, Store, Recording, ReadFault, DiskFault, OutOfMemory}

abbrev pub AuditAsks : Status → Asked → Asked → List (List ℕ) → Type 0
AuditAsks (Config fault) before after names = AsksNothing before after
AuditAsks (Store fault) before after names = AsksNothing before after
AuditAsks DiskFault before after names = AsksNothing before after
AuditAsks (Recording g fault) before after names = AsksUpTo g before after names
AuditAsks ReadFault before after names = AsksFirst before after names
AuditAsks OutOfMemory before after names = AsksFirst before after names
AuditAsks status before after names = Asks before after names
