-- What `compact` writes.
--   IsCompact   an image is a compact copy of a store with this head and these bodies, which end there
--   Copies      what a command has written whose text is such a copy
--   WritesCopy  what `compact` writes
--   IsCopying   what writing a copy ends with
use Rattle.std.specs.Prelude.{◌≡◌, ◌≤◌, ◌++◌, ℕ, ℤ, List, length}
use Rattle.outside.specs.Sink.{AppendsPrefix}
use Rattle.outside.specs.station.Station.{Image}
use Rattle.segment.specs.segment_rules.Parts.{PartsValue}
use Rattle.store_bytes.specs.store_head.Head.{HeadValue}
use Rattle.segment_store.specs.Copy.{in_version_two, closed_image, SameKeeping}
use Rattle.segment_store.specs.Holds.{AllStand, Holds}
use Rattle.segment_store.specs.Image.{Reads}
use Rattle.segment_store.specs.Keeps.{bodies_of}
use Rattle.site_config.specs.declared.config.Config.{Config}
use Rattle.status.specs.declared.status.Status.{Status}
use Rattle.status.specs.declared.status.Status.TheVariants.{Done, WriteFault, OutOfMemory}

-- it reads with the same head but for the version and the same ends, with one body at most for each gauge, which keeps
-- what the gauge's bodies keep; the bodies stand for what those stood for, and nothing follows the closed gate
pub record IsCompact (head : HeadValue) (bodies : List PartsValue) (ends : List ℕ) (image : Image) : Type 0 where
  pub copies : List PartsValue
  pub reads : Reads (in_version_two head) copies ends image
  pub one_each : (g : ℕ) → length (bodies_of g copies) ≤ 1
  pub kept : (g : ℕ) → SameKeeping (bodies_of g copies) (bodies_of g bodies)
  pub stand : (w : ℕ → List ℤ) → AllStand head.setup w bodies → AllStand head.setup w copies
  pub closed : image ≡ closed_image (in_version_two head) copies

abbrev pub Copies : Status → HeadValue → List PartsValue → List ℕ → List ℕ → List ℕ → Type 0
Copies Done head bodies ends old new = (image : Image) × IsCompact head bodies ends image × (new ≡ old ++ image)
Copies WriteFault head bodies ends old new = (image : Image) × IsCompact head bodies ends image
    × AppendsPrefix old new image
Copies status head bodies ends old new = new ≡ old

pub record WritesCopy (c : Config) (seen : Image) (answer : Status) (old new : List ℕ) : Type 0 where
  -- A copy of the bodies that a read of the store gives, which keeps of each gauge what they keep.
  pub copies : (head : HeadValue) (bodies : List PartsValue) (ends : List ℕ) → head.setup ≡ c.setup →
      Reads head bodies ends seen → Copies answer head bodies ends old new
  -- It holds the samples that the store holds.
  pub holds : (w : ℕ → List ℤ) (n : List ℕ) → Holds c.setup w n seen → answer ≡ Done →
      (image : Image) × Holds c.setup w n image × (new ≡ old ++ image)

abbrev pub IsCopying : Status → Type 0
IsCopying Done = Unit {0}
IsCopying WriteFault = Unit {0}
IsCopying OutOfMemory = Unit {0}
IsCopying status = ⊥
