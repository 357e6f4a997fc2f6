-- What counting the held samples of a recording again answers.
--   IsRecounting       the answers that it may have beside what was found
--   recounted_status   the answer for samples that were not counted again
--   SourceAnswers      that for a recording, by the first thing wrong with it
--   AreRecounts        what was found of each gauge: of as many samples as are held, the first ones of its recording
--   AreOf              so it was of these samples; AreOver: by the classes of the grid
use Rattle.std.specs.Prelude.{◌≡◌, ◌<◌, ℕ, ℤ, List, length, take, slice_index_or, Option, Some, None, Result, Ok, Err}
use Rattle.recount.specs.Counted.{IsRecount}
use Rattle.recount.specs.declared.count.Recount.{Recount}
use Rattle.recount.specs.declared.count.RecountFault.{RecountFault}
use Rattle.recount.specs.declared.count.RecountFault.TheVariants as recount
use Rattle.segment_store.specs.Holds.{gain_at}
use Rattle.site_config.specs.declared.config.Config.{Config}
use Rattle.status.specs.declared.status.RecordingFault.{RecordingFault}
use Rattle.status.specs.declared.status.RecordingFault.TheVariants.{Fewer}
use Rattle.status.specs.declared.status.Status.{Status}
use Rattle.status.specs.declared.status.Status.TheVariants as status

abbrev pub IsRecounting : Status → Type 0
IsRecounting (status.Recording g fault) = Unit {0}
IsRecounting status.ReadFault = Unit {0}
IsRecounting status.OutOfMemory = Unit {0}
IsRecounting answer = ⊥

-- where so many samples of a gauge are held
abbrev pub recounted_status : ℕ → ℕ → RecountFault → Status
recounted_status g held (recount.Fewer there) = status.Recording g (Fewer held there)
recounted_status g held recount.ReadFault = status.ReadFault
recounted_status g held recount.OutOfMemory = status.OutOfMemory

abbrev pub SourceAnswers : {X : Type 0} → Option RecordingFault → ℕ → Result X Status → Type 0
SourceAnswers first g (Ok x) = first ≡ None
SourceAnswers first g (Err (status.Recording h fault)) = (h ≡ g) × (first ≡ Some fault)
SourceAnswers first g (Err answer) = Unit {0}

-- of the samples w of a gauge
abbrev pub IsRecountOf : Config → ℕ → Recount → List ℤ → Type 0
IsRecountOf c g found w = IsRecount c.setup.grid (gain_at c.setup g) found w

abbrev pub AreOf : Config → List Recount → (ℕ → List ℤ) → Type 0
AreOf c recounts w = (g : ℕ) (d : Recount) → g < length recounts → IsRecountOf c g (slice_index_or recounts g d) (w g)

abbrev pub AreOver : Config → List Recount → Type 0
AreOver c recounts =
    (g : ℕ) (d : Recount) → g < length recounts → (slice_index_or recounts g d).pairs.classes ≡ c.setup.grid.classes

-- the recordings have the samples w, where the site tells
abbrev pub IsOfFirst : Config → Type 0 → (ℕ → List ℤ) → (ℕ → ℕ) → ℕ → Recount → Type 0
IsOfFirst c tells w held g found = (u : List ℤ) × (IsRecountOf c g found u × (tells → u ≡ take (held g) (w g)))

abbrev pub AreRecounts : Config → Type 0 → (ℕ → List ℤ) → (ℕ → ℕ) → List Recount → Type 0
AreRecounts c tells w held recounts = (g : ℕ) (d : Recount) → g < length recounts
    → IsOfFirst c tells w held g (slice_index_or recounts g d)
