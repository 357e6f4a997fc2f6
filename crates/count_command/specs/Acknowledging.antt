-- Which lines a run of `count` or `watch` has told when it ends: with `Done` and `WriteFault`, and with `Torn` where no
-- source failed and no recording is too long.
--   AreShort          no recording has more samples than one may
--   WhereCounted      what is so with these answers, with `Torn` where this holds
--   AcknowledgesSeen  the lines of all rounds were told, and then those of what a watcher saw
--   TellsAll          what was told before the answer's line, by the course of the run
--   AcknowledgesAs    this was told, and behind it no line with `Done`, else at most the answer's
--   AcknowledgesBy    so it is with these answers
use Rattle.std.specs.Prelude.{◌≡◌, ◌≤◌, ◌<◌, ◌⊎◌, ◌++◌, ℕ, List, [], ◌∷◌, length}
use Rattle.calibration.specs.declared.limits.TheConstants.{MAX_SAMPLES}
use Rattle.outside.specs.station.Station.{Lines}
use Rattle.site_config.specs.recorded.Recorded.{Recorded}
use Rattle.status.specs.declared.status.Status.{Status}
use Rattle.status.specs.declared.status.Status.TheVariants.{Done, WriteFault, Torn}
use Rattle.count_command.specs.declared.course.Course.{Course}
use Rattle.count_command.specs.declared.course.Course.TheVariants.{Watch}
use Rattle.count_command.specs.held_samples.Told.{Acknowledges}
use Rattle.count_command.specs.watching.Seen.{TellsSeen}

abbrev pub AreShort : Recorded → Type 0
AreShort r = (g : ℕ) → g < r.gauges → length (r.samples g) ≤ MAX_SAMPLES

abbrev pub WhereCounted : Status → Type 0 → Type 0 → Type 0
WhereCounted Done unharmed P = P
WhereCounted WriteFault unharmed P = P
WhereCounted (Torn g bytes) unharmed P = unharmed → P
WhereCounted status unharmed P = Unit {0}

pub record AcknowledgesSeen (block : ℕ) (r : Recorded) (n : List ℕ) (told told2 : Lines) : Type 0 where
  pub between : Lines
  pub held : Acknowledges block r n told between
  pub seen : TellsSeen block r n between told2

-- `watch` tells what was seen where each recording ended soundly.
abbrev pub TellsAll : Course → Status → ℕ → Recorded → List ℕ → Lines → Lines → Type 0
TellsAll Watch Done block r n told told2 = AcknowledgesSeen block r n told told2
TellsAll Watch WriteFault block r n told told2 = AcknowledgesSeen block r n told told2
TellsAll course status block r n told told2 = Acknowledges block r n told told2

abbrev pub AcknowledgesAs : Course → Status → ℕ → Recorded → List ℕ → Lines → List ℕ → Lines → Type 0
AcknowledgesAs course Done block r n told line told2 = TellsAll course Done block r n told told2
AcknowledgesAs course status block r n told line told2 =
    TellsAll course status block r n told told2
    ⊎ ((before : Lines) × (told2 ≡ before ++ line ∷ []) × TellsAll course status block r n told before)

abbrev pub AcknowledgesBy : Course → Status → Type 0 → ℕ → Recorded → List ℕ → Lines → List ℕ → Lines → Type 0
AcknowledgesBy course status unharmed block r n told line told2 =
    WhereCounted status unharmed (AcknowledgesAs course status block r n told line told2)
