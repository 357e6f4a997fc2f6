-- What is true at every moment of a run of `count` or `watch`.
--   HoldsAtLeast     the image keeps what it must, and holds at least these numbers of samples
--   AllHold          each image that a crash may leave stands for the recordings and does
--   KeepsAs          and no line of this call acknowledges more than the image holds
--   KeepsTold        so it is of bodies that stand for the recordings
--   HoldsSince       the run from a function's entry: each moment is kept, and each image that a crash may leave now
--                    holds so many
--   HoldsSinceEntry  so it is of bodies that stand for the recordings
--   RunsBy, Safe     a run whose moments have a property, and those of now too; the moments are kept
--   IsStoredAs       the store is on its station, and its head and bodies keep what they must
--   IsStored         so it is of bodies that stand for the recordings
--   HoldsSinceOver, HoldsSinceEntryOver, RunsByOver, SafeOver   the same over a station at entry and at the end
--   AreNames         names by which a line that acknowledges tells its gauge and number
use Rattle.std.specs.Prelude.{◌≡◌, ◌<◌, true, ℕ, List, ◌++◌}
use Rattle.outside.specs.declared.station.station.Station as station
use Rattle.outside.specs.station.Station.{Image, Lines, IsMoment, MomentsSince, Since}
use Rattle.segment.specs.segment_rules.Parts.{PartsValue}
use Rattle.segment_store.specs.Moments.{StoreValue, IsOn}
use Rattle.site_config.specs.Fields.{is_name}
use Rattle.site_config.specs.recorded.Recorded.{Recorded}
use Rattle.count_command.specs.held_samples.Kept.{Kept, recorded, Meets, HoldsAs}
use Rattle.count_command.specs.held_samples.Told.{EachAtMost, AreBelow}

-- the image holds at least these numbers
pub record HoldsAtLeast (kept : Kept) (a : List ℕ) (c : Image) : Type 0 where
  pub held : List ℕ
  pub holds : HoldsAs kept held c
  pub least : EachAtMost a held

abbrev pub AllHold : Recorded → List ℕ → (Image → Type 0) → Type 0
AllHold r a leaves = (c : Image) → leaves c → HoldsAtLeast (recorded r) a c

-- a moment: the image holds at least these numbers, and no line behind those told at first acknowledges more than it
-- holds
pub record KeepsAs (kept : Kept) (r : Recorded) (a : List ℕ) (told lines : Lines) (c : Image) : Type 0 where
  pub held : List ℕ
  pub holds : HoldsAs kept held c
  pub least : EachAtMost a held
  pub new : Lines
  pub grew : lines ≡ told ++ new
  pub below : AreBelow r held new

abbrev pub KeepsTold : Recorded → List ℕ → Lines → Lines → Image → Type 0
KeepsTold r a told lines c = KeepsAs (recorded r) r a told lines c

-- start, past and told: the clock, the moments and the lines at entry, where n are held; since and told2: those of now,
-- where m are held
pub record HoldsSince (kept : Kept) (r : Recorded) (n : List ℕ) (start : ℕ) (past : MomentsSince) (told : Lines)
    (now : ℕ) (since : MomentsSince) (told2 : Lines) (leaves : Image → Type 0) (m : List ℕ) : Type 0 where
  pub run : Since start past now since (KeepsAs kept r n told)
  pub new : Lines
  pub grew : told2 ≡ told ++ new
  pub below : AreBelow r m new
  pub least : EachAtMost n m
  pub held : (c : Image) → leaves c → HoldsAtLeast kept m c

abbrev pub HoldsSinceEntry : Recorded → List ℕ → ℕ → MomentsSince → Lines → ℕ → MomentsSince → Lines →
    (Image → Type 0) → List ℕ → Type 0
HoldsSinceEntry r n start past told now since told2 leaves m =
    HoldsSince (recorded r) r n start past told now since told2 leaves m

-- each moment of the run has the property, and so have the lines told with each image that a crash may leave now
pub record RunsBy (P : IsMoment) (start : ℕ) (past : MomentsSince) (now : ℕ) (since : MomentsSince) (told : Lines)
    (leaves : Image → Type 0) : Type 0 where
  pub run : Since start past now since P
  pub kept : (c : Image) → leaves c → P told c

abbrev pub Safe : Recorded → List ℕ → ℕ → MomentsSince → Lines → ℕ → MomentsSince → Lines → (Image → Type 0) → Type 0
Safe r a start past told now since told2 leaves = RunsBy (KeepsTold r a told) start past now since told2 leaves

pub record IsStoredAs (kept : Kept) (s : StoreValue) (seen : Image) (leaves : Image → Type 0) : Type 0 where
  pub bodies : List PartsValue
  pub on : IsOn s bodies seen leaves
  pub meets : Meets kept s.head bodies

abbrev pub IsStored : Recorded → StoreValue → Image → (Image → Type 0) → Type 0
IsStored r s seen leaves = IsStoredAs (recorded r) s seen leaves

-- n are held at entry, and m at the end
abbrev pub HoldsSinceOver : {K : Type 0} → station.Ghosts K → Kept → Recorded → List ℕ → K → K → List ℕ → Type 0
HoldsSinceOver v kept r n old new m = HoldsSince kept r n (v.clock old) (v.moments old) (v.told old) (v.clock new)
    (v.moments new) (v.told new) (v.leaves new) m

abbrev pub HoldsSinceEntryOver : {K : Type 0} → station.Ghosts K → Recorded → List ℕ → K → K → List ℕ → Type 0
HoldsSinceEntryOver v r n old new m = HoldsSinceOver v (recorded r) r n old new m

abbrev pub RunsByOver : {K : Type 0} → station.Ghosts K → IsMoment → K → K → Type 0
RunsByOver v P old new =
    RunsBy P (v.clock old) (v.moments old) (v.clock new) (v.moments new) (v.told new) (v.leaves new)

abbrev pub SafeOver : {K : Type 0} → station.Ghosts K → Recorded → List ℕ → K → K → Type 0
SafeOver v r a old new = RunsByOver v (KeepsTold r a (v.told old)) old new

-- names by which a line that acknowledges tells its gauge and number
pub record AreNames (names : ℕ → List ℕ) (gauges : ℕ) : Type 0 where
  pub letters : (g : ℕ) → g < gauges → is_name (names g) ≡ true
  pub differ : (g h : ℕ) → g < gauges → h < gauges → names g ≡ names h → g ≡ h
