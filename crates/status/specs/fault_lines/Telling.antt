-- What a run tells that tells a fault at most.
--   TellsAtMost   one line at most, and nothing else of the station changes
--   TellsOnly     so it is from one station to the other
--   EndsIn        the last line told
use Rattle.std.specs.Prelude.{◌≡◌, ◌⊎◌, ℕ, List, [], ◌∷◌, ◌++◌}
use Rattle.outside.specs.declared.station.station.Station as station
use Rattle.outside.specs.station.Station.{Image, Lines, IsMoment, MomentsSince, Since, NoNew}

-- no line was told but this one, and a crash could leave the image at the start
abbrev pub InFault : List ℕ → Lines → (Image → Type 0) → IsMoment
InFault line told leaves lines c = ((lines ≡ told) ⊎ (lines ≡ told ++ line ∷ [])) × leaves c

-- A read gives what it gave, no line was told but this one at most, and every image of a moment since the start is one
-- that a crash could leave then.
pub record TellsAtMost (line : List ℕ) (start : ℕ) (past : MomentsSince) (now : ℕ) (since : MomentsSince)
    (told told2 : Lines)
    (seen seen2 : Image) (leaves leaves2 : Image → Type 0) : Type 0 where
  pub run : Since start past now since (InFault line told leaves)
  pub told_at_most : (told2 ≡ told) ⊎ (told2 ≡ told ++ line ∷ [])
  pub seen_same : seen2 ≡ seen
  pub none_new : NoNew leaves leaves2

abbrev pub TellsOnly : {K : Type 0} → station.Ghosts K → List ℕ → K → K → Type 0
TellsOnly v line old new = TellsAtMost line (v.clock old) (v.moments old) (v.clock new) (v.moments new) (v.told old)
    (v.told new) (v.seen old) (v.seen new) (v.leaves old) (v.leaves new)

abbrev pub EndsIn : List ℕ → Lines → Type 0
EndsIn line told = (lines : Lines) × (told ≡ lines ++ line ∷ [])
