-- What a station shows, and which pairs of told lines and image were moments.
--   Overwrites    what a write makes of an image
--   IsTornWrite   what a write that was cut short makes of it
--   Follows, Only, NoNew, SameImages    what a call makes of the images that a crash may leave
--   Elapses       what a call makes of the moments
--   Since         a statement on each moment of a run of calls
--   Tells         what telling makes of the lines
use Rattle.std.specs.Prelude.{◌≡◌, ◌≤◌, ◌⊎◌, ℕ, ◌+◌, max, List, [], ◌∷◌, ◌++◌, length, take, drop, Result, OnOk, OnErr}

-- the bytes of a file
abbrev pub Image : Type 0
Image = List ℕ

-- the lines that were told, each with what it ends with
abbrev pub Lines : Type 0
Lines = List (List ℕ)

-- a test of pairs: these lines were told, and a crash leaves this image
abbrev pub IsMoment : Type 1
IsMoment = Lines → Image → Type 0

-- the same since each time
abbrev pub MomentsSince : Type 1
MomentsSince = ℕ → IsMoment

-- new is old with these bytes from this place on
abbrev pub Overwrites : Image → ℕ → List ℕ → Image → Type 0
Overwrites old at bytes new = new ≡ take at old ++ bytes ++ drop (at + length bytes) old

-- a write of n bytes that was cut short: any bytes in the range and past the old end, the same elsewhere,
-- and any length from the old one to that of the whole write
pub record IsTornWrite (at n : ℕ) (old new : Image) : Type 0 where
  pub before : take at new ≡ take at old
  pub after : drop (at + n) new ≡ drop (at + n) old
  pub no_shorter : length old ≤ length new
  pub no_longer : length new ≤ max (length old) (at + n)

-- each image that a crash may leave now is one that it could leave before, after this step
abbrev pub Follows : (Image → Image → Type 0) → (Image → Type 0) → (Image → Type 0) → Type 0
Follows step old new = (c : Image) → new c → (d : Image) × old d × step d c

-- a crash leaves this image and no other
abbrev pub Only : Image → (Image → Type 0) → Type 0
Only image leaves = (c : Image) → leaves c → c ≡ image

-- no image is new
abbrev pub NoNew : (Image → Type 0) → (Image → Type 0) → Type 0
NoNew old new = (c : Image) → new c → old c

-- the same images
pub record SameImages (old new : Image → Type 0) : Type 0 where
  pub none_new : (c : Image) → new c → old c
  pub none_gone : (c : Image) → old c → new c

-- Time goes on: a moment since t was one before the call, or is the lines told and an image of now.
pub record Elapses (before now : ℕ) (past since : MomentsSince) (told : Lines) (leaves : Image → Type 0) : Type 0 where
  pub later : before ≤ now
  pub nothing_else : (t : ℕ) (lines : Lines) (c : Image) → t ≤ before → since t lines c →
      past t lines c ⊎ ((lines ≡ told) × leaves c)
  pub keeps : (t : ℕ) (lines : Lines) (c : Image) → t ≤ before → past t lines c → since t lines c

-- Each moment since the run began has P, and each since an earlier time was one before the run or has P.
-- The clock and the moments are those at the two ends of the run.
pub record Since (start : ℕ) (past : MomentsSince) (now : ℕ) (since : MomentsSince) (P : IsMoment) : Type 0 where
  pub later : start ≤ now
  pub each : (lines : Lines) (c : Image) → since start lines c → P lines c
  pub before : (t : ℕ) (lines : Lines) (c : Image) → t ≤ start → since t lines c → past t lines c ⊎ P lines c

-- Ok: the line was told; else it was or was not
abbrev pub Tells : {E : Type 0} → Lines → List ℕ → Lines → Result (Unit {0}) E → Type 0
Tells old line new result = OnOk result (new ≡ old ++ line ∷ []) × OnErr result ((new ≡ old ++ line ∷ []) ⊎ (new ≡ old))
