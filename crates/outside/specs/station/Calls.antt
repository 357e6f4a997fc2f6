-- What a station in memory has been through: its first image and its calls, one after another.
--   Disk              what a read gives, what is durable, and the ranges written since
--   Past              the first image and the calls
--   disk, told_lines  what the calls make of them
--   MayLeave          the images that a crash may leave now
--   HadMoment         the moments
--   Passes            time goes on from one past to a later one
use Rattle.std.specs.Prelude.{◌≡◌, ◌≤◌, ℕ, ◌+◌, Bool, true, false, ◌&&◌, nat_le, List, [], ◌∷◌, ◌++◌, length, take, drop}
use Rattle.outside.specs.declared.station.call.Call.{Call}
use Rattle.outside.specs.declared.station.call.Call.TheVariants.{Other, Write, Sync, Tell}
use Rattle.outside.specs.station.Station.{Image, Lines, IsTornWrite, Elapses}

-- the ranges by their place and length, the newest first
pub record Disk : Type 0 where
  pub seen : Image
  pub durable : Image
  pub ranges : List (ℕ × ℕ)

-- all of it is durable
abbrev pub fresh_disk : Image → Disk
fresh_disk image = record { seen = image; durable = image; ranges = [] }

-- after a call
abbrev pub disk_after : Disk → Call → Disk
disk_after d Other = d
disk_after d (Write at bytes) = record {
  seen = take at d.seen ++ bytes.items ++ drop (at + length bytes.items) d.seen;
  durable = d.durable;
  ranges = (at, length bytes.items) ∷ d.ranges;
}
disk_after d Sync = record { seen = d.seen; durable = d.seen; ranges = [] }
disk_after d (Tell line) = d

-- after calls
abbrev pub disk_of : Disk → List Call → Disk
disk_of d [] = d
disk_of d (call ∷ calls) = disk_of (disk_after d call) calls

-- the lines that these calls told
abbrev pub lines_of : List Call → Lines
lines_of [] = []
lines_of (Other ∷ calls) = lines_of calls
lines_of (Write at bytes ∷ calls) = lines_of calls
lines_of (Sync ∷ calls) = lines_of calls
lines_of (Tell line ∷ calls) = line.items ∷ lines_of calls

-- what is durable, with each written range torn
abbrev pub IsTornFrom : Image → List (ℕ × ℕ) → Image → Type 0
IsTornFrom durable [] c = c ≡ durable
IsTornFrom durable (range ∷ ranges) c = (d : Image) × IsTornFrom durable ranges d × IsTornWrite range.0 range.1 d c

-- a crash may leave this image
abbrev pub DiskMayLeave : Disk → Image → Type 0
DiskMayLeave disk c = IsTornFrom disk.durable disk.ranges c

-- the bytes of lines, one line after another
abbrev pub bytes_of : Lines → List ℕ
bytes_of [] = []
bytes_of (line ∷ lines) = line ++ bytes_of lines

-- no write began past the end
abbrev pub have_no_gap : Disk → List Call → Bool
have_no_gap d [] = true
have_no_gap d (Other ∷ calls) = have_no_gap d calls
have_no_gap d (Write at bytes ∷ calls) = nat_le at (length d.seen) && have_no_gap (disk_after d (Write at bytes)) calls
have_no_gap d (Sync ∷ calls) = have_no_gap (disk_after d Sync) calls
have_no_gap d (Tell line ∷ calls) = have_no_gap d calls

pub record Past : Type 0 where
  pub image : Image
  pub calls : List Call

abbrev pub disk : Past → Disk
disk past = disk_of (fresh_disk past.image) past.calls

abbrev pub told_lines : Past → Lines
told_lines past = lines_of past.calls

abbrev pub MayLeave : Past → Image → Type 0
MayLeave past c = DiskMayLeave (disk past) c

-- the past after the first so many calls
abbrev pub first_calls : ℕ → Past → Past
first_calls n past = record { image = past.image; calls = take n past.calls }

-- after so many calls, t or more, these lines were told and a crash could leave this image
abbrev pub HadMoment : Past → ℕ → Lines → Image → Type 0
HadMoment past t lines c = (k : ℕ) × (t ≤ k) × (k ≤ length past.calls) × (lines ≡ lines_of (take k past.calls))
    × DiskMayLeave (disk_of (fresh_disk past.image) (take k past.calls)) c

abbrev pub Passes : Past → Past → Type 0
Passes old new =
    Elapses (length old.calls) (length new.calls) (HadMoment old) (HadMoment new) (told_lines new) (MayLeave new)

-- a call was recorded, or there was no memory
abbrev pub PushesCall : Bool → List Call → List Call → Call → Type 0
PushesCall true old new call = new ≡ old ++ call ∷ []
PushesCall false old new call = new ≡ old

-- what a read gives: the first image, until something was written
abbrev pub current_image : Bool → Image → Image → Image
current_image true content image = content
current_image false content image = image
