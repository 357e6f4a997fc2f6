-- How the reading of a recording goes on and ends.
--   end_past_limit   what follows the last sample that a recording may have
--   lane_end         the end where so many samples are wanted, and so many are allowed
--   IsRead           what was read
use Rattle.std.specs.Prelude.{◌≡◌, ◌≢◌, ◌≤◌, ℕ, ◌*◌, nat_le, nat_lt, ◌==◌, if◌then◌else◌, min, List, length, drop}
use Rattle.recording.specs.Samples.{samples, torn_bytes}
use Rattle.recording.specs.declared.lane_ends.end.End.{End}
use Rattle.recording.specs.declared.lane_ends.end.End.TheVariants.{More, Ended, Torn, ReadFault, TooLong}

-- where input ends within these bytes
abbrev pub input_end : List ℕ → End
input_end bytes = if torn_bytes bytes == 0 then Ended else Torn (torn_bytes bytes)

abbrev pub end_past_limit : List ℕ → End
end_past_limit bytes = if nat_lt 0 (length (samples bytes)) then TooLong else input_end bytes

-- `room` samples are wanted of a recording that may have `most` more, and these bytes are left of it
abbrev pub lane_end : ℕ → ℕ → List ℕ → End
lane_end room most bytes =
    if nat_le room (min most (length (samples bytes))) then More
    else (if nat_lt most (length (samples bytes)) then TooLong else input_end bytes)

-- of the bytes `before` n samples were read, and `after` is left
pub record IsRead (room most : ℕ) (before : List ℕ) (n : ℕ) (end : End) (after : List ℕ) : Type 0 where
  pub few : (n ≤ room) × (n ≤ most) × (n ≤ length (samples before))
  pub ends : end ≢ ReadFault → end ≡ lane_end room most before
  pub count : end ≢ ReadFault → n ≡ min room (min most (length (samples before)))
  pub left : end ≡ More → after ≡ drop (4 * room) before
