-- What a file is to the reader of recordings: sound, or the first thing that is wrong with it.
--   FileState    no file of that name, sound, or what is wrong
--   body_state   of a body: too many samples come before a torn end
--   state_of     of a file: the head comes before the body
--   file_state   of what a name holds
use Rattle.std.specs.Prelude.{ℕ, nat_lt, if◌then◌else◌, List, length, drop, Option, Some, None, Result, Ok, Err}
use Rattle.recording.specs.Samples.{samples, torn_bytes}
use Rattle.recording.specs.Head.{recording_head}
use Rattle.recording.specs.declared.head.Head.{Head}
use Rattle.recording.specs.declared.head.HeadFault.{HeadFault}
use Rattle.calibration.specs.declared.limits.TheConstants.{MAX_SAMPLES}
use Rattle.recording.specs.declared.head.TheConstants.{HEAD_LENGTH}

pub data FileState : Type 0 where
  NoFile : FileState
  Sound : FileState
  BadHead : HeadFault → FileState
  -- so many bytes stand behind the last whole sample
  TornEnd : ℕ → FileState
  TooManySamples : FileState

abbrev pub body_state : List ℕ → FileState
body_state body =
    if nat_lt MAX_SAMPLES (length (samples body)) then TooManySamples else
    (if nat_lt 0 (torn_bytes body) then TornEnd (torn_bytes body) else Sound)

-- where the head in front of the file is this
abbrev pub state_behind : Result Head HeadFault → List ℕ → FileState
state_behind (Ok head) body = body_state body
state_behind (Err fault) body = BadHead fault

abbrev pub state_of : List ℕ → FileState
state_of file = state_behind (recording_head file) (drop HEAD_LENGTH file)

abbrev pub file_state : Option (List ℕ) → FileState
file_state None = NoFile
file_state (Some file) = state_of file
