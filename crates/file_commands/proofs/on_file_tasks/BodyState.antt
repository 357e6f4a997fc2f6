-- What a body is, by the samples that were read of it and by its end.
use Rattle.std.proofs.Common.{◌≡◌, ◌≢◌, ℕ, ◌<◌, ◌≤◌, if◌then◌else◌, Bool, true, false, List, length, drop, arith}
use Rattle.std.specs.Prelude.{Result, Ok, Err}
use Rattle.std.proofs.lemmas.Bool.Decides.{nat_tests}
use Rattle.recording.specs.Samples.{samples, torn_bytes}
use Rattle.recording.specs.Head.{recording_head}
use Rattle.recording.specs.declared.head.Head.{Head}
use Rattle.recording.specs.declared.head.HeadFault.{HeadFault}
use Rattle.calibration.specs.declared.limits.TheConstants.{MAX_SAMPLES}
use Rattle.file_commands.specs.file_tasks.FileState.{NoFile, Sound, TornEnd, TooManySamples, body_state, state_behind, state_of}
use Rattle.recording.specs.declared.head.TheConstants.{HEAD_LENGTH}

pub sound_body : (body : List ℕ) (count : ℕ) → count ≡ length (samples body) → count ≤ MAX_SAMPLES → torn_bytes body ≡ 0 →
    body_state body ≡ Sound
sound_body body count is few none = grind (arith, nat_tests, is, few, none)

pub torn_body : (body : List ℕ) (count bytes : ℕ) → count ≡ length (samples body) → count ≤ MAX_SAMPLES → torn_bytes body ≡ bytes →
    0 < bytes → body_state body ≡ TornEnd bytes
torn_body body count bytes is few odds some = grind (arith, nat_tests, is, few, odds, some)

pub long_body : (body : List ℕ) (count : ℕ) → count ≤ length (samples body) → MAX_SAMPLES < count → body_state body ≡ TooManySamples
long_body body count many long = grind (arith, nat_tests, many, long)

-- a body is no missing file
chosen : (b c : Bool) (n : ℕ) → (if b then TooManySamples else (if c then TornEnd n else Sound)) ≢ NoFile
chosen true c n is = cc
chosen false true n is = cc
chosen false false n is = cc

pub some_body : (body : List ℕ) → body_state body ≢ NoFile
some_body body = chosen _ _ (torn_bytes body)

behind : (head : Result Head HeadFault) (body : List ℕ) → state_behind head body ≢ NoFile
behind (Ok head) body = some_body body
behind (Err fault) body = λ is. cc

pub some_file : (file : List ℕ) → state_of file ≢ NoFile
some_file file = behind (recording_head file) (drop HEAD_LENGTH file)
