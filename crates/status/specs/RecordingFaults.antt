-- What is wrong with a recording, by the fault of its head.
use Rattle.std.specs.Prelude.{Option, Some, None}
use Rattle.recording.specs.declared.head.HeadFault.{HeadFault}
use Rattle.recording.specs.declared.head.HeadFault.TheVariants as head
use Rattle.status.specs.declared.status.RecordingFault.{RecordingFault}
use Rattle.status.specs.declared.status.RecordingFault.TheVariants as recording

-- a failed read tells nothing of the recording
abbrev pub recording_fault_of : HeadFault → Option RecordingFault
recording_fault_of head.Short = Some recording.Short
recording_fault_of head.Magic = Some recording.Magic
recording_fault_of (head.Version version) = Some (recording.Version version)
recording_fault_of head.NotZero = Some recording.NotZero
recording_fault_of head.ReadFault = None
