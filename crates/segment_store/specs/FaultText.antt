-- What is told of a store.
--   damage_text   of a body that is damaged
--   resume_text   of a store that was not resumed
--   init_text     of one that was not made
--   put_text      of a segment that was not stored
--   compact_text  of a copy that was not written
use Rattle.std.specs.Prelude.{ℕ, List, ◌++◌, codes}
use Rattle.std.specs.Fmt.{decimal}
use Rattle.segment.specs.Faults.{refusal_text}
use Rattle.segment.specs.declared.segment.join.JoinRefusal.TheVariants as joints
use Rattle.store_bytes.specs.segment_bytes.Faults.{bytes_text}
use Rattle.store_bytes.specs.store_head.FaultText.{head_text}
use Rattle.store_bytes.specs.declared.store_head.fault.HeadFault.TheVariants as heads
use Rattle.segment_store.specs.declared.damage.Damage.{Damage}
use Rattle.segment_store.specs.declared.damage.Damage.TheVariants.{Cut, Length, Digest, Bytes, Gauge, Empty, Join}
use Rattle.segment_store.specs.declared.fault.ResumeFault.{ResumeFault}
use Rattle.segment_store.specs.declared.fault.ResumeFault.TheVariants as resumes
use Rattle.segment_store.specs.declared.fault.InitFault.{InitFault}
use Rattle.segment_store.specs.declared.fault.InitFault.TheVariants as inits
use Rattle.segment_store.specs.declared.fault.PutFault.{PutFault}
use Rattle.segment_store.specs.declared.fault.PutFault.TheVariants as puts
use Rattle.segment_store.specs.declared.compacting.CompactFault.{CompactFault}
use Rattle.segment_store.specs.declared.compacting.CompactFault.TheVariants as compacts

-- The digests are not told.
abbrev pub damage_text : Damage → List ℕ
damage_text (Cut size) = codes "the store ends within it, after " ++ decimal size ++ codes " bytes"
damage_text (Length length) = decimal length ++ codes " bytes are more than a body has"
damage_text (Digest kept found) = codes "the digest does not match"
damage_text (Bytes fault) = codes "no body: " ++ bytes_text fault
damage_text (Gauge gauge) = codes "no such gauge, " ++ decimal gauge
damage_text Empty = codes "no samples"
damage_text (Join refusal) = codes "no joint: " ++ refusal_text refusal

-- The fault of a head is told as such.
abbrev pub resume_text : ResumeFault → List ℕ
resume_text resumes.NotAStore = head_text heads.NotAStore
resume_text (resumes.Version version) = head_text (heads.Version version)
resume_text (resumes.Differs field kept found) = head_text (heads.Differs field kept found)
resume_text (resumes.Damaged index damage) = codes "damaged at " ++ decimal index ++ (codes ": " ++ damage_text damage)
resume_text resumes.DiskFault = codes "a call of the station failed"
resume_text resumes.OutOfMemory = codes "out of memory"

abbrev pub init_text : InitFault → List ℕ
init_text (inits.NotEmpty size) = codes "not empty, " ++ decimal size ++ codes " bytes"
init_text inits.DiskFault = codes "a call of the station failed"
init_text inits.OutOfMemory = codes "out of memory"

-- A segment that is not next is told as one that is not joined.
abbrev pub put_text : PutFault → List ℕ
put_text (puts.NotNext to from) = refusal_text (joints.NotNext to from)
put_text puts.DiskFault = codes "a call of the station failed"
put_text puts.Shut = codes "an earlier put failed"

abbrev pub compact_text : CompactFault → List ℕ
compact_text compacts.WriteFault = codes "a put failed"
compact_text compacts.OutOfMemory = codes "out of memory"
