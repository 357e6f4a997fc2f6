-- Where a recording is refused or can't be read.
use Rattle.std.proofs.Common.{◌≡◌, ◌≢◌, ℕ, List, drop, sym, ap, subst, refl}
use Rattle.std.specs.Prelude.{Result, Ok, Err, IsErrAnd}
use Rattle.recording.specs.Head.{recording_head}
use Rattle.recording.specs.declared.head.Head.{Head}
use Rattle.recording.specs.declared.head.HeadFault.{HeadFault}
use Rattle.recording.specs.declared.head.HeadFault.TheVariants as head
use Rattle.file_commands.specs.file_tasks.FileState.{FileState, BadHead, body_state, state_behind, state_of}
use Rattle.file_commands.specs.file_tasks.Answer.{MayAnswer, MayGive, answer_for, refused_status, refusal_of}
use Rattle.file_commands.specs.declared.file_tasks.refusal.Refusal.{Refusal}
use Rattle.file_commands.specs.declared.file_tasks.refusal.Refusal.TheVariants.{ReadFault, OutOfMemory}
use Rattle.file_commands.proofs.on_file_tasks.BodyState.{some_file}
use Rattle.recording.specs.declared.head.TheConstants.{HEAD_LENGTH}

pub state_with_head : (file : List ℕ) (head : Head) → Ok head ≡ recording_head file → state_of file ≡ body_state (drop HEAD_LENGTH file)
state_with_head file head is = ap (λ (h : Result Head HeadFault). state_behind h (drop HEAD_LENGTH file)) (sym is)

state_with_fault : (file : List ℕ) (fault : HeadFault) → Err fault ≡ recording_head file → state_of file ≡ BadHead fault
state_with_fault file fault is = ap (λ (h : Result Head HeadFault). state_behind h (drop HEAD_LENGTH file)) (sym is)

-- the answer for a head with a fault, but for one that could not be read
fault_answer : (gauge : ℕ) (fault : HeadFault) (state : FileState) → (fault ≢ head.ReadFault → state ≡ BadHead fault) →
    MayAnswer gauge (refused_status gauge (refusal_of fault)) state
fault_answer gauge head.Short state is = sym (ap (answer_for gauge) (is (λ e. cc)))
fault_answer gauge head.Magic state is = sym (ap (answer_for gauge) (is (λ e. cc)))
fault_answer gauge (head.Version version) state is = sym (ap (answer_for gauge) (is (λ e. cc)))
fault_answer gauge head.NotZero state is = sym (ap (answer_for gauge) (is (λ e. cc)))
fault_answer gauge head.ReadFault state is = tt

pub err_is : {T E : Type 0} {a b : E} → ◌≡◌ {A = Result T E} (Err a) (Err b) → a ≡ b
err_is is = cc

pub head_cause : {T : Type 0} (gauge : ℕ) (r : Result T Refusal) (fault : HeadFault) (file : List ℕ) →
    IsErrAnd r (λ refusal. refusal ≡ refusal_of fault) → (fault ≢ head.ReadFault → Err fault ≡ recording_head file) →
    MayGive gauge r (state_of file)
head_cause gauge (Ok x) fault file is known = absurd is
head_cause gauge (Err refusal) fault file is known =
    subst (λ (e : Refusal). MayAnswer gauge (refused_status gauge e) (state_of file)) (sym is)
    (fault_answer gauge fault (state_of file) (λ other. state_with_fault file fault (known other)))

read_fault : (fault : HeadFault) → refusal_of fault ≡ ReadFault → fault ≡ head.ReadFault
read_fault head.Short is = absurd (cc)
read_fault head.Magic is = absurd (cc)
read_fault (head.Version version) is = absurd (cc)
read_fault head.NotZero is = absurd (cc)
read_fault head.ReadFault is = refl

-- a read fault comes of a head that could not be read
pub head_fault : {T : Type 0} (r : Result T Refusal) (fault : HeadFault) → IsErrAnd r (λ refusal. refusal ≡ refusal_of fault) →
    r ≡ Err ReadFault → fault ≡ head.ReadFault
head_fault (Ok x) fault given is = absurd given
head_fault (Err refusal) fault given is = read_fault fault (cc)

-- want of memory
pub memory_cause : {T : Type 0} (gauge : ℕ) (r : Result T Refusal) (file : List ℕ) → IsErrAnd r (λ refusal. refusal ≡ OutOfMemory) →
    MayGive gauge r (state_of file)
memory_cause gauge (Ok x) file is = absurd is
memory_cause gauge (Err refusal) file is =
    subst (λ (e : Refusal). MayAnswer gauge (refused_status gauge e) (state_of file)) (sym is) (some_file file)

-- it is no read fault
pub memory_fault : {T : Type 0} (r : Result T Refusal) → IsErrAnd r (λ refusal. refusal ≡ OutOfMemory) → r ≢ Err ReadFault
memory_fault (Ok x) given is = given
memory_fault (Err refusal) given is = cc
