-- What an answer tells of a run, and of the file that it is about.
use Rattle.std.proofs.Common.{◌≡◌, ◌≢◌, inl, inr, ℕ, refl, sym, ◌∙◌, ap}
use Rattle.file_commands.specs.file_tasks.Answer.{MayAnswer, IsAnswer, IsPrintingOrNoMemory, answer_for, refused_status}
use Rattle.file_commands.specs.file_tasks.FileState.{FileState, Sound}
use Rattle.file_commands.specs.declared.file_tasks.refusal.Refusal.{Refusal}
use Rattle.file_commands.specs.declared.file_tasks.refusal.Refusal.TheVariants as refusal
use Rattle.status.specs.declared.status.Status.{Status}
use Rattle.status.specs.declared.status.Status.TheVariants.{
  Done,
  Usage,
  Config,
  Store,
  Recording,
  Torn,
  ReadFault,
  WriteFault,
  DiskFault,
  OutOfMemory,
  TooLong,
  Differs,
}

-- of the same answer of another state
own : (gauge : ℕ) (answer : Status) (state : FileState) → answer ≡ answer_for gauge state → answer ≢ ReadFault → IsAnswer gauge answer state
own gauge answer state is other = (λ none. other (is ∙ ap (answer_for gauge) none), inl is)

-- an answer that is no fault of the outside is the file's own, or memory ran out
pub complete : (gauge : ℕ) (answer : Status) (state : FileState) → MayAnswer gauge answer state → answer ≢ ReadFault → answer ≢ WriteFault →
    IsAnswer gauge answer state
complete g Usage state may r w = absurd may
complete g ReadFault state may r w = absurd (r refl)
complete g WriteFault state may r w = absurd (w refl)
complete g OutOfMemory state may r w = (may, inr refl)
complete g Done state may r w = own g Done state may r
complete g (Recording gauge fault) state may r w = own g (Recording gauge fault) state may r
complete g (Torn gauge bytes) state may r w = own g (Torn gauge bytes) state may r
complete g (TooLong gauge) state may r w = own g (TooLong gauge) state may r
complete g (Config fault) state may r w = own g (Config fault) state may r
complete g (Store fault) state may r w = own g (Store fault) state may r
complete g DiskFault state may r w = own g DiskFault state may r
complete g (Differs gauge what held found) state may r w = own g (Differs gauge what held found) state may r

-- of a sound recording that was printed, or was to be
pub by_printed : (P : Status → Type 0) → P Done → P WriteFault → P OutOfMemory → (answer : Status) → IsPrintingOrNoMemory answer → P answer
by_printed P d w m Done p = d
by_printed P d w m WriteFault p = w
by_printed P d w m OutOfMemory p = m
by_printed P d w m Usage p = absurd p
by_printed P d w m ReadFault p = absurd p
by_printed P d w m (Recording gauge fault) p = absurd p
by_printed P d w m (Torn gauge bytes) p = absurd p
by_printed P d w m (TooLong gauge) p = absurd p
by_printed P d w m (Config fault) p = absurd p
by_printed P d w m (Store fault) p = absurd p
by_printed P d w m DiskFault p = absurd p
by_printed P d w m (Differs gauge what held found) p = absurd p

pub printing_may : (gauge : ℕ) (answer : Status) (state : FileState) → IsPrintingOrNoMemory answer → state ≡ Sound →
    MayAnswer gauge answer state
printing_may g answer state p is = by_printed (λ s. MayAnswer g s state) (sym (ap (answer_for g) is)) is (λ none. absurd (cc)) answer p

pub printing_no_read : (answer : Status) → IsPrintingOrNoMemory answer → answer ≢ ReadFault
printing_no_read = by_printed (λ s. s ≢ ReadFault) (λ is. cc) (λ is. cc) (λ is. cc)

-- of a recording that was refused
pub refusal_no_done : (gauge : ℕ) (r : Refusal) → refused_status gauge r ≢ Done
refusal_no_done g (refusal.Head fault) is = cc
refusal_no_done g (refusal.Torn bytes) is = cc
refusal_no_done g refusal.TooLong is = cc
refusal_no_done g refusal.ReadFault is = cc
refusal_no_done g refusal.OutOfMemory is = cc

pub refusal_no_write : (gauge : ℕ) (r : Refusal) → refused_status gauge r ≢ WriteFault
refusal_no_write g (refusal.Head fault) is = cc
refusal_no_write g (refusal.Torn bytes) is = cc
refusal_no_write g refusal.TooLong is = cc
refusal_no_write g refusal.ReadFault is = cc
refusal_no_write g refusal.OutOfMemory is = cc

-- only a fault of the source is a read fault
pub refusal_read : (gauge : ℕ) (r : Refusal) → refused_status gauge r ≡ ReadFault → r ≡ refusal.ReadFault
refusal_read g (refusal.Head fault) is = absurd (cc)
refusal_read g (refusal.Torn bytes) is = absurd (cc)
refusal_read g refusal.TooLong is = absurd (cc)
refusal_read g refusal.ReadFault is = refl
refusal_read g refusal.OutOfMemory is = absurd (cc)
