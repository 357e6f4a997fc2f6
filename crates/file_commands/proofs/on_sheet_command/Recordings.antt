-- Recordings that were read so far, and the first that is refused.
use Rattle.std.proofs.Common.{◌≡◌, ◌≢◌, ◌<◌, ◌≤◌, ℕ, ℤ, ◌+◌, List, [], ◌∷◌, ◌++◌, length, drop, get_or, sym, ◌∙◌, ap, subst, append_assoc}
use Rattle.std.proofs.lemmas.List.{at_drop_more, drop_all}
use Rattle.outside.specs.Site.{Files}
use Rattle.recording.specs.Samples.{samples}
use Rattle.site_config.specs.recorded.Recorded.{body_in}
use Rattle.site_config.specs.declared.config.Gauge.{Gauge}
use Rattle.file_commands.specs.file_tasks.FileState.{FileState, NoFile, Sound, BadHead, TornEnd, TooManySamples, file_state}
use Rattle.file_commands.specs.file_tasks.Answer.{MayAnswer as MayAnswerFor, answer_for, refused_status}
use Rattle.file_commands.specs.declared.file_tasks.refusal.Refusal.{Refusal}
use Rattle.file_commands.specs.declared.file_tasks.refusal.Refusal.TheVariants as refusal
use Rattle.status.specs.declared.status.Status.{Status}
use Rattle.status.specs.declared.status.Status.TheVariants.{Done, Usage, Config, Store, Recording, Torn, ReadFault, WriteFault, DiskFault, OutOfMemory, TooLong, Differs}
use Rattle.file_commands.specs.sheet_command.Sheet.{recordings_of, states_of, answer_from, MayAnswer, IsReadStatus}

pub given_kind : (gauge : ℕ) (r : Refusal) → IsReadStatus (refused_status gauge r)
given_kind gauge (refusal.Head fault) = tt
given_kind gauge (refusal.Torn bytes) = tt
given_kind gauge refusal.TooLong = tt
given_kind gauge refusal.ReadFault = tt
given_kind gauge refusal.OutOfMemory = tt

-- the answer is that of the first that is not sound
own : (g : ℕ) (s : Status) (state : FileState) (rest : List FileState) → s ≢ Done → s ≡ answer_for g state →
    s ≡ answer_from g (state ∷ rest)
unfolding answer_from
own g s NoFile rest other is = is
own g s Sound rest other is = absurd (other is)
own g s (BadHead fault) rest other is = is
own g s (TornEnd bytes) rest other is = is
own g s TooManySamples rest other is = is

refused_here : (g : ℕ) (s : Status) (state : FileState) (rest : List FileState) → IsReadStatus s → MayAnswerFor g s state →
    MayAnswer (answer_from g (state ∷ rest)) s
refused_here g (Recording gauge fault) state rest k may = own g (Recording gauge fault) state rest (λ no. absurd (cc)) may
refused_here g (Torn gauge bytes) state rest k may = own g (Torn gauge bytes) state rest (λ no. absurd (cc)) may
refused_here g (TooLong gauge) state rest k may = own g (TooLong gauge) state rest (λ no. absurd (cc)) may
refused_here g ReadFault state rest k may = tt
refused_here g OutOfMemory state rest k may = tt
refused_here g Done state rest k may = absurd k
refused_here g Usage state rest k may = absurd k
refused_here g WriteFault state rest k may = absurd k
refused_here g (Config fault) state rest k may = absurd k
refused_here g (Store fault) state rest k may = absurd k
refused_here g DiskFault state rest k may = absurd k
refused_here g (Differs gauge what held found) state rest k may = absurd k

sound_here : (g : ℕ) (state : FileState) (rest : List FileState) → state ≡ Sound → answer_from g (state ∷ rest) ≡ answer_from (g + 1) rest
unfolding answer_from
sound_here g state rest is = ap (λ (s : FileState). answer_from g (s ∷ rest)) is

-- Of the gauges below g all are read, and sound.
module _ (gauges : List Gauge) (files : Files) (g : ℕ) (gauge : Gauge) (lt : g < length gauges) (is : gauge ≡ get_or gauges g gauge) where
  next : drop g gauges ≡ gauge ∷ drop (g + 1) gauges
  next = at_drop_more (λ (l : List Gauge). l) gauges g gauge lt ∙ ap (λ (x : Gauge). x ∷ drop (g + 1) gauges) (sym is)

  pub read_more : (read : List (List ℤ)) (w : List ℤ) → read ++ recordings_of (drop g gauges) files ≡ recordings_of gauges files →
      w ≡ samples (body_in (files gauge.file))
      → (read ++ w ∷ []) ++ recordings_of (drop (g + 1) gauges) files ≡ recordings_of gauges files
  read_more read w was has =
      append_assoc read (w ∷ []) (recordings_of (drop (g + 1) gauges) files)
      ∙ ap (λ (l : List (List ℤ)). read ++ l) (ap (λ (x : List ℤ). x ∷ recordings_of (drop (g + 1) gauges) files) has
      ∙ sym (ap (λ (l : List Gauge). recordings_of l files) next)) ∙ was

  pub sound_more : (asked : Status) → answer_from g (states_of (drop g gauges) files) ≡ asked → file_state (files gauge.file) ≡ Sound
      → answer_from (g + 1) (states_of (drop (g + 1) gauges) files) ≡ asked
  sound_more asked was sound =
      sym (sound_here g (file_state (files gauge.file)) (states_of (drop (g + 1) gauges) files) sound)
      ∙ sym (ap (λ (l : List Gauge). answer_from g (states_of l files)) next) ∙ was

  pub refused : (asked s : Status) → answer_from g (states_of (drop g gauges) files) ≡ asked → IsReadStatus s →
      MayAnswerFor g s (file_state (files gauge.file)) → MayAnswer asked s
  refused asked s was k may =
      subst (λ (a : Status). MayAnswer a s) (sym (ap (λ (l : List Gauge). answer_from g (states_of l files)) next) ∙ was)
      (refused_here g s (file_state (files gauge.file)) (states_of (drop (g + 1) gauges) files) k may)

pub sound_all : (gauges : List Gauge) (files : Files) (g : ℕ) (asked : Status) → length gauges ≤ g →
    answer_from g (states_of (drop g gauges) files) ≡ asked → asked ≡ Done
unfolding answer_from
sound_all gauges files g asked le was = sym was ∙ ap (λ (l : List Gauge). answer_from g (states_of l files)) (drop_all g gauges le)
