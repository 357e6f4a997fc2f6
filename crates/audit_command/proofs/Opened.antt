-- What the recording of a gauge is refused for, by what opening it and counting its samples again answered.
use Rattle.std.proofs.Common.{◌≡◌, ◌<◌, ℕ, ℤ, List, length, take, refl, sym, ◌∙◌, ap, subst, arith}
use Rattle.std.proofs.lemmas.Bool.Decides.{nat_tests}
use Rattle.std.proofs.lemmas.List.{length-take}
use Rattle.std.specs.Prelude.{slice_index_or, Option, Some, None, Result, Ok, Err}
use Rattle.outside.specs.Site.{Files}
use Rattle.recording.specs.Head.{recording_head}
use Rattle.recording.specs.Samples.{samples}
use Rattle.recording.specs.declared.head.Head.{Head}
use Rattle.site_config.specs.recorded.Recorded.{body_in}
use Rattle.recount.specs.declared.count.RecountFault.{RecountFault}
use Rattle.recount.specs.declared.count.RecountFault.TheVariants as recount
use Rattle.site_config.specs.Valid.{file_of}
use Rattle.site_config.specs.declared.config.Config.{Config}
use Rattle.status.specs.declared.status.RecordingFault.{RecordingFault}
use Rattle.status.specs.declared.status.RecordingFault.TheVariants.{Fewer}
use Rattle.status.specs.declared.status.Status.{Status}
use Rattle.status.specs.declared.status.Status.TheVariants as status
use Rattle.site_lanes.specs.Answers.{FaultOf, GaugeAnswers}
use Rattle.site_lanes.specs.Opening.{fault_by, fault_of, head_fault, IsBehind, IsOpeningAnswer, opened_status}
use Rattle.site_lanes.specs.declared.opening.OpenFault.{OpenFault}
use Rattle.site_lanes.specs.declared.opening.OpenFault.TheVariants.{Recording, ReadFault}
use Rattle.site_lanes.proofs.Opened.{gauge_fault, fault_by-none}
use Rattle.audit_command.specs.Recounted.{SourceAnswers, recounted_status}

none_held : (o : Option RecordingFault) (there : ℕ) → fault_by o 0 there ≡ None → o ≡ None
none_held (Some f) there e = absurd cc
none_held None there e = refl

some_held : (o : Option RecordingFault) (held there : ℕ) (f : RecordingFault) → fault_by o 0 there ≡ Some f → fault_by o held there ≡ Some f
some_held (Some f) held there g e = e
some_held None held there g e = absurd (not_below there g e)
  where
    not_below : (there : ℕ) (g : RecordingFault) → fault_by None 0 there ≡ Some g → ⊥
    not_below there g e = grind (arith, nat_tests)

fewer_there : (o : Option RecordingFault) (held there : ℕ) → o ≡ None → there < held → fault_by o held there ≡ Some (Fewer held there)
fewer_there (Some f) held there e lt = absurd cc
fewer_there None held there e lt = grind (arith, nat_tests)

-- a recording that was opened from its first sample on
module _ (kept : Head) (held : ℕ) (file left : List ℕ) (g : ℕ) where
  pub not_opened : (X : Type 0) (fault : OpenFault) (s : Status) → s ≡ opened_status g fault
      → IsOpeningAnswer (fault_of kept 0 file) (Err fault)
      → SourceAnswers {X = X} (fault_of kept held file) g (Err s)
  not_opened X (Recording f) s is opened = subst (λ (x : Status). SourceAnswers {X = X} (fault_of kept held file) g (Err x)) (sym is)
      (refl, some_held (head_fault (recording_head file) kept) held (length (samples (body_in (Some file)))) f opened)
  not_opened X ReadFault s is opened = subst (λ (x : Status). SourceAnswers {X = X} (fault_of kept held file) g (Err x)) (sym is) tt

  pub has_fewer : (there : ℕ) → fault_of kept 0 file ≡ None → IsBehind 0 (body_in (Some file)) left → there ≡ length (samples left)
      → there < held → fault_of kept held file ≡ Some (Fewer held there)
  has_fewer there opened behind is lt =
      let e : there ≡ length (samples (body_in (Some file))) = is ∙ ap (λ (l : List ℤ). length l) behind.samples_left in
      subst (λ (n : ℕ). fault_by (head_fault (recording_head file) kept) held n ≡ Some (Fewer held there)) e
      (fewer_there (head_fault (recording_head file) kept) held there
      (none_held (head_fault (recording_head file) kept) (length (samples (body_in (Some file)))) opened) lt)

  pub has_enough : (w : List ℤ) → fault_of kept 0 file ≡ None → IsBehind 0 (body_in (Some file)) left → length w ≡ held
      → w ≡ take held (samples left) → fault_of kept held file ≡ None
  has_enough w opened behind long is = fault_by-none (head_fault (recording_head file) kept) held (length (samples (body_in (Some file))))
      (none_held (head_fault (recording_head file) kept) (length (samples (body_in (Some file)))) opened)
      (omega (
        arith,
        long,
        ap (λ (l : List ℤ). length l) is,
        length-take held (samples left),
        ap (λ (l : List ℤ). length l)
            behind.samples_left,
      ))

-- one that was opened, and not counted again
pub not_recounted : (X : Type 0) (kept : Head) (held : ℕ) (file left : List ℕ) (g : ℕ) (fault : RecountFault) (s : Status)
    → s ≡ recounted_status g held fault → fault_of kept 0 file ≡ None → IsBehind 0 (body_in (Some file)) left
    → ((there : ℕ) → fault ≡ recount.Fewer there → (there ≡ length (samples left)) × (there < held))
    → SourceAnswers {X = X} (fault_of kept held file) g (Err s)
not_recounted X kept held file left g (recount.Fewer there) s is opened behind fewer =
    subst (λ (x : Status). SourceAnswers {X = X} (fault_of kept held file) g (Err x)) (sym is)
    (refl, has_fewer kept held file left g there opened behind (fewer there refl).0 (fewer there refl).1)
not_recounted X kept held file left g recount.ReadFault s is opened behind fewer =
    subst (λ (x : Status). SourceAnswers {X = X} (fault_of kept held file) g (Err x)) (sym is) tt
not_recounted X kept held file left g recount.OutOfMemory s is opened behind fewer =
    subst (λ (x : Status). SourceAnswers {X = X} (fault_of kept held file) g (Err x)) (sym is) tt

-- the first fault of a gauge's recording, by that of the file that was fetched
module _ (config : Config) (heads : List Head) (n : ℕ → ℕ) (files : Files) (g : ℕ) (lt : g < length heads) (name file : List ℕ)
    (is : files name ≡ Some file) (same : file_of config g ≡ name) (heads2 : List Head) (here : Head) (k : ℕ) (kept : heads2 ≡ heads)
    (held : k ≡ n g) where
  fault_here : (fault : Option RecordingFault) → fault_of (slice_index_or heads2 g here) k file ≡ fault →
      FaultOf config heads n files g fault
  fault_here = gauge_fault config heads n files g lt name file is same heads2 here k kept held

  pub gauge_answers : {X : Type 0} (r : Result X Status) → SourceAnswers {X = X} (fault_of (slice_index_or heads2 g here) k file) g r
      → GaugeAnswers {A = X} config heads n files g r
  gauge_answers (Ok x) a = fault_here None a
  gauge_answers (Err (status.Recording h f)) a = (a.0, fault_here (Some f) a.1)
  gauge_answers (Err status.Done) a = tt
  gauge_answers (Err status.Usage) a = tt
  gauge_answers (Err (status.Config f)) a = tt
  gauge_answers (Err (status.Store f)) a = tt
  gauge_answers (Err (status.Torn h b)) a = tt
  gauge_answers (Err status.ReadFault) a = tt
  gauge_answers (Err status.WriteFault) a = tt
  gauge_answers (Err status.DiskFault) a = tt
  gauge_answers (Err status.OutOfMemory) a = tt
  gauge_answers (Err (status.TooLong h)) a = tt
  gauge_answers (Err (status.Differs h w x y)) a = tt
