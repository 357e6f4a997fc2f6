-- A source behind so many samples of its recording, and the recordings of all gauges.
use Rattle.std.proofs.Common.{◌≡◌, ◌≤◌, ◌<◌, ◌+◌, ℕ, List, inl, inr, length, slice_index_or, refl, sym, ◌∙◌, ap, subst, arith, []}
use Rattle.std.proofs.lemmas.Bool.{cases_lt}
use Rattle.std.proofs.lemmas.List.{get_or_default}
use Rattle.std.proofs.lemmas.Option.{none-some}
use Rattle.std.specs.Prelude.{nat_le, ◌==◌, if◌then◌else◌, Option, Some, None, Err}
use Rattle.std.proofs.lemmas.Bool.Decides.{nat_tests}
use Rattle.outside.specs.Site.{Files}
use Rattle.recording.specs.Samples.{samples, torn_bytes}
use Rattle.recording.specs.Filling.{Takes}
use Rattle.recording.specs.declared.head.Head.{Head}
use Rattle.recording.specs.declared.ends.FillEnd.{FillEnd}
use Rattle.recording.specs.declared.ends.FillEnd.TheVariants.{More, Ended, Torn}
use Rattle.recording.proofs.SampleLists.{length-samples, samples-drop, torn_bytes-drop}
use Rattle.site_config.specs.Valid.{file_of}
use Rattle.site_config.specs.declared.config.Config.{Config}
use Rattle.status.specs.declared.status.RecordingFault.{RecordingFault}
use Rattle.status.specs.declared.status.Status.{Status}
use Rattle.status.specs.declared.status.Status.TheVariants as status
use Rattle.site_lanes.specs.Answers.{FaultOf, GaugeAnswers, AllOpened, OpenAnswers}
use Rattle.site_lanes.specs.Opening.{fault_of, IsBehind, IsOpeningAnswer, opened_status, fault_by}
use Rattle.site_lanes.specs.declared.opening.OpenFault.{OpenFault}
use Rattle.site_lanes.specs.declared.opening.OpenFault.TheVariants.{Recording, ReadFault}
use Rattle.lemmas.proofs.Outcomes.{same_some}

enough : (n len part : ℕ) → More ≡ (if nat_le n len then More else (if part == 0 then Ended else Torn part)) → n ≤ len
enough n len part is = grind (arith, nat_tests)

pub behind : {n k : ℕ} {body before left : List ℕ} {end : FillEnd} → end ≡ More → before ≡ body → Takes n before k end left
    → IsBehind n body left
behind {n} {k} {body} {before} {left} {end} more same takes =
    let t : Takes n body k More left = subst (λ (b : List ℕ). Takes n b k More left) same
    (subst (λ (e : FillEnd). Takes n before k e left) more takes) in
    let many = enough n (length (samples body)) (torn_bytes body) (t.ends (λ e. cc)) in
    record {
      there = many;
      samples_left = ap samples (t.left (λ e. cc)) ∙ samples-drop n body;
      torn_left = ap torn_bytes (t.left (λ e. cc)) ∙ torn_bytes-drop n body (omega (arith, many, length-samples body));
    }

-- the first fault of a gauge's recording, by that of the file that was fetched
module _ (config : Config) (heads : List Head) (n : ℕ → ℕ) (files : Files) (g : ℕ) (lt : g < length heads) (name file : List ℕ)
    (is : files name ≡ Some file) (same : file_of config g ≡ name) (heads2 : List Head) (here : Head) (k : ℕ) (kept : heads2 ≡ heads)
    (held : k ≡ n g) where
  pub gauge_fault : (fault : Option RecordingFault) → fault_of (slice_index_or heads2 g here) k file ≡ fault
      → FaultOf config heads n files g fault
  gauge_fault fault opened = (
    file,
    ap files same ∙ is,
    λ d. ap (λ (h : Head). fault_of h (n g) file) (get_or_default heads g d here lt
        ∙ ap (λ (l : List Head). slice_index_or l g here) (sym kept))
        ∙ ap (λ (m : ℕ). fault_of (slice_index_or heads2 g here) m file) (sym held) ∙ opened,
  )

  pub gauge_refused : (A : Type 0) (fault : OpenFault) (s : Status) → s ≡ opened_status g fault
      → IsOpeningAnswer (fault_of (slice_index_or heads2 g here) k file) (Err fault) → GaugeAnswers {A = A} config heads n files g (Err s)
  gauge_refused A (Recording f) s is_status opened =
      subst (λ (x : Status). GaugeAnswers {A = A} config heads n files g (Err x)) (sym is_status) (refl, gauge_fault (Some f) opened)
  gauge_refused A ReadFault s is_status opened =
      subst (λ (x : Status). GaugeAnswers {A = A} config heads n files g (Err x)) (sym is_status) tt

-- of all gauges, where those below are sound
pub open_refused : (A : Type 0) (c : Config) (heads : List Head) (n : ℕ → ℕ) (files : Files) (g : ℕ) → g < length c.gauges
    → AllOpened c heads n files g → (s : Status) → GaugeAnswers {A = A} c heads n files g (Err s) → OpenAnswers c heads n files (Err s)
open_refused A c heads n files g lt below (status.Recording h f) a = (
  omega (arith, lt, a.0),
  subst (λ (k : ℕ). AllOpened c heads n files k) (sym a.0) below,
  subst (λ (k : ℕ). FaultOf c heads n files k (Some f)) (sym a.0) a.1,
)
open_refused A c heads n files g lt below status.Done a = tt
open_refused A c heads n files g lt below status.Usage a = tt
open_refused A c heads n files g lt below (status.Config f) a = tt
open_refused A c heads n files g lt below (status.Store f) a = tt
open_refused A c heads n files g lt below (status.Torn h b) a = tt
open_refused A c heads n files g lt below status.ReadFault a = tt
open_refused A c heads n files g lt below status.WriteFault a = tt
open_refused A c heads n files g lt below status.DiskFault a = tt
open_refused A c heads n files g lt below status.OutOfMemory a = tt
open_refused A c heads n files g lt below (status.TooLong h) a = tt
open_refused A c heads n files g lt below (status.Differs h w x y) a = tt

pub all_more_opened : (c : Config) (heads : List Head) (n : ℕ → ℕ) (files : Files) (k : ℕ) → AllOpened c heads n files k
    → FaultOf c heads n files k None → AllOpened c heads n files (k + 1)
all_more_opened c heads n files k below here g lt = elim (cases_lt g k) [
  | inl within ↦ below g within
  | inr past ↦ subst (λ (h : ℕ). FaultOf c heads n files h None) (let e : k ≡ g = omega (arith, past, lt) in e) here
]

pub fault_by-none : (o : Option RecordingFault) (held there : ℕ) → o ≡ None → held ≤ there → fault_by o held there ≡ None
fault_by-none (Some f) held there e le = absurd cc
fault_by-none None held there e le = grind (arith, nat_tests)

-- a recording is not at once sound and refused
pub not_both : (c : Config) (heads : List Head) (n : ℕ → ℕ) (files : Files) (g : ℕ) (f : RecordingFault) → FaultOf c heads n files g None
    → FaultOf c heads n files g (Some f) → ⊥
not_both c heads n files g f sound faulty =
    let any : Head = record { id = []; period_us = 0 } in
    let same : sound.0 ≡ faulty.0 = same_some sound.1 faulty.1 in
    none-some f (sym (sound.2 any) ∙ (ap (fault_of (slice_index_or heads g any) (n g)) same ∙ faulty.2 any))
