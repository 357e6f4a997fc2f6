-- The lines of a run of `count` or `watch` keep pace with what it stores.
--   paced_quiet    a run that only read; paced_begins: before the first call
--   paced_resumed  and then a run over the store that was resumed
--   paced_fault    and then the line of a fault
use Rattle.std.proofs.Common.{◌≡◌, ⊎_elim, inl, inr, ℕ, List, refl, sym, subst}
use Rattle.outside.specs.station.Station.{Image, Lines, MomentsSince}
use Rattle.outside.proofs.on_station.Moments.{continues, entails}
use Rattle.segment.specs.segment_rules.Parts.{PartsValue}
use Rattle.segment_store.specs.Quiet.{IsQuiet}
use Rattle.segment_store.proofs.Quiet.{quiet_starts}
use Rattle.store_bytes.specs.store_head.Head.{HeadValue}
use Rattle.site_config.specs.declared.config.Config.{Config}
use Rattle.status.specs.fault_lines.Telling.{InFault, TellsAtMost}
use Rattle.status.specs.declared.status.Status.{Status}
use Rattle.count_command.specs.declared.course.Course.{Course}
use Rattle.count_command.specs.Pacing.{InPaceBy, ToldBy, PacedBy, KeepsPace, AllTold, StoresInPace, WithLast, TellsInPace}
use Rattle.count_command.proofs.on_held_samples.Going.{runs_quiet, runs_then}

module _ (course : Course) (answer : Status) (config : Config) (first : HeadValue) (front : List PartsValue) (ends : List ℕ) (told : Lines)
    (leaves : Image → Type 0) where
  pub paced_quiet : {start now : ℕ} {past since : MomentsSince} {told2 : Lines} {seen seen2 : Image} {leaves2 : Image → Type 0}
      → IsQuiet start past now since told told2 seen seen2 leaves leaves2
      → StoresInPace course answer config first front ends start past told leaves now since told2 leaves2
  paced_quiet quiet = record {
    run = runs_quiet (KeepsPace course answer config first front ends told leaves) (λ c has. inl (refl, has)) quiet;
    level = λ d c has. inl (quiet.told_same, quiet.none_new c has);
  }

  pub paced_begins : (start : ℕ) (past : MomentsSince) (seen : Image)
      → ((lines : Lines) (c : Image) → past start lines c → (lines ≡ told) × leaves c)
      → StoresInPace course answer config first front ends start past told leaves start past told leaves
  paced_begins start past seen only = paced_quiet (quiet_starts start past told seen leaves only)

  pub paced_resumed : {start mid now : ℕ} {past between since : MomentsSince} {told2 told3 : Lines} {seen seen2 : Image}
      {leaves2 leaves3 : Image → Type 0} (head : HeadValue) (held : List ℕ) → head ≡ first → held ≡ ends
      → IsQuiet start past mid between told told2 seen seen2 leaves leaves2
      → PacedBy course answer config head front held mid between told2 now since told3 leaves3
      → StoresInPace course answer config first front ends start past told leaves now since told3 leaves3
  paced_resumed {mid} {now} {between = between} {since = since} {told2 = told2} {told3 = told3} {leaves3 = leaves3} head held same same_ends
      quiet paced =
      let g = subst (λ (e : List ℕ). PacedBy course answer config first front e mid between told2 now since told3 leaves3) same_ends
      (subst (λ (h : HeadValue). PacedBy course answer config h front held mid between told2 now since told3 leaves3) same paced) in
      let here : (lines : Lines) (c : Image) → InPaceBy course answer config first front ends told2 lines c →
      InPaceBy course answer config first front ends told lines c =
      λ lines c. subst (λ (t : Lines). InPaceBy course answer config first front ends t lines c) quiet.told_same in
      record {
        run = runs_then (KeepsPace course answer config first front ends told leaves)
            (InPaceBy course answer config first front ends told2) (paced_quiet quiet).run g.run.run
            (λ lines c p. inr (here lines c p)) (λ c has. inr (here told3 c (g.run.kept c has)));
        level = λ d c has. inr
            (subst (λ (t : Lines). ToldBy course answer config first front ends t told3 c) quiet.told_same (g.level d c has));
      }

  pub paced_fault : {start mid now : ℕ} {past between since : MomentsSince} {told2 told3 : Lines} {seen seen2 : Image}
      {leaves2 leaves3 : Image → Type 0} (line last : List ℕ)
      → line ≡ last → StoresInPace course answer config first front ends start past told leaves mid between told2 leaves2
      → TellsAtMost line mid between now since told2 told3 seen seen2 leaves2 leaves3
      → TellsInPace course answer config first front ends last start past told leaves now since told3 leaves3
  paced_fault {start} {mid} {now} {past} {between} {since} {told2} {told3} {seen} {seen2} {leaves2} {leaves3} line last is before
      has =
      let tells = subst (λ (l : List ℕ). TellsAtMost l mid between now since told2 told3 seen seen2 leaves2 leaves3) is has in
      record {
        run = continues start mid now past between since (WithLast last (KeepsPace course answer config first front ends told leaves))
            (InFault last told2 leaves2)
            (entails start mid past between (WithLast last (KeepsPace course answer config first front ends told leaves))
            (KeepsPace course answer config first front ends told leaves) before.run.run (λ lines c p. inl p)) tells.run
            (λ lines c i. ⊎_elim
            (λ same. inl (subst (λ (l : Lines). KeepsPace course answer config first front ends told leaves l c) (sym same)
            (before.run.kept c i.1)))
            (λ next. inr (told2, next, before.run.kept c i.1)) i.0);
        level = λ d c now. ⊎_elim
            (λ same. inl (subst (λ (l : Lines). AllTold course answer config first front ends told leaves l c) (sym same)
            (before.level d c (tells.none_new c now))))
            (λ next. inr (told2, next, before.level d c (tells.none_new c now))) tells.told_at_most;
      }
