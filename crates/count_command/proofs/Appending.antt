-- A run of `count` only appends, and acknowledges no more than is held.
--   truly_begins   before the first call
--   truly_quiet    a run that only read
--   truly_going    and then a run over the store that was resumed
--   truly_fault    and then the line of a fault
--   only_grown     what a run that tells truly says of the store
--   only_told      and one that tells a line at most
use Rattle.std.proofs.Common.{◌≡◌, ⊎_elim, inl, inr, ℕ, List, [], ◌∷◌, ◌++◌, append_assoc, ◌∙◌, ap, subst}
use Rattle.outside.specs.station.Station.{Image, Lines, MomentsSince, Since}
use Rattle.outside.proofs.on_station.Moments.{entails}
use Rattle.segment.specs.segment_rules.Parts.{PartsValue}
use Rattle.segment_store.specs.Quiet.{IsQuiet}
use Rattle.segment_store.proofs.Quiet.{quiet_starts}
use Rattle.store_bytes.specs.store_head.Head.{HeadValue}
use Rattle.site_config.specs.recorded.Recorded.{Recorded}
use Rattle.status.specs.declared.status.Status.{Status}
use Rattle.status.specs.fault_lines.FaultLine.{fault_line}
use Rattle.status.specs.fault_lines.Telling.{InFault, TellsAtMost}
use Rattle.count_command.specs.Appending.{HasGrown, TellsTruly}
use Rattle.count_command.specs.held_samples.Kept.{ReadsBeyond, beginning}
use Rattle.count_command.specs.held_samples.Told.{IsBelow}
use Rattle.count_command.specs.held_samples.Going.{KeepsAs, HoldsSince, RunsBy}
use Rattle.count_command.proofs.on_held_samples.Going.{all_more, below_grows, same_lines, runs_quiet, runs_then}
use Rattle.count_command.proofs.FaultTold.{fault_below, runs_fault}

module _ (r : Recorded) (first : HeadValue) (front : List PartsValue) (told : Lines) (leaves : Image → Type 0) where
  untold : (c : Image) → leaves c → TellsTruly r first front told leaves told c
  untold c has = record { new = []; grew = same_lines told; has_grown = inl (has, tt) }

  pub truly_quiet : {start now : ℕ} {past since : MomentsSince} {told2 : Lines} {seen seen2 : Image} {leaves2 : Image → Type 0}
      → IsQuiet start past now since told told2 seen seen2 leaves leaves2
      → RunsBy (TellsTruly r first front told leaves) start past now since told2 leaves2
  truly_quiet quiet = runs_quiet (TellsTruly r first front told leaves) untold quiet

  pub truly_begins : (start : ℕ) (past : MomentsSince) (seen : Image)
      → ((lines : Lines) (c : Image) → past start lines c → (lines ≡ told) × leaves c)
      → RunsBy (TellsTruly r first front told leaves) start past start past told leaves
  truly_begins start past seen only = truly_quiet (quiet_starts start past told seen leaves only)

  pub truly_going : {start mid now : ℕ} {past between since : MomentsSince} {told2 told3 : Lines} {leaves2 leaves3 : Image → Type 0}
      (head : HeadValue) (n m : List ℕ) → head ≡ first
      → RunsBy (TellsTruly r first front told leaves) start past mid between told2 leaves2 → told2 ≡ told
      → HoldsSince (beginning head front) r n mid between told2 now since told3 leaves3 m
      → RunsBy (TellsTruly r first front told leaves) start past now since told3 leaves3
  truly_going {told2 = told2} head n m same before nothing g =
      let beyond : (k : List ℕ) (c : Image) → ReadsBeyond head front k c → ReadsBeyond first front k c =
      λ k c. subst (λ (h : HeadValue). ReadsBeyond h front k c) same in
      runs_then (TellsTruly r first front told leaves) (KeepsAs (beginning head front) r n told2) before g.run
      (λ lines c k. record {
        new = k.new;
        grew = k.grew ∙ ap (λ (l : Lines). l ++ k.new) nothing;
        has_grown = inr (k.held, beyond k.held c k.holds, k.below);
      })
      (λ c has. let h = g.held c has in record {
        new = g.new;
        grew = g.grew ∙ ap (λ (l : Lines). l ++ g.new) nothing;
        has_grown = inr (h.held, beyond h.held c h.holds, below_grows r m h.held h.least g.new g.below);
      })

  -- a line that acknowledges nothing, behind lines that tell truly
  with_fault : (s : Status) (name : List ℕ) (lines : Lines) (c : Image) → TellsTruly r first front told leaves lines c
      → TellsTruly r first front told leaves (lines ++ fault_line s name ∷ []) c
  with_fault s name lines c t =
      let line = fault_line s name in
      record {
        new = t.new ++ line ∷ [];
        grew = ap (λ (l : Lines). l ++ line ∷ []) t.grew ∙ append_assoc told t.new (line ∷ []);
        has_grown = ⊎_elim
            (λ old. inl (old.0, all_more (IsBelow r []) t.new line old.1 (fault_below r s name [])))
            (λ more. inr (more.0, more.1, all_more (IsBelow r more.0) t.new line more.2 (fault_below r s name more.0)))
            t.has_grown;
      }

  pub truly_fault : {start mid now : ℕ} {past between since : MomentsSince} {told2 told3 : Lines} {seen seen2 : Image}
      {leaves2 leaves3 : Image → Type 0} (s : Status) (name : List ℕ)
      → RunsBy (TellsTruly r first front told leaves) start past mid between told2 leaves2
      → TellsAtMost (fault_line s name) mid between now since told2 told3 seen seen2 leaves2 leaves3
      → RunsBy (TellsTruly r first front told leaves) start past now since told3 leaves3
  truly_fault {told2 = told2} s name before tells =
      runs_fault (TellsTruly r first front told leaves) (fault_line s name) before (λ c has. with_fault s name told2 c) tells

  pub only_grown : {start now : ℕ} {past since : MomentsSince} {told2 : Lines} {leaves2 : Image → Type 0}
      → RunsBy (TellsTruly r first front told leaves) start past now since told2 leaves2
      → Since start past now since (HasGrown first front leaves)
  only_grown {start} {now} {past} {since} runs =
      entails start now past since (HasGrown first front leaves) (TellsTruly r first front told leaves) runs.run
      (λ lines c t. ⊎_elim (λ old. inl old.0) (λ more. inr (more.0, more.1)) t.has_grown)

-- where a line was told at most, the store is as it was
pub only_told : (first : HeadValue) {front : List PartsValue} {start now : ℕ} {past since : MomentsSince} {told told2 : Lines}
    {seen seen2 : Image} {leaves leaves2 : Image → Type 0} {line : List ℕ}
    → TellsAtMost line start past now since told told2 seen seen2 leaves leaves2
    → Since start past now since (HasGrown first front leaves)
only_told first {front} {start} {now} {past} {since} {told} {leaves = leaves} {line = line} tells =
    entails start now past since (HasGrown first front leaves) (InFault line told leaves) tells.run (λ lines c i. inl i.1)
