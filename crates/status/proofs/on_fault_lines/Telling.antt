-- A line told at most, and how a run goes on with it.
use Rattle.std.proofs.Common.{◌≡◌, ◌⊎◌, inl, inr, ⊎_elim, ℕ, List, [], ◌∷◌, ◌++◌, ◌∙◌, ap}
use Rattle.outside.specs.station.Station.{Image, Lines, MomentsSince, Since}
use Rattle.outside.proofs.on_station.Moments.{continues, entails}
use Rattle.segment_store.specs.Quiet.{IsQuiet}
use Rattle.status.specs.fault_lines.Telling.{InFault, TellsAtMost}

-- a run that reads, and then tells
pub quiet_tells : (line : List ℕ) (start mid now : ℕ) (past between since : MomentsSince) (told told2 told3 : Lines)
    (seen seen2 seen3 : Image) (leaves leaves2 leaves3 : Image → Type 0)
    → IsQuiet start past mid between told told2 seen seen2 leaves leaves2
    → TellsAtMost line mid between now since told2 told3 seen2 seen3 leaves2 leaves3
    → TellsAtMost line start past now since told told3 seen seen3 leaves leaves3
quiet_tells line start mid now past between since told told2 told3 seen seen2 seen3 leaves leaves2 leaves3 q t =
    let before : Since start past mid between (InFault line told leaves) =
    entails start mid past between (InFault line told leaves) _ q.run (λ lines c k. (inl k.0, k.1)) in
    let later = λ (lines : Lines) (h : (lines ≡ told2) ⊎ (lines ≡ told2 ++ line ∷ [])).
    ⊎_elim {C = (lines ≡ told) ⊎ (lines ≡ told ++ line ∷ [])} (λ same. inl (same ∙ q.told_same))
    (λ more. inr (more ∙ ap (λ (l : Lines). l ++ line ∷ []) q.told_same)) h in
    record {
      run = continues start mid now past between since (InFault line told leaves) _ before t.run
          (λ lines c h. (later lines h.0, q.none_new c h.1));
      told_at_most = later told3 t.told_at_most;
      seen_same = t.seen_same ∙ q.seen_same;
      none_new = λ c has. q.none_new c (t.none_new c has);
    }
