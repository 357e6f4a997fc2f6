-- The moments of making a store, and of telling how it ended.
--   none_yet     before anything was done
--   as_begun     nothing is told while the store is made
--   told_made    its line was told or was not, of the new store
--   then_last    and then the line of the answer
--   last_alone   that line alone, over an empty station
use Rattle.std.proofs.Common.{◌≡◌, ◌⊎◌, inl, inr, ⊎_elim, ℕ, List, [], ◌∷◌, ◌++◌, length, refl, ◌∙◌, ap, subst, arith}
use Rattle.std.specs.Prelude.{Result, Ok, Err}
use Rattle.outside.specs.Site.{Files}
use Rattle.outside.specs.station.Station.{Image, Lines, MomentsSince, Elapses, Since, Only, SameImages, Tells}
use Rattle.outside.proofs.on_station.Moments.{started, goes_on, continues, entails}
use Rattle.recording.specs.declared.head.Head.{Head}
use Rattle.site_config.specs.declared.config.Config.{Config}
use Rattle.store_bytes.specs.store_head.Head.{empty_store}
use Rattle.segment_store.specs.Beginning.{IsBegunAs, InInit}
use Rattle.status.specs.fault_lines.Telling.{InFault}
use Rattle.init_command.specs.Heads.{AreHeads}
use Rattle.init_command.specs.Init.{init_line, head_for, IsBegun, AddsAtMost, InMaking}
use Rattle.init_command.specs.Making.{InStore}

told_either : {E : Type 0} (r : Result (Unit {0}) E) (old new : Lines) (line : List ℕ) → Tells old line new r →
    (new ≡ old ++ line ∷ []) ⊎ (new ≡ old)
told_either (Ok u) old new line t = inl t.0
told_either (Err e) old new line t = t.1

module _ (start : ℕ) (past : MomentsSince) (told : Lines) (line bytes : List ℕ) where
  pub none_yet : (leaves : Image → Type 0) → ((lines : Lines) (c : Image) → past start lines c → (lines ≡ told) × leaves c)
      → ((c : Image) → leaves c → length c ≡ 0) → Since start past start past (InStore told line bytes)
  none_yet leaves only none = started start past (InStore told line bytes)
      (λ lines c was. inl ((only lines c was).0, inl (omega (arith, none c (only lines c was).1))))

  pub as_begun : (now : ℕ) (since : MomentsSince) → Since start past now since (InInit told bytes)
      → Since start past now since (InStore told line bytes)
  as_begun now since run = entails start now past since (InStore told line bytes) (InInit told bytes) run (λ lines c h. inl h)

  pub told_made : {E : Type 0} (mid now : ℕ) (between since : MomentsSince) (told2 told3 : Lines) (line2 : List ℕ) (seen : Image)
      (leaves leaves2 : Image → Type 0) (result : Result (Unit {0}) E) → Since start past mid between (InInit told bytes) → told2 ≡ told
      → seen ≡ bytes → Only seen leaves → line2 ≡ line → Elapses mid now between since told3 leaves2 → SameImages leaves leaves2
      → Tells told2 line2 told3 result → Since start past now since (InStore told line bytes)
  told_made mid now between since told2 told3 line2 seen leaves leaves2 result run same made only is time images tells =
      goes_on start mid now past between since (InStore told line bytes) told3 leaves2 (as_begun mid between run) time
      (λ c has. let is_made : c ≡ bytes = only c (images.none_new c has) ∙ made in
      ⊎_elim {C = InStore told line bytes told3 c}
      (λ more. inr (more ∙ ap (λ (l : Lines). l ++ line2 ∷ []) same ∙ ap (λ (l : List ℕ). told ++ l ∷ []) is, is_made))
      (λ none. inl (none ∙ same, inr (inr is_made))) (told_either result told2 told3 line2 tells))

module _ (c : Config) (files : Files) (told : Lines) (last : List ℕ) where
  module _ (heads : List Head) (are : AreHeads c files heads) where
    begun : (image : Image) → IsBegunAs (empty_store (head_for c heads)) image → IsBegun c files image
    begun image (inl short) = inl short
    begun image (inr (inl shut)) = inr (inl shut)
    begun image (inr (inr is)) = inr (inr (heads, are, is))

    -- behind what was told when an image was there
    behind : (line : List ℕ) (told2 lines : Lines) (image : Image) → line ≡ init_line (length c.gauges) → AddsAtMost last told2 lines
        → InStore told line (empty_store (head_for c heads)) told2 image → InMaking c files told last lines image
    behind line told2 lines image is added (inl h) = inl (subst (λ (l : Lines). AddsAtMost last l lines) h.0 added, begun image h.1)
    behind line told2 lines image is added (inr h) = inr (
      subst (λ (l : Lines). AddsAtMost last l lines) (h.0 ∙ ap (λ (l : List ℕ). told ++ l ∷ []) is) added,
      (heads, are, h.1),
    )

    pub then_last : (start mid now : ℕ) (past between since : MomentsSince) (line : List ℕ) (told2 : Lines) (leaves : Image → Type 0)
        → line ≡ init_line (length c.gauges) → Since start past mid between (InStore told line (empty_store (head_for c heads)))
        → ((image : Image) → leaves image → between start told2 image) → Since mid between now since (InFault last told2 leaves)
        → Since start past now since (InMaking c files told last)
    then_last start mid now past between since line told2 leaves is run counts fault =
        continues start mid now past between since (InMaking c files told last) (InFault last told2 leaves)
        (entails start mid past between (InMaking c files told last) (InStore told line (empty_store (head_for c heads))) run
        (λ lines image h. behind line lines lines image is (inl refl) h))
        fault (λ lines image h. behind line told2 lines image is h.0 (run.each told2 image (counts image h.1)))

  pub last_alone : (start now : ℕ) (past since : MomentsSince) (leaves : Image → Type 0) →
      ((image : Image) → leaves image → length image ≡ 0) → Since start past now since (InFault last told leaves)
      → Since start past now since (InMaking c files told last)
  last_alone start now past since leaves none run =
      entails start now past since (InMaking c files told last) (InFault last told leaves) run
      (λ lines image h. inl (h.0, inl (omega (arith, none image h.1))))
