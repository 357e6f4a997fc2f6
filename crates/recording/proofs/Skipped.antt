-- Samples that a source skipped, and the bytes of a part sample behind them.
--   skips_all      all samples that were asked for
--   skips_to_end   input ended before
use Rattle.std.proofs.Common.{◌≡◌, ◌≤◌, ◌<◌, ℕ, ◌+◌, ◌*◌, ◌/◌, ◌%◌, List, [], ◌++◌, length, take, drop, refl, sym, ap, ◌∙◌, subst, arith, take-append-drop}
use Rattle.std.specs.Prelude.{◌==◌, if◌then◌else◌}
use Rattle.recording.specs.declared.ends.FillEnd.{FillEnd}
use Rattle.recording.specs.declared.ends.FillEnd.TheVariants.{More, Ended, Torn}
use Rattle.recording.specs.Filling.{Takes}
use Rattle.recording.proofs.Pieces.{full, early}

-- a source skipped so many samples and bytes of the next one, and `after` is left
pub record Skipped (before after : List ℕ) (n part : ℕ) : Type 0 where
  pub there : 4 * n + part ≤ length before
  pub rest : after ≡ drop (4 * n + part) before

module _ (before after : List ℕ) (n part room : ℕ) (small : part < 4) (skipped : Skipped before after n part) where
  whole : before ≡ take (4 * n + part) before ++ after
  whole = sym (take-append-drop (4 * n + part) before) ∙ ap (λ l. take (4 * n + part) before ++ l) (sym skipped.rest)

  of_bytes : (e : FillEnd) → Takes room before ((4 * n + part) / 4) e after → Takes room before n e after
  of_bytes e taken =
      let count : (4 * n + part) / 4 ≡ n = omega (arith, small) in
      subst (λ k. Takes room before k e after) count taken

  pub skips_all : n ≡ room → 4 * n + part ≤ 4 * room → Takes room before n More after
  skips_all all fits =
      of_bytes More (full before before after (4 * n + part) skipped.there whole room More (omega (arith, all, fits)) refl)

  pub skips_to_end : (e : FillEnd) → n < room → after ≡ [] → e ≡ (if part == 0 then Ended else Torn part) → Takes room before n e after
  skips_to_end e short none is =
      let behind : part ≡ (4 * n + part) % 4 = omega (arith, small) in
      of_bytes e (early before before after (4 * n + part) skipped.there whole room e (omega (arith, short, small)) none
      (is ∙ ap (λ k. if k == 0 then Ended else Torn k) behind))
