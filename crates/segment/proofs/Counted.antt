-- The counts of samples that are put one behind the other.
--   kinds_of-append   are the sum of both
--   all_kinds          the kinds of a piece of samples are all of it
--   kinds_are          and are its counts
use Rattle.std.proofs.Common.{◌≡◌, ℕ, ℤ, ◌+◌, List, ◌++◌, length, refl, ◌∙◌, ap, length-append, arith}
use Rattle.calibration.specs.Gain.{GainValue}
use Rattle.calibration.specs.Grid.{GridValue}
use Rattle.calibration.specs.History.{history, missing_count, refused_count}
use Rattle.calibration.proofs.History.{history-append, missing_count-append, refused_count-append}
use Rattle.calibration.proofs.Places.{counts_add}
use Rattle.segment.specs.Counts.{kinds_of, kinds_sum}
use Rattle.segment.specs.declared.counts.SampleCounts.{SampleCounts}

abbrev pub counts : ℕ → ℕ → ℕ → ℕ → SampleCounts
counts s u m r = record { samples = s; used = u; missing = m; refused = r }

pub same_counts : (s s' u u' m m' r r' : ℕ) → s ≡ s' → u ≡ u' → m ≡ m' → r ≡ r' → counts s u m r ≡ counts s' u' m' r'
same_counts s s' u u' m m' r r' a b c d = rw (a, b, c, d) refl

module _ (grid : GridValue) (gain : GainValue) where
  pub kinds_of-append : (u v : List ℤ) → kinds_of grid gain (u ++ v) ≡ kinds_sum (kinds_of grid gain u) (kinds_of grid gain v)
  kinds_of-append u v = same_counts _ _ _ _ _ _ _ _
      (length-append u v)
      (ap (λ (l : List ℕ). length l) (history-append grid gain u v) ∙ length-append (history grid gain u) (history grid gain v))
      (missing_count-append grid gain u v)
      (refused_count-append grid gain u v)

  -- A piece of samples: how many are of each kind, and its levels.
  module _ (raws : List ℤ) (used missing refused : ℕ) (u : used ≡ length (history grid gain raws))
      (m : missing ≡ missing_count grid gain raws) (r : refused ≡ refused_count grid gain raws) where
    pub all_kinds : used + missing + refused ≡ length raws
    all_kinds = omega (arith, counts_add gain grid raws, u, m, r)

    pub kinds_are : counts (length raws) used missing refused ≡ kinds_of grid gain raws
    kinds_are = same_counts _ _ _ _ _ _ _ _ refl u m r
