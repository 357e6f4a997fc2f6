-- A body that is read in pieces by way of a buffer.
--   front       the items that were read stand at the front of the buffer
--   more_read   a piece more
use Rattle.std.proofs.Common.{◌≡◌, ◌≤◌, ℕ, ℤ, List, ◌++◌, length, take, sym, subst}
use Rattle.std.proofs.lemmas.List.{take-append-le}
use Rattle.recording.specs.Samples.{samples}
use Rattle.recording.specs.Filling.{SameFirst, Takes}
use Rattle.recording.specs.declared.ends.FillEnd.{FillEnd}
use Rattle.recording.specs.declared.ends.FillEnd.TheVariants.{More}
use Rattle.recording.proofs.Reading.{Splits, splits_next}

module _ (room n : ℕ) (buf rest : List ℤ) (body before after : List ℕ) (w : List ℤ) (end : FillEnd) (split : Splits body w before)
    (same : SameFirst n buf (samples before)) (taken : Takes room before n end after) (inside : n ≤ length buf) where
  pub front : take n (buf ++ rest) ≡ take n buf
  front = take-append-le n buf rest inside

  pub more_read : end ≡ More → Splits body (w ++ take n (buf ++ rest)) after
  more_read is =
      subst (λ (l : List ℤ). Splits body (w ++ l) after) (sym front)
      (splits_next room n buf body before after w split same (subst (λ (x : FillEnd). Takes room before n x after) is taken))
