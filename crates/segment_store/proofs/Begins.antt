-- A walk that was begun, and one that came to a closed gate, from equal places.
--   not_begun     of none
--   begun_moved, found_moved   from equal places
use Rattle.std.proofs.Common.{◌≡◌, ℕ, List, [], subst}
use Rattle.outside.specs.station.Station.{Image}
use Rattle.calibration.specs.declared.setup.Setup.{Setup}
use Rattle.segment.specs.Segment.{SegmentValue}
use Rattle.store_bytes.specs.declared.segment_bytes.layout.Layout.{Layout}
use Rattle.store_bytes.specs.store_head.Head.{start_of}
use Rattle.segment_store.specs.Image.{nothing_held}
use Rattle.segment_store.specs.Visiting.{BegunFrom, FoundFrom, HasBegun}
use Rattle.segment_store.proofs.Found.{none_passed}
use Rattle.segment_store.proofs.Visited.{none_visited}

pub not_begun : {V : Type 0} (step : V → SegmentValue → V → Type 0) (u : V) (tells : Type 0) (l : Layout) (setup : Setup) (image : Image)
    → HasBegun step u u tells l setup image
not_begun step u tells l setup image = (
  [],
  nothing_held setup,
  start_of setup,
  none_visited step u setup (nothing_held setup),
  λ t. none_passed l setup image (start_of setup) (nothing_held setup),
)

module _ {V : Type 0} (step : V → SegmentValue → V → Type 0) (u w : V) (tells : Type 0) (l : Layout) (setup : Setup) (image : Image)
    (start start2 : ℕ) (ends ends2 : List ℕ) where
  pub begun_moved : start ≡ start2 → ends ≡ ends2 → BegunFrom step u w tells l setup image start ends
      → BegunFrom step u w tells l setup image start2 ends2
  begun_moved a e b = subst (λ n. BegunFrom step u w tells l setup image n ends2) a
      (subst (λ x. BegunFrom step u w tells l setup image start x) e b)

  pub found_moved : (last last2 : List ℕ) (place count : ℕ) → start ≡ start2 → ends ≡ ends2 → last ≡ last2
      → FoundFrom step u w tells l setup image start ends last place count
      → FoundFrom step u w tells l setup image start2 ends2 last2 place count
  found_moved last last2 place count a e f b = subst (λ n. FoundFrom step u w tells l setup image n ends2 last2 place count) a
      (subst (λ x. FoundFrom step u w tells l setup image start x last2 place count) e
      (subst (λ x. FoundFrom step u w tells l setup image start ends x place count) f b))
