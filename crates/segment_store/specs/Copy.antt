-- A compact copy of a store.
--   in_version_two   a head, but for the version
--   copies_of        the held segments that have samples, in order of gauge
--   written_of       the bytes of these
--   copy_of          the image: the head in version 2, one body for each of these, and a closed gate
--   SameKeeping      two lists of bodies of a gauge keep the same
--   IsCopy           the copy of a store with these bodies
--   HasWholeCopies   no proper front of an image that ends with its closed gate reads
use Rattle.std.specs.Prelude.{◌≡◌, ◌≤◌, ◌++◌, ℕ, ℤ, List, [], ◌∷◌, length, sum_by, map, filter, nat_lt}
use Rattle.outside.specs.station.Station.{Image}
use Rattle.segment.specs.segment_rules.Parts.{PartsValue}
use Rattle.segment.specs.Segment.{SegmentValue}
use Rattle.segment.specs.Parts.{parts_of}
use Rattle.store_bytes.specs.declared.segment_bytes.layout.Layout.TheVariants.{Two}
use Rattle.store_bytes.specs.store_head.Head.{HeadValue, head_of}
use Rattle.segment_store.specs.Held.{ends_of}
use Rattle.segment_store.specs.Holds.{AllStand}
use Rattle.segment_store.specs.Image.{open_bodies, Reads}
use Rattle.segment_store.specs.Keeps.{bodies_of, last_end, kept_halves}
use Rattle.segment_store.specs.Moments.{StoreValue}

abbrev pub in_version_two : HeadValue → HeadValue
in_version_two h = record { layout = Two; setup = h.setup; heads = h.heads }

abbrev pub copies_of : List SegmentValue → List PartsValue
copies_of held = map parts_of (filter (λ (v : SegmentValue). nat_lt v.from v.to) held)

-- their bytes
abbrev pub written_of : List SegmentValue → List ℕ
written_of held = open_bodies Two (copies_of held)

abbrev pub closed_image : HeadValue → List PartsValue → Image
closed_image h bodies = (head_of h ++ open_bodies h.layout bodies) ++ 0 ∷ []

abbrev pub copy_of : StoreValue → Image
copy_of s = closed_image (in_version_two s.head) (copies_of s.held)

pub record SameKeeping (a b : List PartsValue) : Type 0 where
  pub last : last_end a ≡ last_end b
  pub used : sum_by (λ p. p.used) a ≡ sum_by (λ p. p.used) b
  pub missing : sum_by (λ p. p.missing) a ≡ sum_by (λ p. p.missing) b
  pub refused : sum_by (λ p. p.refused) a ≡ sum_by (λ p. p.refused) b
  pub halves : (lo hi : ℕ) → kept_halves a lo hi ≡ kept_halves b lo hi

pub record IsCopy (s : StoreValue) (bodies : List PartsValue) : Type 0 where
  pub reads : Reads (in_version_two s.head) (copies_of s.held) (ends_of s.held) (copy_of s)
  pub stand : (w : ℕ → List ℤ) → AllStand s.head.setup w bodies → AllStand s.head.setup w (copies_of s.held)
  pub one_each : (g : ℕ) → length (bodies_of g (copies_of s.held)) ≤ 1
  pub kept : (g : ℕ) → SameKeeping (bodies_of g (copies_of s.held)) (bodies_of g bodies)

abbrev pub HasWholeCopies : Type 0
HasWholeCopies = (h h2 : HeadValue) (bodies bodies2 : List PartsValue) (ends ends2 : List ℕ) (front rest : Image)
    → Reads h bodies ends (closed_image h bodies) → front ++ rest ≡ closed_image h bodies → Reads h2 bodies2 ends2 front
    → rest ≡ []
