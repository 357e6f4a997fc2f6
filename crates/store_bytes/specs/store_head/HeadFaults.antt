-- Whether the head of an image is that of a setup, in the order of the file.
--   front_fault    of the first 22 bytes, with the size of the store
--   gauge_fault    of the 40 bytes of one gauge
--   gauges_fault   of all gauges
--   head_fault     of the whole head
use Rattle.std.specs.Prelude.{◌+◌, ℕ, ℤ, pos, ◌==◌, ◌&&◌, ◌||◌, not, nat_le, nat_lt, if◌then◌else◌, Bool, List, [], ◌∷◌, length, take, slice_index, slice_range, Option, None}
use Rattle.std.specs.Int.{Width, w16, w32, w64, byte_len, from_be_bytes, cast_signed}
use Rattle.std.specs.Ordering.{int_eq}
use Rattle.std.specs.Option.{option_or}
use Rattle.segment.specs.segment_rules.Tests.{unless}
use Rattle.calibration.specs.Gain.{GainValue}
use Rattle.calibration.specs.Grid.{GridValue}
use Rattle.store_bytes.specs.declared.segment_bytes.layout.Layout.{Layout}
use Rattle.store_bytes.specs.declared.segment_bytes.layout.Layout.TheVariants.{One, Two}
use Rattle.recording.specs.declared.head.Head.{Head}
use Rattle.store_bytes.specs.declared.store_head.fault.Field.{Field}
use Rattle.store_bytes.specs.declared.store_head.fault.Field.TheVariants.{Gauges, Classes, Width as Wide, Low, Reference, Num, Den, Offset}
use Rattle.store_bytes.specs.declared.store_head.fault.HeadFault.{HeadFault}
use Rattle.store_bytes.specs.declared.store_head.fault.HeadFault.TheVariants.{NotAStore, Version, Differs}
use Rattle.calibration.specs.declared.setup.Setup.{Setup}
use Rattle.store_bytes.specs.declared.segment_bytes.layout.TheConstants.{MAX_CLASSES_ONE}
use Rattle.store_bytes.specs.declared.store_head.setup.TheConstants.{FRONT_LENGTH, GAUGE_LENGTH}
use Rattle.store_bytes.specs.store_head.Head.{gauge_place}

-- the number at a place
abbrev pub number : Width → ℕ → List ℕ → ℕ
number w at bytes = from_be_bytes w (slice_range bytes at (at + byte_len w))

abbrev pub signed_number : ℕ → List ℕ → ℤ
signed_number at bytes = cast_signed w64 (number w64 at bytes)

abbrev pub differs : Field → ℤ → ℤ → Option HeadFault
differs field kept found = unless (int_eq kept found) (Differs field kept found)

-- an open ready byte, and SGST
abbrev pub is_store : List ℕ → Bool
is_store b = (slice_index b 0 == 1) &&
    (((slice_index b 1 == 83) && (slice_index b 2 == 71)) && ((slice_index b 3 == 83) && (slice_index b 4 == 84)))

abbrev pub is_version : ℕ → Bool
is_version v = (v == 1) || (v == 2)

abbrev pub layout_of : ℕ → Layout
layout_of v = if v == 1 then One else Two

-- the layout of an image's bodies
abbrev pub layout_in : List ℕ → Layout
layout_in image = layout_of (slice_index image 5)

-- the size reaches past the head, and version 1 has at most 128 classes
abbrev pub is_whole : ℕ → ℕ → List ℕ → Bool
is_whole gauges size b =
    nat_le (gauge_place gauges + 1) size && not ((slice_index b 5 == 1) && nat_lt MAX_CLASSES_ONE (number w16 8 b))

abbrev pub grid_fault : GridValue → List ℕ → Option HeadFault
grid_fault g b =
    option_or (differs Classes (pos (number w16 8 b)) (pos g.classes))
    (option_or (differs Wide (pos (number w16 10 b)) (pos g.w2))
    (option_or (differs Low (signed_number 12 b) g.low_kpa)
    (differs Reference (pos (number w16 20 b)) (pos g.reference))))

abbrev pub front_fault : Setup → ℕ → List ℕ → Option HeadFault
front_fault s size b =
    option_or (unless (is_store b) NotAStore)
    (option_or (unless (is_version (slice_index b 5)) (Version (slice_index b 5)))
    (option_or (differs Gauges (pos (number w16 6 b)) (pos (length s.gains)))
    (option_or (unless (is_whole (length s.gains) size b) NotAStore)
    (grid_fault s.grid b))))

abbrev pub gauge_fault : ℕ → GainValue → List ℕ → Option HeadFault
gauge_fault g x b =
    option_or (differs (Num g) (signed_number 20 b) x.num)
    (option_or (differs (Den g) (pos (number w32 28 b)) (pos x.den))
    (differs (Offset g) (signed_number 32 b) x.offset))

-- the bytes of gauge g
abbrev pub gauge_at : ℕ → List ℕ → List ℕ
gauge_at g image = slice_range image (gauge_place g) (gauge_place g + GAUGE_LENGTH)

abbrev pub gauges_fault : ℕ → List GainValue → List ℕ → Option HeadFault
gauges_fault g [] image = None
gauges_fault g (x ∷ xs) image = option_or (gauge_fault g x (gauge_at g image)) (gauges_fault (g + 1) xs image)

abbrev pub start_fault : Setup → List ℕ → Option HeadFault
start_fault s image =
    option_or (unless (nat_le FRONT_LENGTH (length image)) NotAStore)
    (front_fault s (length image) (slice_range image 0 FRONT_LENGTH))

abbrev pub head_fault : Setup → List ℕ → Option HeadFault
head_fault s image = option_or (start_fault s image) (gauges_fault 0 s.gains image)

-- the recording that a gauge's bytes name
abbrev pub recording_in : List ℕ → Head
recording_in b = record { id = take 16 b; period_us = number w32 16 b }
