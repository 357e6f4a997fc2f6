-- No proper front of a copy reads.
--   same_setup   an image is of one setup
use Rattle.std.proofs.Common.{◌≡◌, ℕ, ◌+◌, List, [], ◌∷◌, ◌++◌, length, None, refl, sym, ap, ◌∙◌, arith, append_assoc, length-append}
use Rattle.std.specs.Prelude.{ℤ, pos, slice_range}
use Rattle.std.specs.Int.{w16}
use Rattle.std.proofs.lemmas.Bool.Decides.{Decides-int_eq}
use Rattle.std.proofs.lemmas.List.{nil_from_length}
use Rattle.lemmas.proofs.Outcomes.{both_none}
use Rattle.segment.proofs.on_segment_rules.Chosen.{kept}
use Rattle.outside.specs.station.Station.{Image}
use Rattle.calibration.specs.Gain.{GainValue}
use Rattle.calibration.specs.Grid.{GridValue}
use Rattle.calibration.specs.declared.setup.Setup.{Setup}
use Rattle.segment.specs.segment_rules.Parts.{PartsValue}
use Rattle.store_bytes.specs.declared.store_head.fault.Field.{Field}
use Rattle.store_bytes.specs.store_head.Head.{HeadValue, head_of}
use Rattle.store_bytes.specs.store_head.HeadFaults.{number, signed_number, differs, front_fault, gauge_at, gauge_fault, gauges_fault, head_fault}
use Rattle.store_bytes.specs.declared.store_head.setup.TheConstants.{FRONT_LENGTH}
use Rattle.segment_store.specs.Image.{open_bodies, Reads}
use Rattle.segment_store.specs.Copy.{closed_image, HasWholeCopies}
use Rattle.segment_store.proofs.Passing.{never}
use Rattle.segment_store.proofs.SameReading.{same_head, same_reading}

-- ---- the setup is told by the head

same_of : (field : Field) (a b : ℤ) → differs field a b ≡ None → a ≡ b
same_of field a b e = (Decides-int_eq a b).0 (kept _ _ e)

value_of : ℤ → ℕ
value_of (pos n) = n
value_of z = 0

same_number : (field : Field) (a b : ℕ) → differs field (pos a) (pos b) ≡ None → a ≡ b
unfolding value_of
same_number field a b e = ap value_of (same_of field (pos a) (pos b) e)

abbrev gain_by : ℤ → ℕ → ℤ → GainValue
gain_by num den offset = record { num = num; den = den; offset = offset }

abbrev grid_by : ℕ → ℕ → ℤ → ℕ → GridValue
grid_by classes w2 low reference = record { classes = classes; w2 = w2; low_kpa = low; reference = reference }

abbrev setup_by : GridValue → List GainValue → Setup
setup_by grid gains = record { grid = grid; gains = gains }

same_gain : (g : ℕ) (x y : GainValue) (b : List ℕ) → gauge_fault g x b ≡ None → gauge_fault g y b ≡ None → x ≡ y
same_gain g x y b ex ey =
    let a = both_none _ _ ex in
    let c = both_none _ _ a.1 in
    let a2 = both_none _ _ ey in
    let c2 = both_none _ _ a2.1 in
    let num : x.num ≡ y.num = sym (same_of _ _ _ a.0) ∙ same_of _ _ _ a2.0 in
    let den : x.den ≡ y.den = sym (same_number _ _ _ c.0) ∙ same_number _ _ _ c2.0 in
    let offset : x.offset ≡ y.offset = sym (same_of _ _ _ c.1) ∙ same_of _ _ _ c2.1 in
    ap (λ n. gain_by n x.den x.offset) num ∙ ap (λ n. gain_by y.num n x.offset) den ∙ ap (gain_by y.num y.den) offset

same_gains : (g : ℕ) (xs ys : List GainValue) (image : List ℕ) → length xs ≡ length ys → gauges_fault g xs image ≡ None
    → gauges_fault g ys image ≡ None → xs ≡ ys
same_gains g [] [] image e ex ey = refl
same_gains g [] (y ∷ ys) image e ex ey = absurd (omega (arith, e))
same_gains g (x ∷ xs) [] image e ex ey = absurd (omega (arith, e))
same_gains g (x ∷ xs) (y ∷ ys) image e ex ey =
    let a = both_none _ _ ex in
    let b = both_none _ _ ey in
    ap (λ z. z ∷ xs) (same_gain g x y (gauge_at g image) a.0 b.0)
    ∙ ap (λ l. y ∷ l) (same_gains (g + 1) xs ys image (omega (arith, e)) a.1 b.1)

-- the numbers of the front are those of the setup
record HasNumbers (s : Setup) (b : List ℕ) : Type 0 where
  gauges : number w16 6 b ≡ length s.gains
  classes : number w16 8 b ≡ s.grid.classes
  wide : number w16 10 b ≡ s.grid.w2
  low : signed_number 12 b ≡ s.grid.low_kpa
  reference : number w16 20 b ≡ s.grid.reference

has_numbers : (s : Setup) (size : ℕ) (b : List ℕ) → front_fault s size b ≡ None → HasNumbers s b
has_numbers s size b none =
    let a = both_none _ _ none in
    let v = both_none _ _ a.1 in
    let g = both_none _ _ v.1 in
    let z = both_none _ _ g.1 in
    let c = both_none _ _ z.1 in
    let w = both_none _ _ c.1 in
    let l = both_none _ _ w.1 in
    record {
      gauges = same_number _ _ _ g.0;
      classes = same_number _ _ _ c.0;
      wide = same_number _ _ _ w.0;
      low = same_of _ _ _ l.0;
      reference = same_number _ _ _ l.1;
    }

in_front : (s : Setup) (image : List ℕ) → head_fault s image ≡ None
    → HasNumbers s (slice_range image 0 FRONT_LENGTH) × (gauges_fault 0 s.gains image ≡ None)
in_front s image none =
    let all = both_none _ _ none in
    let start = both_none _ _ all.0 in
    (has_numbers s (length image) (slice_range image 0 FRONT_LENGTH) start.1, all.1)

pub same_setup : (s s2 : Setup) (image : List ℕ) → head_fault s image ≡ None → head_fault s2 image ≡ None → s ≡ s2
same_setup s s2 image none none2 =
    let n = in_front s image none in
    let m = in_front s2 image none2 in
    let a = n.0 in
    let b = m.0 in
    let x : GridValue = s.grid in
    let y : GridValue = s2.grid in
    let classes : s.grid.classes ≡ s2.grid.classes = sym a.classes ∙ b.classes in
    let wide : s.grid.w2 ≡ s2.grid.w2 = sym a.wide ∙ b.wide in
    let low : s.grid.low_kpa ≡ s2.grid.low_kpa = sym a.low ∙ b.low in
    let reference : s.grid.reference ≡ s2.grid.reference = sym a.reference ∙ b.reference in
    let grid : s.grid ≡ s2.grid = ap (λ n. grid_by n x.w2 x.low_kpa x.reference) classes
    ∙ ap (λ n. grid_by y.classes n x.low_kpa x.reference) wide ∙ ap (λ n. grid_by y.classes y.w2 n x.reference) low
    ∙ ap (grid_by y.classes y.w2 y.low_kpa) reference in
    ap (λ k. setup_by k s.gains) grid
    ∙ ap (setup_by s2.grid) (same_gains 0 s.gains s2.gains image (sym a.gauges ∙ b.gauges) n.1 m.1)

-- ---- a front

-- what follows the closed gate is free
longer : (h : HeadValue) (bodies : List PartsValue) (ends : List ℕ) (front rest image : Image) → front ++ rest ≡ image
    → Reads h bodies ends front → Reads h bodies ends image
longer h bodies ends front rest image is r = record {
  is_head = r.is_head;
  gate = r.gate;
  rest = r.rest ++ rest;
  whole = sym is ∙ ap (λ (l : List ℕ). l ++ rest) r.whole
      ∙ append_assoc (head_of h ++ open_bodies h.layout bodies) (r.gate ∷ r.rest) rest;
  closed = r.closed;
  tiles = r.tiles;
}

pub whole_copies : HasWholeCopies
whole_copies h h2 bodies bodies2 ends ends2 front rest r is r2 =
    let image = closed_image h bodies in
    let more : Reads h2 bodies2 ends2 image = longer h2 bodies2 ends2 front rest image is r2 in
    let setup : h.setup ≡ h2.setup = same_setup h.setup h2.setup image (never h bodies ends image r) (never h2 bodies2 ends2 image more) in
    let head : h ≡ h2 = same_head h h2 bodies bodies2 ends ends2 image setup r more in
    let both = same_reading h h2 bodies bodies2 ends ends2 image head r more in
    let a : List ℕ = head_of h ++ open_bodies h.layout bodies in
    let b : List ℕ = head_of h2 ++ open_bodies h2.layout bodies2 in
    let same : length b ≡ length a = ap (λ (x : HeadValue). length (head_of x ++ open_bodies x.layout bodies2)) (sym head)
    ∙ ap (λ l. length (head_of h ++ open_bodies h.layout l)) (sym both.0) in
    nil_from_length rest (omega (
      arith,
      same,
      ap length is,
      ap length r2.whole,
      length-append front rest,
      length-append b (r2.gate ∷ r2.rest),
      length-append a (0 ∷ []),
    ))
