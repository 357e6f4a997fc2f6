-- The lists of a segment in its body.
use Rattle.std.proofs.Common.{◌≡◌, ℕ, ◌+◌, ◌-◌, ◌*◌, ◌<◌, ◌≤◌, List, ◌++◌, length, drop, take, refl, sym, ap, ◌∙◌, append_assoc, length-append, length-take-le, arith}
use Rattle.std.specs.Prelude.{slice_index}
use Rattle.std.proofs.lemmas.List.{drop-take, drop_at, take-append-le, take-take}
use Rattle.std.proofs.Math.Seq.{take-append-add}
use Rattle.tally.specs.Counts.{count_of}
use Rattle.segment.specs.Parts.{bins_from, parts_of}
use Rattle.segment.specs.Segment.{SegmentValue}
use Rattle.store_bytes.specs.declared.segment_bytes.bin_lists.Table.{Table}
use Rattle.store_bytes.specs.declared.segment_bytes.bin_lists.Table.TheVariants.{Crossings, Peaks, Valleys, Ranges}
use Rattle.segment.specs.segment_rules.Parts.{PartsValue}
use Rattle.store_bytes.specs.declared.segment_bytes.layout.Layout.{Layout}
use Rattle.store_bytes.specs.declared.segment_bytes.layout.Layout.TheVariants.{One, Two}
use Rattle.store_bytes.specs.segment_bytes.Sizes.{body_length, list0_length}
use Rattle.store_bytes.specs.segment_bytes.Writing.{Puts, bins_in, bins_of, table_count, first_key, keys, row_bins}
use Rattle.store_bytes.proofs.on_segment_bytes.Listed.{listed_same}

-- the counts of a table, filled into a list, are its bins
pub table_bins : (v : SegmentValue) (t : Table) (first n : ℕ) (out : List ℕ) → first ≡ first_key v.grid t → n ≡ keys v.grid t
    → length out ≡ n
    → ((k : ℕ) → k < length out → slice_index out k ≡ table_count v t (first + k)) → bins_of first out ≡ bins_in (parts_of v) t
table_bins v t first n out e f g h = listed_same (table_count v t) first out h ∙ ap (bins_from (table_count v t) first) (g ∙ f)
    ∙ ap (λ k. bins_from (table_count v t) k (keys v.grid t)) e ∙ is t
  where
    is : (t : Table) → bins_from (table_count v t) (first_key v.grid t) (keys v.grid t) ≡ bins_in (parts_of v) t
    is Crossings = refl
    is Peaks = refl
    is Valleys = refl
    is Ranges = refl

-- the cycles of a lower level, filled into a list, are its row
pub row_is : (v : SegmentValue) (lo : ℕ) (out : List ℕ) → length out ≡ v.grid.classes - 1 - lo
    → ((k : ℕ) → k < length out → slice_index out k ≡ count_of v.tally.cells lo (lo + 1 + k)) → bins_of (lo + 1) out ≡ row_bins v lo
row_is v lo out e h = listed_same (count_of v.tally.cells lo) (lo + 1) out h ∙ ap (bins_from (count_of v.tally.cells lo) (lo + 1)) e

-- a number that was written before what stands behind it
module _ (n : ℕ) (number body old mid new : List ℕ) (at end : ℕ) (long : length number ≡ n) (p : Puts (at + n) body old mid end)
    (inside : end ≤ length mid)
    (same : length mid ≡ length old) (is : new ≡ take at mid ++ number ++ drop (at + n) mid) where
  ends_at : end ≡ at + n + length body
  ends_at = p.next_is

  front_long : length (take at mid ++ number) ≡ at + n
  front_long = omega (arith, length-append (take at mid) number, long, length-take-le at mid (omega (arith, ends_at, inside)))

  behind : take (length body) (drop (at + n) mid) ≡ body
  behind =
      sym (drop-take (at + n) (length body) mid)
      ∙ ap (λ k. drop (at + n) (take k mid)) (sym ends_at) ∙ ap (drop (at + n)) p.front
      ∙ drop_at (take (at + n) old) body (at + n) (length-take-le (at + n) old (omega (arith, ends_at, inside, same)))

  before : take at mid ≡ take at old
  before =
      sym (take-take at end mid (omega (arith, ends_at))) ∙ ap (take at) p.front
      ∙ take-append-le at (take (at + n) old) body (omega (arith, length-take-le (at + n) old (omega (arith, ends_at, inside, same))))
      ∙ take-take at (at + n) old (omega arith)

  pub number_before : Puts at (number ++ body) old new end
  number_before = record {
    next_is = omega (arith, p.next_is, length-append number body, long);
    front =
        ap (take end) is ∙ ap (λ k. take k (take at mid ++ number ++ drop (at + n) mid)) (omega (arith, ends_at, front_long))
        ∙ take-append-add (take at mid ++ number) (drop (at + n) mid) (length body)
        ∙ ap (λ l. (take at mid ++ number) ++ l) behind ∙ append_assoc (take at mid) number body ∙ ap (λ l. l ++ (number ++ body)) before;
  }

-- the length of a body, whatever its layout
pub body_parts : (l : Layout) (p : PartsValue) → body_length l p ≡ 68 + 2 * length p.residue + list0_length l p + 10 *
    (length p.crossings + (length p.peaks + length p.valleys) + length p.ranges)
body_parts One p = omega arith
body_parts Two p = omega arith
