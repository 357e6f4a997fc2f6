-- Lists of counts as bins, one by one, and one written behind the other.
use Rattle.std.proofs.Common.{◌≡◌, ℕ, suc, ◌+◌, ◌*◌, ◌<◌, ◌≤◌, Bool, true, false, List, [], ◌∷◌, ◌++◌, length, map, take, refl, sym, ap, ◌∙◌, append_assoc, length-append, arith}
use Rattle.std.specs.Prelude.{◌==◌, if◌then◌else◌, slice_index}
use Rattle.std.specs.List.{flat_map}
use Rattle.std.proofs.lemmas.List.{append-nil, length-map}
use Rattle.std.proofs.lemmas.Grind.{flat_map-append}
use Rattle.tally.specs.declared.cells.Bin.{Bin}
use Rattle.segment.specs.Parts.{bins_from}
use Rattle.store_bytes.specs.segment_bytes.Rows.{cell_in}
use Rattle.store_bytes.specs.segment_bytes.Grammar.{bin, cell, row}
use Rattle.store_bytes.specs.segment_bytes.Writing.{Puts, bins_of, row_of}
use Rattle.store_bytes.proofs.on_segment_bytes.Lengths.{bins_long, cells_long, row_long}

split_by : {A : Type 0} (b : Bool) (x : A) (xs : List A) → (if b then xs else x ∷ xs) ≡ (if b then [] else x ∷ []) ++ xs
split_by true x xs = refl
split_by false x xs = refl

-- the first count, and those behind it
bins_split : (k n : ℕ) (ns : List ℕ) → bins_of k (n ∷ ns) ≡ bins_of k (n ∷ []) ++ bins_of (k + 1) ns
bins_split k n ns = split_by (n == 0) (record { key = k; n = n }) (bins_of (k + 1) ns)

pub one_at_most : (k n : ℕ) → length (bins_of k (n ∷ [])) ≤ 1
one_at_most k n = by (n == 0) (record { key = k; n = n })
  where
    by : (b : Bool) (x : Bin) → length (if b then [] else x ∷ []) ≤ 1
    by true x = omega arith
    by false x = omega arith

-- there are no more than counts
pub bins_few : (k : ℕ) (ns : List ℕ) → length (bins_of k ns) ≤ length ns
bins_few k [] = omega arith
bins_few k (n ∷ ns) = omega (
  arith,
  ap length (bins_split k n ns),
  length-append (bins_of k (n ∷ [])) (bins_of (k + 1) ns),
  one_at_most k n,
  bins_few (k + 1) ns,
)

pub puts_then : {at next last : ℕ} {old mid new : List ℕ} (x y : List ℕ) → Puts at x old mid next → Puts next y mid new last
    → Puts at (x ++ y) old new last
puts_then {at} {next} {last} {old} {mid} {new} x y p q = record {
  next_is = omega (arith, p.next_is, q.next_is, length-append x y);
  front = q.front ∙ ap (λ (l : List ℕ). l ++ y) p.front ∙ append_assoc (take at old) x y;
}

-- some more of a list was written
pub put_steps : {A : Type 0} (w : A → List ℕ) (a b : List ℕ) (es xs ys : List A) (total : List ℕ) → b ≡ a ++ flat_map w es
    → ys ≡ es ++ xs → a ++ flat_map w ys ≡ total → b ++ flat_map w xs ≡ total
put_steps w a b es xs ys total is split so_far =
    ap (λ (l : List ℕ). l ++ flat_map w xs) is ∙ append_assoc a (flat_map w es) (flat_map w xs)
    ∙ ap (λ (l : List ℕ). a ++ l) (sym (flat_map-append w es xs))
    ∙ ap (λ l. a ++ flat_map w l) (sym split) ∙ so_far

pub put_done : {A : Type 0} (w : A → List ℕ) (a : List ℕ) (xs : List A) (total : List ℕ) → xs ≡ [] → a ++ flat_map w xs ≡ total → a ≡ total
put_done w a xs total none so_far = sym (append-nil a) ∙ ap (λ l. a ++ flat_map w l) (sym none) ∙ so_far

pub bins_bytes : (k : ℕ) (ns : List ℕ) → length (flat_map bin (bins_of k ns)) ≡ 10 * length (bins_of k ns)
bins_bytes k ns = bins_long (bins_of k ns)

pub pairs_bytes : (lo k : ℕ) (ns : List ℕ) → length (flat_map cell (map (cell_in lo) (bins_of k ns))) ≡ 12 * length (bins_of k ns)
pairs_bytes lo k ns = omega (arith, cells_long (map (cell_in lo) (bins_of k ns)), length-map (bins_of k ns) (cell_in lo))

-- counts that are told by a function of their keys
pub listed_same : (count : ℕ → ℕ) (key : ℕ) (ns : List ℕ) → ((k : ℕ) → k < length ns → slice_index ns k ≡ count (key + k))
    → bins_of key ns ≡ bins_from count key (length ns)
listed_same count key [] h = refl
listed_same count key (n ∷ ns) h =
    let here : n ≡ count key = h 0 (omega arith) ∙ ap count (omega arith) in
    ap (λ m. if m == 0 then bins_of (key + 1) ns else record { key = key; n = m } ∷ bins_of (key + 1) ns) here
    ∙ ap (λ (l : List Bin). if count key == 0 then l else record { key = key; n = count key } ∷ l)
    (listed_same count (key + 1) ns (λ k lt. h (suc k) (omega (arith, lt)) ∙ ap count (omega arith)))

pub row_bytes : (lo : ℕ) (bins : List Bin) → 0 < length bins → length (flat_map row (row_of lo bins)) ≡ 4 + 10 * length bins
row_bytes lo [] h = absurd (omega (arith, h))
row_bytes lo (b ∷ bins) h = omega (arith, row_long (record { lo = lo; bins = b ∷ bins }) [])
