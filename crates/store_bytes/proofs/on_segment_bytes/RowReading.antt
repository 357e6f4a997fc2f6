-- Rows that are read straight into cells are the rows that are read, and so are the parts.
use Rattle.std.proofs.Common.{◌≡◌, ℕ, ◌+◌, ◌-◌, ◌<◌, ◌≤◌, Bool, true, false, if◌then◌else◌, ◌==◌, nat_le, nat_lt, ◌&&◌, List, [], ◌∷◌, ◌++◌, map, drop, take, length, Result, Ok, Err, refl, sym, ap, subst, ◌∙◌, append_assoc, length-append, arith}
use Rattle.std.specs.Prelude.{Option, Some, None}
use Rattle.std.specs.Int.{w16}
use Rattle.std.proofs.lemmas.List.{append-nil, length-drop, length-map, take_all}
use Rattle.tally.specs.declared.cells.Cell.{Cell}
use Rattle.tally.specs.declared.cells.Bin.{Bin}
use Rattle.calibration.specs.Grid.{GridValue}
use Rattle.segment.specs.segment_rules.Tests.{order_broken, wrong_bin}
use Rattle.store_bytes.specs.declared.segment_bytes.fault.BytesFault.{BytesFault}
use Rattle.store_bytes.specs.declared.segment_bytes.fault.BytesFault.TheVariants.{Trailing}
use Rattle.store_bytes.specs.declared.segment_bytes.layout.Layout.TheVariants.{Two}
use Rattle.store_bytes.specs.segment_bytes.Fields.{◌>>=◌, FailsWith, Reader, number_at, both, seen_as, entry_list, list_at}
use Rattle.std.specs.Option.{option_or}
use Rattle.store_bytes.specs.segment_bytes.Rows.{RowValue, cell_in, row_cells, cells_of_rows, bin_of, wrong_row}
use Rattle.store_bytes.specs.segment_bytes.Grammar.{Back, Body, bin_at, row_at, name_and_counts_at, ends_at, back_at, body_at, parts_of_body, flat_body}
use Rattle.store_bytes.specs.segment_bytes.Decoding.{all_of, or_fault, parts_in}
use Rattle.store_bytes.specs.segment_bytes.RowReading.{FoundRows, no_rows, wrong_in, with_row, with_rows, cells_alone, parts_of_rows}
use Rattle.store_bytes.proofs.on_segment_bytes.Formats.{bind_ok, ok_is}
use Rattle.store_bytes.proofs.on_segment_bytes.Loops.{seen, fails_seen, seen_fails, seen_on, seen_done}

-- ---- the cells of a row

pub one_cell : (cells : List Cell) (lo : ℕ) (b : Bin) (bins : List Bin)
    → cells ++ map (cell_in lo) (b ∷ bins) ≡ (cells ++ cell_in lo b ∷ []) ++ map (cell_in lo) bins
one_cell cells lo b bins = sym (append_assoc cells (cell_in lo b ∷ []) (map (cell_in lo) bins))

pub cells_done : (cells : List Cell) (lo have count i : ℕ) (bytes : List ℕ) (total : Result (List Cell × List ℕ) BytesFault) → count ≤ i
    → seen (λ bins. cells ++ map (cell_in lo) bins) (entry_list bin_at (count - i) have bytes) ≡ total → total ≡ Ok (cells, bytes)
cells_done cells lo have count i bytes total le so_far =
    seen_done bin_at have (λ bins. cells ++ map (cell_in lo) bins) count i bytes total le so_far
    ∙ ap (λ (l : List Cell). Ok (l, bytes)) (append-nil cells)

bins_alone : (lo : ℕ) (bins : List Bin) → map bin_of (map (cell_in lo) bins) ≡ bins
bins_alone lo [] = refl
bins_alone lo (b ∷ bins) = ap (λ (l : List Bin). b ∷ l) (bins_alone lo bins)

bins_again : (lo : ℕ) (cells : List Cell) (bins : List Bin) → map bin_of (drop (length cells) (cells ++ map (cell_in lo) bins)) ≡ bins
bins_again lo [] bins = bins_alone lo bins
bins_again lo (c ∷ cells) bins = bins_again lo cells bins

-- ---- one row

module _ {B : Type 0} (f : RowValue → B) (have lo count : ℕ) (bytes first rest : List ℕ)
    (lo_is : number_at w16 have bytes ≡ Ok (lo, first)) (count_is : number_at w16 have first ≡ Ok (count, rest)) where
  abbrev whole : List Bin → RowValue
  whole bins = record { lo = lo; bins = bins }

  as_row : (read : Result (List Bin × List ℕ) BytesFault)
      → seen f (seen (λ (x : ℕ × List Bin). record { lo = x.0; bins = x.1 }) (read >>= λ y. Ok ((lo, y.0), y.1)))
      ≡ seen (λ bins. f (whole bins)) read
  as_row (Ok x) = refl
  as_row (Err d) = refl

  pub row_read : seen_as f row_at have bytes ≡ seen (λ bins. f (record { lo = lo; bins = bins })) (entry_list bin_at count have rest)
  row_read =
      ap (λ (r : Result (ℕ × List ℕ) BytesFault). seen f (seen (λ (x : ℕ × List Bin). record { lo = x.0; bins = x.1 })
      (r >>= λ x. (list_at w16 bin_at have x.1 >>= λ y. Ok ((x.0, y.0), y.1))))) lo_is
      ∙ ap (λ (r : Result (ℕ × List ℕ) BytesFault). seen f (seen (λ (x : ℕ × List Bin). record { lo = x.0; bins = x.1 })
      ((r >>= λ n. entry_list bin_at n.0 have n.1) >>= λ y. Ok ((lo, y.0), y.1)))) count_is
      ∙ as_row (entry_list bin_at count have rest)

pub row_fails : (e : BytesFault) (k : ℕ) (found : FoundRows) (have lo count : ℕ) (bytes first rest : List ℕ)
    → number_at w16 have bytes ≡ Ok (lo, first) → number_at w16 have first ≡ Ok (count, rest)
    → FailsWith e (seen (λ bins. found.cells ++ map (cell_in lo) bins) (entry_list bin_at count have rest))
    → FailsWith e (seen_as (with_row k found) row_at have bytes)
row_fails e k found have lo count bytes first rest a b h =
    let t = fails_seen e (λ bins. found.cells ++ map (cell_in lo) bins) (entry_list bin_at count have rest) h in
    subst (λ (r : Result (FoundRows × List ℕ) BytesFault). FailsWith e r)
    (sym (row_read (with_row k found) have lo count bytes first rest a b))
    (seen_fails e (λ bins. with_row k found (record { lo = lo; bins = bins })) (entry_list bin_at count have rest) t)

-- a list from a place on
pub list_from : (n : ℕ) (cells : List Cell) → take (length cells - n) (drop n cells) ≡ drop n cells
list_from n cells = take_all (length cells - n) (drop n cells) (omega (arith, length-drop n cells))

-- what a row makes of the rows before it, by the cells that are then there
abbrev pub row_made : ℕ → FoundRows → ℕ → List Cell → FoundRows
row_made k found lo cells = record {
  cells = cells;
  from = lo + 1;
  wrong = option_or found.wrong (wrong_in found.from k (length found.cells)
      (record { lo = lo; bins = map bin_of (drop (length found.cells) cells) }));
}

pub row_is : (k : ℕ) (found : FoundRows) (have lo count : ℕ) (bytes first rest after : List ℕ) (cells : List Cell)
    → number_at w16 have bytes ≡ Ok (lo, first) → number_at w16 have first ≡ Ok (count, rest)
    → seen (λ bins. found.cells ++ map (cell_in lo) bins) (entry_list bin_at count have rest) ≡ Ok (cells, after)
    → seen_as (with_row k found) row_at have bytes ≡ Ok (row_made k found lo cells, after)
row_is k found have lo count bytes first rest after cells a b h =
    let t = bind_ok (entry_list bin_at count have rest) (λ x. Ok (found.cells ++ map (cell_in lo) x.0, x.1)) (cells, after) h in
    let p = ok_is (found.cells ++ map (cell_in lo) t.0.0, t.0.1) (cells, after) t.2 in
    row_read (with_row k found) have lo count bytes first rest a b
    ∙ ap (seen (λ bins. with_row k found (record { lo = lo; bins = bins }))) t.1
    ∙ ap (λ (bins : List Bin). made (record {
      cells = found.cells ++ map (cell_in lo) t.0.0;
      from = lo + 1;
      wrong = option_or found.wrong (wrong_in found.from k (length found.cells) (record { lo = lo; bins = bins }));
    }) t.0.1) (sym (bins_again lo found.cells t.0.0))
    ∙ ap (λ (q : List Cell × List ℕ). made (row_made k found lo q.0) q.1) p
  where
    made : FoundRows → List ℕ → Result (FoundRows × List ℕ) BytesFault
    made r l = Ok (r, l)

-- ---- all rows

chosen : (o : Option ℕ) (b : Bool) (w n : Option ℕ) (i : ℕ) → option_or o (if b then option_or w n else Some i)
    ≡ option_or (option_or o (if b then w else Some i)) n
chosen (Some place) b w n i = refl
chosen None true w n i = refl
chosen None false w n i = refl

row_more : (k : ℕ) (found : FoundRows) (r : RowValue) (rs : List RowValue)
    → with_rows k found (r ∷ rs) ≡ with_rows k (with_row k found r) rs
row_more k found r rs =
    let long : length (found.cells ++ row_cells r) ≡ length found.cells + length r.bins = length-append found.cells (row_cells r)
    ∙ ap (λ n. length found.cells + n) (length-map r.bins (cell_in r.lo)) in
    let test = nat_le found.from r.lo && nat_lt 0 (length r.bins) in
    let one = wrong_bin (r.lo + 1) k (length found.cells) r.bins in
    ap (λ (l : List Cell). (l, option_or found.wrong (wrong_row found.from k (length found.cells) (r ∷ rs))))
    (sym (append_assoc found.cells (row_cells r) (cells_of_rows rs)))
    ∙ ap (λ (o : Option ℕ). ((found.cells ++ row_cells r) ++ cells_of_rows rs, o))
    (chosen found.wrong test one (wrong_row (r.lo + 1) k (length found.cells + length r.bins) rs) (length found.cells)
    ∙ ap (λ n. option_or (option_or found.wrong (if test then one else Some (length found.cells))) (wrong_row (r.lo + 1) k n rs))
    (sym long))

pub rows_on : (k : ℕ) (found next : FoundRows) (have count i : ℕ) (bytes after : List ℕ)
    (total : Result ((List Cell × Option ℕ) × List ℕ) BytesFault) → i < count
    → seen_as (with_row k found) row_at have bytes ≡ Ok (next, after)
    → seen (with_rows k found) (entry_list row_at (count - i) have bytes) ≡ total
    → seen (with_rows k next) (entry_list row_at (count - (i + 1)) have after) ≡ total
rows_on k found next have count i bytes after total lt h so_far =
    let t = bind_ok (row_at have bytes) (λ x. Ok (with_row k found x.0, x.1)) (next, after) h in
    let p = ok_is (with_row k found t.0.0, t.0.1) (next, after) t.2 in
    subst (λ (q : FoundRows × List ℕ). seen (with_rows k q.0) (entry_list row_at (count - (i + 1)) have q.1) ≡ total) p
    (seen_on row_at have (with_rows k found) (with_rows k (with_row k found t.0.0)) count i bytes t.0.0 t.0.1 total lt
    (λ rs. row_more k found t.0.0 rs) t.1 so_far)

no_next : (o : Option ℕ) → option_or o None ≡ o
no_next None = refl
no_next (Some place) = refl

pub rows_done : (k : ℕ) (found : FoundRows) (have count i : ℕ) (bytes : List ℕ)
    (total : Result ((List Cell × Option ℕ) × List ℕ) BytesFault) → count ≤ i
    → seen (with_rows k found) (entry_list row_at (count - i) have bytes) ≡ total → total ≡ Ok ((found.cells, found.wrong), bytes)
rows_done k found have count i bytes total le so_far =
    seen_done row_at have (with_rows k found) count i bytes total le so_far
    ∙ ap (λ (l : List Cell). Ok ((l, option_or found.wrong None), bytes)) (append-nil found.cells)
    ∙ ap (λ (o : Option ℕ). Ok ((found.cells, o), bytes)) (no_next found.wrong)

-- ---- a body whose list 0 is seen as something else

seen_first : {A B C : Type 0} (f : A → C) (one : Reader A) (two : Reader B) (have : ℕ) (bytes : List ℕ)
    → both (seen_as f one) two have bytes ≡ seen {B = C × B} (λ x. (f x.0, x.1)) (both one two have bytes)
seen_first {A} {B} {C} f one two have bytes = by (one have bytes)
  where
    onward : (x : A × List ℕ) (s : Result (B × List ℕ) BytesFault) → (s >>= λ y. Ok ((f x.0, y.0), y.1))
        ≡ seen {B = C × B} (λ (x : A × B). (f x.0, x.1)) (s >>= λ y. Ok ((x.0, y.0), y.1))
    onward x (Ok y) = refl
    onward x (Err d) = refl

    by : (r : Result (A × List ℕ) BytesFault) → (seen f r >>= λ x. two have x.1 >>= λ y. Ok ((x.0, y.0), y.1))
        ≡ seen {B = C × B} (λ (x : A × B). (f x.0, x.1)) (r >>= λ x. two have x.1 >>= λ y. Ok ((x.0, y.0), y.1))
    by (Ok x) = onward x (two have x.1)
    by (Err d) = refl

seen_second : {A B C : Type 0} (g : B → C) (one : Reader A) (two : Reader B) (other : Reader C) (have : ℕ) (bytes : List ℕ)
    → ((l : List ℕ) → other have l ≡ seen g (two have l))
    → both one other have bytes ≡ seen {B = A × C} (λ x. (x.0, g x.1)) (both one two have bytes)
seen_second {A} {B} {C} g one two other have bytes same = by (one have bytes)
  where
    onward : (x : A × List ℕ) (s : Result (B × List ℕ) BytesFault) → (seen g s >>= λ y. Ok ((x.0, y.0), y.1))
        ≡ seen {B = A × C} (λ (x : A × B). (x.0, g x.1)) (s >>= λ y. Ok ((x.0, y.0), y.1))
    onward x (Ok y) = refl
    onward x (Err d) = refl

    by : (r : Result (A × List ℕ) BytesFault) → (r >>= λ x. other have x.1 >>= λ y. Ok ((x.0, y.0), y.1))
        ≡ seen {B = A × C} (λ (x : A × B). (x.0, g x.1)) (r >>= λ x. two have x.1 >>= λ y. Ok ((x.0, y.0), y.1))
    by (Ok x) = ap (λ (s : Result (C × List ℕ) BytesFault). s >>= λ y. Ok ((x.0, y.0), y.1)) (same x.1) ∙ onward x (two have x.1)
    by (Err d) = refl

abbrev four_at : Reader (List Bin × (List Bin × (List Bin × List Bin)))
four_at = both (list_at w16 bin_at) (both (list_at w16 bin_at) (both (list_at w16 bin_at) (list_at w16 bin_at)))

module _ {L M : Type 0} (f : L → M) (list0 : Reader L) where
  abbrev back_as : Back L → Back M
  back_as x = (x.0, (f x.1.0, x.1.1))

  abbrev pub body_as : Body L → Body M
  body_as x = (x.0, (x.1.0, (f x.1.1.0, x.1.1.1)))

  back_seen : (have : ℕ) (bytes : List ℕ) → back_at (seen_as f list0) have bytes ≡ seen back_as (back_at list0 have bytes)
  unfolding back_at
  back_seen have bytes =
      seen_second (λ x. (f x.0, x.1)) (list_at w16 (number_at w16)) (both list0 four_at) (both (seen_as f list0) four_at) have bytes
      (λ l. seen_first f list0 four_at have l)

  body_seen : (have : ℕ) (bytes : List ℕ) → body_at (seen_as f list0) have bytes ≡ seen body_as (body_at list0 have bytes)
  unfolding body_at
  body_seen have bytes =
      seen_second back_as (both name_and_counts_at ends_at) (back_at list0) (back_at (seen_as f list0)) have bytes (λ l. back_seen have l)

  pub all_seen : (bytes : List ℕ) → all_of (seen_as f list0) bytes ≡ (all_of list0 bytes >>= λ x. Ok (body_as x))
  unfolding all_of
  all_seen bytes =
      ap (λ (r : Result (Body M × List ℕ) BytesFault). r >>= λ x. if length x.1 == 0 then Ok x.0 else Err (Trailing (length x.1)))
      (body_seen (length bytes) bytes)
      ∙ by (body_at list0 (length bytes) bytes)
    where
      ended : (b : Bool) (d : BytesFault) (x : Body L) → (if b then Ok (body_as x) else Err d)
          ≡ ((if b then Ok x else Err d) >>= λ x. Ok (body_as x))
      ended true d x = refl
      ended false d x = refl

      by : (r : Result (Body L × List ℕ) BytesFault)
          → (seen body_as r >>= λ x. if length x.1 == 0 then Ok x.0 else Err (Trailing (length x.1)))
          ≡ ((r >>= λ x. if length x.1 == 0 then Ok x.0 else Err (Trailing (length x.1))) >>= λ x. Ok (body_as x))
      by (Ok x) = ended (length x.1 == 0) (Trailing (length x.1)) x.0
      by (Err d) = refl

pub parts_again : (g : GridValue) (bytes : List ℕ) → parts_of_rows g bytes ≡ parts_in Two g bytes
unfolding parts_in parts_of_rows
parts_again g bytes =
    ap (λ (r : Result (Body (List Cell × Option ℕ)) BytesFault). r >>=
    λ x. or_fault (order_broken 0 x.1.1.0.1) (parts_of_body (cells_alone x)))
    (all_seen (with_rows g.classes no_rows) (list_at w16 row_at) bytes)
    ∙ by (all_of (list_at w16 row_at) bytes)
  where
    by : (r : Result (Body (List RowValue)) BytesFault)
        → ((r >>= λ x. Ok (body_as (with_rows g.classes no_rows) (list_at w16 row_at) x)) >>= λ x. or_fault (order_broken 0 x.1.1.0.1)
        (parts_of_body (cells_alone x))) ≡ (r >>= λ x. or_fault (order_broken 0 (wrong_row 0 g.classes 0 x.1.1.0))
        (parts_of_body (flat_body x)))
    by (Ok x) = refl
    by (Err d) = refl
