-- A tally to which the cells of a list are added, one by one.
use Rattle.std.proofs.Common.{◌≡◌, ℕ, zero, suc, ◌+◌, ◌*◌, ◌/◌, ◌<◌, ◌≤◌, ◌⊎◌, inl, inr, List, [], ◌∷◌, length, drop, min, sym, ap, subst, ◌∙◌, arith}
use Rattle.std.specs.Prelude.{slice_index_or}
use Rattle.std.proofs.lemmas.List.{drop_more, drop_all}
use Rattle.std.proofs.lemmas.List.Sums.{sum_by-cons}
use Rattle.tally.specs.declared.cells.Cell.{Cell}
use Rattle.tally.specs.declared.cells.TheConstants.{MAX_TOTAL}
use Rattle.tally.specs.Counts.{Counts, IsCounts, IsAscending, HasPlace, count_of, most_cells, total_of}
use Rattle.tally.specs.Room.{room_for}
use Rattle.tally.proofs.Ascending.{cells_fit, put_first}
use Rattle.tally.proofs.Equal.{ascending_head, ascending_tail, one_value}
use Rattle.tally.proofs.Places.{places_is}
use Rattle.tally.proofs.RowTables.{one_of}
use Rattle.tally.proofs.Walk.{behind_differs}
use Rattle.lemmas.proofs.Naturals.{same_or_not}
use Rattle.segment.specs.segment_rules.Rules.{AreCells}

ascending_drop : (i : ℕ) (cs : List Cell) → IsAscending cs → IsAscending (drop i cs)
ascending_drop zero cs a = a
ascending_drop (suc i) [] a = a
ascending_drop (suc i) (c ∷ cs) a = ascending_drop i cs (ascending_tail c cs a)

-- one cell more before others
count_more : (c : Cell) (cs : List Cell) (a b : ℕ) → IsAscending (c ∷ cs) →
    count_of (c ∷ cs) a b ≡ count_of cs a b + one_of a b c.lo c.hi c.n
count_more c cs a b asc =
    put_first c.lo c.hi c.n a b cs (λ i d h. λ e. behind_differs (ascending_head c cs asc i d h) (sym e.0, sym e.1))
    (same_or_not c.lo c.hi a b)

-- the next cell of a list is added
pub tally_step : (i : ℕ) (cs : List Cell) (d : Cell) (old new : Counts) → IsAscending cs → i < length cs
    → ((a b : ℕ) → count_of new.cells a b ≡ count_of old.cells a b + one_of a b (slice_index_or cs i d).lo (slice_index_or cs i d).hi
    (slice_index_or cs i d).n)
    → ((a b : ℕ) → count_of old.cells a b + count_of (drop i cs) a b ≡ count_of cs a b) → (a b : ℕ) →
    count_of new.cells a b + count_of (drop (i + 1) cs) a b ≡ count_of cs a b
tally_step i cs d old new asc lt added so_far a b =
    let here : drop i cs ≡ slice_index_or cs i d ∷ drop (i + 1) cs = drop_more cs i d lt in
    let more = count_more (slice_index_or cs i d) (drop (i + 1) cs) a b (subst IsAscending here (ascending_drop i cs asc)) in
    omega (arith, added a b, so_far a b, ap (λ l. count_of l a b) here, more)

pub total_step : (i : ℕ) (cs : List Cell) (d : Cell) (old new : ℕ) → i < length cs → new ≡ old + (slice_index_or cs i d).n
    → old + total_of (drop i cs) ≡ total_of cs → new + total_of (drop (i + 1) cs) ≡ total_of cs
total_step i cs d old new lt added so_far =
    let here : drop i cs ≡ slice_index_or cs i d ∷ drop (i + 1) cs = drop_more cs i d lt in
    omega (arith, added, so_far, ap total_of here, sum_by-cons (λ c. c.n) (slice_index_or cs i d) (drop (i + 1) cs))

-- there is a place for each: of the greatest room for every pair, of a lesser one for half of the samples
pub place_left : (t : Counts) (longest i n lo hi m : ℕ) → t.room ≡ room_for t.classes longest → length t.cells ≤ i → i < n →
    2 * n ≤ longest → HasPlace t lo hi m
place_left t longest i n lo hi m room few lt half = by (least (most_cells t.classes) (longest / 2))
  where
    least : (a b : ℕ) → (min a b ≡ a) ⊎ (min a b ≡ b)
    least a b = grind arith

    by : ((room_for t.classes longest ≡ most_cells t.classes) ⊎ (room_for t.classes longest ≡ longest / 2)) → HasPlace t lo hi m
    by (inl e) = inr (inr (inr (room ∙ e)))
    by (inr e) = inr (inr (inl (omega (arith, room, e, few, lt, half))))

most_fit : (k n longest : ℕ) → n ≤ most_cells k → 2 * n ≤ longest → n ≤ room_for k longest
most_fit k n longest a b = least (most_cells k) (longest / 2) n a (omega arith)
  where
    least : (a b n : ℕ) → n ≤ a → n ≤ b → n ≤ min a b
    least a b n h g = grind arith

room_most : (k longest : ℕ) → room_for k longest ≤ most_cells k
room_most k longest = least (most_cells k) (longest / 2)
  where
    least : (a b : ℕ) → min a b ≤ a
    least a b = omega arith

-- a tally that counts what the cells count is the tally of these cells
pub tally_is : (k longest i : ℕ) (t : Counts) (cs : List Cell) → IsCounts t → t.classes ≡ k → t.room ≡ room_for k longest → AreCells k cs →
    total_of cs ≤ MAX_TOTAL → 2 * length cs ≤ longest
    → length cs ≤ i → ((a b : ℕ) → count_of t.cells a b + count_of (drop i cs) a b ≡ count_of cs a b)
    → t ≡ record { classes = k; room = room_for k longest; cells = cs }
tally_is k longest i t cs g e r a small half done h =
    let few = cells_fit k cs 0 a.ascending a.each (omega arith) (λ i d h. omega arith) in
    let fits : length cs ≤ most_cells k = omega (arith, few, places_is k (omega (arith, e, g.few))) in
    one_value t (record { classes = k; room = room_for k longest; cells = cs }) g
    (record {
      few = omega (arith, e, g.few);
      many = omega (arith, e, g.many);
      most = room_most k longest;
      held = most_fit k (length cs) longest fits half;
      each = a.each;
      ascending = a.ascending;
      total = small;
    }) e r (λ x y. omega (arith, h x y, ap (λ l. count_of l x y) (drop_all i cs done)))
