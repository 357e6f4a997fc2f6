-- The rules as tests, in their order, and the first that is broken.
--   wrong_cell, wrong_bin   the place of the first entry that breaks the order
--   are_end_ranges_counted  the last sum rule
--   is_residue              the first residue rule
--   has_length, has_ends    the other two
--   first_wrong_entry, first_wrong_sum, first_wrong_end   the first broken rule of each kind
--   first_broken            of all
use Rattle.std.specs.Prelude.{◌+◌, ◌-◌, ◌*◌, ℕ, Bool, true, ◌&&◌, ◌||◌, ◌==◌, not, nat_lt, nat_le, if◌then◌else◌, List, [], ◌∷◌, length, slice_index, Option, Some, None}
use Rattle.std.specs.List.{list_all}
use Rattle.std.specs.Option.{option_or}
use Rattle.tally.specs.declared.cells.Cell.{Cell}
use Rattle.tally.specs.declared.cells.Bin.{Bin}
use Rattle.tally.specs.Counts.{is_from, total_of}
use Rattle.tally.specs.tables.Bins.{sum_of, count_at}
use Rattle.turning_points.specs.Points.{is_turn}
use Rattle.turning_points.specs.Pairs.{range}
use Rattle.turning_points.specs.EndPoints.{EndPoints}
use Rattle.simple_counts.specs.Loading.{first_range, last_range}
use Rattle.calibration.specs.Grid.{GridValue}
use Rattle.calibration.specs.declared.limits.TheConstants.{MAX_SAMPLES}
use Rattle.segment.specs.declared.segment_rules.rule.BrokenRule.{BrokenRule}
use Rattle.segment.specs.declared.segment_rules.rule.BrokenRule.TheVariants.{Order, Sum, Residue}
use Rattle.segment.specs.segment_rules.Parts.{PartsValue}

-- ---- order

-- a cell at or after the pair, over so many classes, that counts something
abbrev pub is_cell_from : ℕ → ℕ → ℕ → Cell → Bool
is_cell_from lo hi classes c = is_from lo hi c && (nat_lt c.lo c.hi && (nat_lt c.hi classes && nat_lt 0 c.n))

-- counted from `index` on
abbrev pub wrong_cell : ℕ → ℕ → ℕ → ℕ → List Cell → Option ℕ
wrong_cell lo hi classes index [] = None
wrong_cell lo hi classes index (c ∷ cs) = if is_cell_from lo hi classes c then wrong_cell c.lo (c.hi + 1) classes
    (index + 1) cs else Some index

abbrev pub is_bin_from : ℕ → ℕ → Bin → Bool
is_bin_from from to b = nat_le from b.key && (nat_lt b.key to && nat_lt 0 b.n)

abbrev pub wrong_bin : ℕ → ℕ → ℕ → List Bin → Option ℕ
wrong_bin from to index [] = None
wrong_bin from to index (b ∷ bs) = if is_bin_from from to b then wrong_bin (b.key + 1) to (index + 1) bs else Some index

-- ---- sums

abbrev pub are_end_ranges_counted : EndPoints → List Bin → Bool
are_end_ranges_counted e ranges =
    nat_lt e.points 2
    || (nat_le 1 (count_at (first_range e) ranges) && (nat_le 1 (count_at (last_range e) ranges)
    && (nat_lt e.points 3 || (not (first_range e == last_range e) || nat_le 2 (count_at (first_range e) ranges)))))

-- ---- residue

-- neighbours differ and each inner level is a turn: the list is its own list of points
abbrev pub is_own : List ℕ → Bool
is_own [] = true
is_own (x ∷ []) = true
is_own (x ∷ y ∷ []) = not (x == y)
is_own (x ∷ y ∷ z ∷ l) = is_turn x y z && is_own (y ∷ z ∷ l)

-- no deletion applies
abbrev pub has_no_cycle : List ℕ → Bool
has_no_cycle [] = true
has_no_cycle (a ∷ []) = true
has_no_cycle (a ∷ b ∷ []) = true
has_no_cycle (a ∷ b ∷ c ∷ []) = true
has_no_cycle (a ∷ b ∷ c ∷ d ∷ l) =
    (nat_lt (range a b) (range b c) || nat_lt (range c d) (range b c)) && has_no_cycle (b ∷ c ∷ d ∷ l)

abbrev pub is_residue : ℕ → List ℕ → Bool
is_residue classes r = list_all (λ x. nat_lt x classes) r && (is_own r && has_no_cycle r)

abbrev pub has_length : ℕ → ℕ → Bool
has_length points n = if nat_le points 3 then n == points else nat_le 2 n

abbrev pub are_levels : EndPoints → ℕ → ℕ → ℕ → ℕ → Bool
are_levels e first second before last =
    (e.first == first && e.second == second) && (e.before == before && e.last == last)

abbrev pub has_ends_beside : ℕ → EndPoints → ℕ → ℕ → ℕ → ℕ → Bool
has_ends_beside classes e first second before last =
    (e.first == first && e.last == last)
    && ((is_turn e.second first second && is_turn e.before last before)
    && ((nat_lt e.second classes && nat_lt e.before classes)
    && ((not (e.points == 2) || (e.second == second && e.before == before))
    && (not (e.points == 3) || (e.second == second && e.before == second)))))

abbrev pub has_ends : ℕ → EndPoints → List ℕ → Bool
has_ends classes e r =
    if e.points == 0 then are_levels e 0 0 0 0 else
    if e.points == 1 then are_levels e (slice_index r 0) 0 0 (slice_index r 0) else
    has_ends_beside classes e (slice_index r 0) (slice_index r 1) (slice_index r (length r - 2))
    (slice_index r (length r - 1))

-- ---- the first broken rule

abbrev pub order_broken : ℕ → Option ℕ → Option BrokenRule
order_broken list None = None
order_broken list (Some index) = Some (Order list index)

abbrev pub unless : {F : Type 0} → Bool → F → Option F
unless kept fault = if kept then None else Some fault

unfoldable pub first_wrong_entry : GridValue → PartsValue → Option BrokenRule
first_wrong_entry g p =
    option_or (order_broken 0 (wrong_cell 0 0 g.classes 0 p.cells))
    (option_or (order_broken 1 (wrong_bin 1 g.classes 0 p.crossings))
    (option_or (order_broken 2 (wrong_bin g.reference g.classes 0 p.peaks))
    (option_or (order_broken 3 (wrong_bin 0 g.reference 0 p.valleys))
    (order_broken 4 (wrong_bin 1 g.classes 0 p.ranges)))))

unfoldable pub first_wrong_sum : PartsValue → Option BrokenRule
first_wrong_sum p =
    option_or (unless (nat_le p.name.from p.name.to && nat_le p.name.to MAX_SAMPLES) (Sum 1))
    (option_or (unless ((p.name.from + (p.used + p.missing + p.refused)) == p.name.to) (Sum 2))
    (option_or (unless (nat_le p.ends.points p.used && (not (p.ends.points == 0) || (p.used == 0))) (Sum 3))
    (option_or (unless ((2 * total_of p.cells + length p.residue) == p.ends.points) (Sum 4))
    (option_or (unless (list_all (λ b. nat_lt b.n p.used) p.crossings) (Sum 5))
    (option_or (unless (nat_le (sum_of p.peaks + sum_of p.valleys) (p.ends.points - 2)) (Sum 6))
    (option_or (unless (sum_of p.ranges == (p.ends.points - 1)) (Sum 7))
    (unless (are_end_ranges_counted p.ends p.ranges) (Sum 8))))))))

unfoldable pub first_wrong_end : GridValue → PartsValue → Option BrokenRule
first_wrong_end g p =
    option_or (unless (is_residue g.classes p.residue) (Residue 1))
    (option_or (unless (has_length p.ends.points (length p.residue)) (Residue 2))
    (unless (has_ends g.classes p.ends p.residue) (Residue 3)))

unfoldable pub first_broken : GridValue → PartsValue → Option BrokenRule
first_broken g p = option_or (first_wrong_entry g p) (option_or (first_wrong_sum p) (first_wrong_end g p))
