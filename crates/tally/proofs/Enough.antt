-- Why the room of a segment's tally is enough.
use Rattle.std.proofs.Common.{◌≡◌, ℕ, ◌+◌, ◌*◌, ◌/◌, ◌<◌, ◌≤◌, ◌⊎◌, inl, inr, List, [], ◌∷◌, length, min, ◌∙◌, sym, ap, arith}
use Rattle.std.specs.Prelude.{All}
use Rattle.std.proofs.lemmas.Bool.{cases_lt}
use Rattle.std.proofs.lemmas.List.Elements.{All-head, All-tail}
use Rattle.std.proofs.lemmas.List.Sums.{sum_by-cons}
use Rattle.tally.specs.declared.cells.Cell.{Cell}
use Rattle.tally.specs.Counts.{Counts, IsCounts, IsCell, HasGreatestRoom, most_cells, total_of}
use Rattle.tally.specs.Room.{room_for, FitsSamples, PushHasRoom, MergeHasRoom, JoinHasRoom}

-- each cell has at least one cycle
pub length-le-total_of : (k : ℕ) (cells : List Cell) → All (IsCell k) cells → length cells ≤ total_of cells
length-le-total_of k [] a = omega arith
length-le-total_of k (c ∷ cells) a =
    let h = (All-head (IsCell k) c cells a).positive in
    omega (arith, h, sum_by-cons (λ c. c.n) c cells, length-le-total_of k cells (All-tail (IsCell k) c cells a))

greatest_by : (most half room : ℕ) → room ≡ min most half → ((most < half) ⊎ (half ≤ most)) → (room ≡ most) ⊎ (room ≡ half)
greatest_by most half room e c = grind arith

-- the room is the greatest, or half of the samples
greatest_or_half : (t : Counts) (longest : ℕ) → t.room ≡ room_for t.classes longest → HasGreatestRoom t ⊎ (t.room ≡ longest / 2)
greatest_or_half t longest e = greatest_by (most_cells t.classes) (longest / 2) t.room e (cases_lt (most_cells t.classes) (longest / 2))

push_by : (t : Counts) (levels samples longest : ℕ) → IsCounts t → FitsSamples t levels samples → samples < longest →
    HasGreatestRoom t ⊎ (t.room ≡ longest / 2) → HasGreatestRoom t ⊎ (2 * length t.cells + levels ≤ 2 * t.room)
push_by t levels samples longest c g w (inl h) = inl h
push_by t levels samples longest c g w (inr h) = inr (omega (arith, h, g, length-le-total_of t.classes t.cells c.each))

pub push_has_room : PushHasRoom
push_has_room t levels samples longest c g e w = push_by t levels samples longest c g w (greatest_or_half t longest e)

merge_by : (t u : Counts) (left right m n longest : ℕ) → IsCounts t → IsCounts u → FitsSamples t left m → FitsSamples u right n →
    m + n ≤ longest →
    HasGreatestRoom t ⊎ (t.room ≡ longest / 2) → HasGreatestRoom t ⊎ (length t.cells + length u.cells ≤ t.room)
merge_by t u left right m n longest c d g h w (inl e) = inl e
merge_by t u left right m n longest c d g h w (inr e) =
    inr (omega (arith, e, g, h, length-le-total_of t.classes t.cells c.each, length-le-total_of u.classes u.cells d.each))

pub merge_has_room : MergeHasRoom
merge_has_room t u left right m n longest c d g h e w = merge_by t u left right m n longest c d g h w (greatest_or_half t longest e)

join_by : (t u s : Counts) (left right m n longest : ℕ) → FitsSamples t left m → FitsSamples u right n → m + n ≤ longest →
    IsCounts s → s.classes ≡ t.classes → s.room ≡ t.room → total_of s.cells ≡ total_of t.cells + total_of u.cells →
    HasGreatestRoom t ⊎ (t.room ≡ longest / 2) → HasGreatestRoom s ⊎ (2 * length s.cells + left + right ≤ 2 * s.room + 1)
join_by t u s left right m n longest g h w c k r f (inl e) = inl (r ∙ e ∙ sym (ap most_cells k))
join_by t u s left right m n longest g h w c k r f (inr e) = inr (omega (arith, e, r, f, g, h, length-le-total_of s.classes s.cells c.each))

pub join_has_room : JoinHasRoom
join_has_room t u s left right m n longest g h e w c k r f =
    join_by t u s left right m n longest g h w c k r f (greatest_or_half t longest e)
