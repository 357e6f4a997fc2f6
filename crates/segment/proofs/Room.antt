-- The room of a segment's tally is enough for each call.
--   fits         twice the cycles and the levels of the residue are at most the samples
--   push_room    for one level more
--   merge_room   for the cycles of the part that comes next
--   join_room    and then for joining the two residues
use Rattle.std.proofs.Common.{◌≡◌, ◌+◌, ◌*◌, ◌-◌, ◌<◌, ◌≤◌, ◌⊎◌, length, sym, ap, ◌∙◌, arith}
use Rattle.tally.specs.Counts.{Counts, IsCounts, HasGreatestRoom, total_of}
use Rattle.tally.specs.Room.{FitsSamples, room_for}
use Rattle.tally.proofs.Enough.{push_has_room, merge_has_room, join_has_room}
use Rattle.segment.specs.Segment.{SegmentValue, IsSegment}

pub fits : (v : SegmentValue) → IsSegment v → FitsSamples v.tally (length v.reducer.residue) (v.to - v.from)
fits v i = omega (arith, i.balance, i.used, i.readings)

room_is : (v : SegmentValue) → IsSegment v → v.tally.room ≡ room_for v.tally.classes v.longest
room_is v i = i.over.room ∙ ap (λ k. room_for k v.longest) (sym i.over.tally)

pub push_room : (v : SegmentValue) → IsSegment v → IsCounts v.tally → v.to - v.from < v.longest →
    HasGreatestRoom v.tally ⊎ (2 * length v.tally.cells + length v.reducer.residue ≤ 2 * v.tally.room)
push_room v i t less = push_has_room v.tally (length v.reducer.residue) (v.to - v.from) v.longest t (fits v i) (room_is v i) less

module _ (v w : SegmentValue) (i : IsSegment v) (j : IsSegment w) (t : IsCounts v.tally) (u : IsCounts w.tally)
    (long : (v.to - v.from) + (w.to - w.from) ≤ v.longest) where
  pub merge_room : HasGreatestRoom v.tally ⊎ (length v.tally.cells + length w.tally.cells ≤ v.tally.room)
  merge_room = merge_has_room v.tally w.tally (length v.reducer.residue) (length w.reducer.residue) (v.to - v.from) (w.to - w.from)
      v.longest t u (fits v i) (fits w j) (room_is v i) long

  pub join_room : (m : Counts) → IsCounts m → m.classes ≡ v.tally.classes → m.room ≡ v.tally.room →
      total_of m.cells ≡ total_of v.tally.cells + total_of w.tally.cells →
      HasGreatestRoom m ⊎ (2 * length m.cells + length v.reducer.residue + length w.reducer.residue ≤ 2 * m.room + 1)
  join_room m is classes room total = join_has_room v.tally w.tally m (length v.reducer.residue) (length w.reducer.residue) (v.to - v.from)
      (w.to - w.from) v.longest (fits v i) (fits w j) (room_is v i) long is classes room total
