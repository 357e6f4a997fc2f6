-- A station in memory keeps the laws of a station.
--   may_leave-seen    what a read gives is an image that a crash may leave
--   had_moment-now    the lines told and an image of now are a moment since each time up to now
--   had_moment-only   since now there is no other
use Rattle.std.specs.Prelude.{◌≡◌, ◌≤◌, ℕ, ◌+◌, true, List, [], ◌∷◌, ◌++◌, length, take, drop, refl}
use Rattle.std.proofs.Common.{sym, ◌∙◌, ap, subst, arith, append_assoc, length-append, length-drop}
use Rattle.std.proofs.lemmas.List.{take_all, take_at, drop_at, length-take}
use Rattle.std.proofs.lemmas.Bool.{and_parts, leb-true}
use Rattle.outside.specs.declared.station.call.Call.{Call}
use Rattle.outside.specs.declared.station.call.Call.TheVariants.{Other, Write, Sync, Tell}
use Rattle.outside.specs.station.Station.{Image, Lines, IsTornWrite}
use Rattle.outside.specs.station.Calls.{Disk, Past, fresh_disk, disk_after, disk_of, lines_of, have_no_gap, DiskMayLeave, disk, told_lines, MayLeave, HadMoment}

length-front : (at : ℕ) (old : List ℕ) → at ≤ length old → length (take at old) ≡ at
length-front at old le = omega (arith, length-take at old)

-- a write that was not cut short
whole_write : (at : ℕ) (bytes old : List ℕ) → at ≤ length old
    → IsTornWrite at (length bytes) old (take at old ++ bytes ++ drop (at + length bytes) old)
whole_write at bytes old le =
    let tail = drop (at + length bytes) old in
    let long = length-front at old le in
    let both : length (take at old ++ bytes) ≡ at + length bytes = omega
    (arith, long, length-append (take at old) bytes) in
    let all = length-append (take at old ++ bytes) tail in
    let rest = length-drop (at + length bytes) old in
    record {
      before = ap (λ l. take at l) (append_assoc (take at old) bytes tail) ∙ take_at (take at old)
          (bytes ++ tail) at long;
      after = drop_at (take at old ++ bytes) tail (at + length bytes) both;
      no_shorter = omega (arith, all, both, rest);
      no_longer = omega (arith, all, both, rest);
    }

seen_from : (calls : List Call) (d : Disk) → have_no_gap d calls ≡ true → DiskMayLeave d d.seen
    → DiskMayLeave (disk_of d calls) (disk_of d calls).seen
seen_from [] d placed is = is
seen_from (Other ∷ calls) d placed is = seen_from calls d placed is
seen_from (Write at bytes ∷ calls) d placed is =
    let whole = whole_write at bytes.items d.seen (leb-true _ _ (and_parts _ _ placed).0) in
    seen_from calls (disk_after d (Write at bytes)) (and_parts _ _ placed).1 (d.seen, is, whole)
seen_from (Sync ∷ calls) d placed is = seen_from calls (disk_after d Sync) placed refl
seen_from (Tell line ∷ calls) d placed is = seen_from calls d placed is

pub may_leave-seen : (past : Past) → have_no_gap (fresh_disk past.image) past.calls ≡ true →
    MayLeave past (disk past).seen
may_leave-seen past placed = seen_from past.calls (fresh_disk past.image) placed refl

pub had_moment-now : (past : Past) (t : ℕ) (c : Image) → t ≤ length past.calls → MayLeave past c →
    HadMoment past t (told_lines past) c
had_moment-now past t c le now =
    let all : take (length past.calls) past.calls ≡ past.calls = take_all _ _ (omega arith) in
    let image = subst (λ l. DiskMayLeave (disk_of (fresh_disk past.image) l) c) (sym all) now in
    (length past.calls, le, omega arith, sym (ap lines_of all), image)

pub had_moment-only : (past : Past) (lines : Lines) (c : Image) → HadMoment past (length past.calls) lines c →
    (lines ≡ told_lines past)
    × MayLeave past c
had_moment-only past lines c (k, from, to, told, is) =
    let all : take k past.calls ≡ past.calls = take_all _ _ (omega (arith, from)) in
    (told ∙ ap lines_of all, subst (λ l. DiskMayLeave (disk_of (fresh_disk past.image) l) c) all is)
