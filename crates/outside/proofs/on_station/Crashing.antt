-- A call replayed on two buffers follows the disk.
use Rattle.std.proofs.Common.{◌≡◌, ℕ, zero, suc, ◌+◌, true, List, [], ◌∷◌, ◌++◌, length, take, drop, refl, sym, ◌∙◌, ap, subst}
use Rattle.std.proofs.lemmas.Bool.{and_parts, and_from}
use Rattle.outside.specs.declared.station.call.Call.{Call}
use Rattle.outside.specs.declared.station.call.Call.TheVariants.{Other, Write, Sync, Tell}
use Rattle.outside.specs.station.Station.{Image}
use Rattle.outside.specs.station.Calls.{Disk, disk_after, have_no_gap, DiskMayLeave}
use Rattle.outside.specs.station.Replay.{Replays}

pub placed_tail : (call : Call) (rest : List Call) (disk : Disk) → have_no_gap disk (call ∷ rest) ≡ true
    → have_no_gap (disk_after disk call) rest ≡ true
placed_tail Other rest disk placed = placed
placed_tail (Write at bytes) rest disk placed = (and_parts _ _ placed).1
placed_tail Sync rest disk placed = placed
placed_tail (Tell line) rest disk placed = placed

pub step : (call : Call) (disk : Disk) (content content2 left left2 : Image) → content ≡ disk.seen → DiskMayLeave disk left
    → Replays call content content2 left left2 → (content2 ≡ (disk_after disk call).seen) × DiskMayLeave (disk_after disk call) left2
step Other disk content content2 left left2 is image made = (made.0 ∙ is, subst (λ c. DiskMayLeave disk c) (sym made.1) image)
step (Write at bytes) disk content content2 left left2 is image made =
    (made.0 ∙ ap (λ s. take at s ++ bytes.items ++ drop (at + length bytes.items) s) is, (left, image, made.1))
step Sync disk content content2 left left2 is image made = (made.0 ∙ is, made.1 ∙ is)
step (Tell line) disk content content2 left left2 is image made = (made.0 ∙ is, subst (λ c. DiskMayLeave disk c) (sym made.1) image)

-- a front of calls left no gap
pub placed_front : (calls : List Call) (n : ℕ) (disk : Disk) → have_no_gap disk calls ≡ true → have_no_gap disk (take n calls) ≡ true
placed_front calls zero disk placed = refl
placed_front [] (suc n) disk placed = refl
placed_front (Other ∷ calls) (suc n) disk placed = placed_front calls n disk placed
placed_front (Write at bytes ∷ calls) (suc n) disk placed =
    let p = and_parts _ _ placed in and_from _ _ p.0 (placed_front calls n (disk_after disk (Write at bytes)) p.1)
placed_front (Sync ∷ calls) (suc n) disk placed = placed_front calls n (disk_after disk Sync) placed
placed_front (Tell line ∷ calls) (suc n) disk placed = placed_front calls n disk placed
