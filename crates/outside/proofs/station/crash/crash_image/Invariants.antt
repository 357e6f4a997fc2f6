use Rattle.std.proofs.Common.{◌≡◌, true, drop}
use Rattle.outside.specs.station.Calls.{Disk, disk_of, fresh_disk, have_no_gap, DiskMayLeave}
use Rattle.outside.proofs.station.crash.crash_image.Given as goal

abbrev pub invariant-loop-call : goal.invariant-loop-call
invariant-loop-call l = (disk : Disk) × (l.content.items ≡ disk.seen) × DiskMayLeave disk l.left.items
    × (disk_of (fresh_disk l.image) l.calls ≡ disk_of disk (drop l.call-index l.calls))
    × (have_no_gap disk (drop l.call-index l.calls) ≡ true)
