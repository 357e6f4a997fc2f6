use Rattle.std.proofs.Common.{◌≡◌, ◌++◌, length, take}
use Rattle.std.specs.Prelude.{All}
use Rattle.calibration.specs.Gain.{IsGain}
use Rattle.recording.specs.Head.{IsRecorded}
use Rattle.store_bytes.specs.store_head.Head.{front, gauges, gauge_place}
use Rattle.store_bytes.proofs.store_head.writing.bytes_of.Given as goal

abbrev pub invariant-loop-gauge : goal.invariant-loop-gauge
invariant-loop-gauge l = record {
  bytes : l.bytes.items ≡ front l.fn.layout l.head.setup ++ gauges (take l.gauge l.head.heads) (take l.gauge l.head.setup.gains);
  recorded : All IsRecorded (take l.gauge l.head.heads);
  gains : All IsGain (take l.gauge l.head.setup.gains);
  len : length l.bytes.items ≡ gauge_place l.gauge;
}
