use Rattle.std.proofs.Common.{◌≡◌, max, map, drop}
use Rattle.csv_recording.specs.Sheet.{longest}
use Rattle.csv_recording.proofs.sheets.longest.Given as goal

abbrev pub invariant-loop-samples : goal.invariant-loop-samples
invariant-loop-samples l =
    max l.most (longest (map (λ s. s.items) (drop l.samples-index l.recordings))) ≡ longest (map (λ s. s.items) l.recordings)
