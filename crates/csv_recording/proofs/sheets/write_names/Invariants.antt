use Rattle.std.proofs.Common.{ℕ, List, [], map, take, string_bytes}
use Rattle.csv_recording.specs.Writers.{HasWrittenText}
use Rattle.csv_recording.proofs.sheets.write_names.Given as goal

abbrev pub invariant-loop-name : goal.invariant-loop-name
invariant-loop-name l =
    (text : List ℕ) → HasWrittenText text [] l.fn.writer → HasWrittenText text (map string_bytes (take l.name-index l.names)) l.writer
