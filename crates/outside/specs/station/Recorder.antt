-- What a recorder has recorded.
use Rattle.outside.specs.declared.station.recorder.Recorder.{Recorder}
use Rattle.outside.specs.station.Calls.{Past}

abbrev pub past_of : Recorder → Past
past_of r = record { image = r.image.items; calls = r.calls.items }
