use Rattle.std.proofs.Common.{List, ℕ, take, ◌∙◌, ap}
use Rattle.outside.specs.station.Calls.{have_no_gap, fresh_disk}
use Rattle.outside.proofs.on_station.Crashing.{placed_front}
use Rattle.outside.specs.declared.station.call.Call.{Call}
use Rattle.outside.proofs.station.recorder.Recorder.crash.Goals as goal

pub crash_image-requires : goal.crash_image-requires
crash_image-requires c =
    let s = c.args.self.now in
    ap (λ (i : List ℕ). have_no_gap (fresh_disk i) (take c.args.calls c.deref-2.result.now)) c.deref.ensures.value
    ∙ ap (λ (l : List Call). have_no_gap (fresh_disk s.image.items) (take c.args.calls l)) c.deref-2.ensures.value
    ∙ placed_front s.calls.items c.args.calls (fresh_disk s.image.items) s.no_gap
