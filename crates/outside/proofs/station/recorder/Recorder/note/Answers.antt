use Rattle.std.proofs.Common.{ap, sym, ◌∙◌}
use Rattle.outside.proofs.on_station.Recorded.{disk_other, lines_other, placed_other, time_of}
use Rattle.outside.specs.station.Calls.{Disk, bytes_of}
use Rattle.outside.specs.declared.station.call.Call.TheVariants.{Other}
use Rattle.outside.proofs.station.recorder.Recorder.note.Goals as goal

pub invariant_of-self : goal.invariant_of-self
invariant_of-self c =
    let s = c.args.self.now in
    record {
      content_is_seen = s.content_is_seen ∙ ap (λ (d : Disk). d.seen) (sym (disk_other _ s.image.items _ _ c.push_call.ensures));
      no_gap = placed_other _ s.image.items _ _ c.push_call.ensures s.no_gap;
      lines = s.lines ∙ ap bytes_of (sym (lines_other _ _ _ c.push_call.ensures));
    }

pub returns-clause-disk : goal.returns-clause-disk
returns-clause-disk c = disk_other _ c.args.self.now.image.items _ _ c.push_call.ensures

pub returns-clause-told : goal.returns-clause-told
returns-clause-told c = lines_other _ _ _ c.push_call.ensures

pub returns-clause-time : goal.returns-clause-time
returns-clause-time c = time_of _ c.args.self.now.image.items _ _ Other c.push_call.ensures
