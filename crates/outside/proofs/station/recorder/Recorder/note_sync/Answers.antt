use Rattle.std.proofs.Common.{ap, sym, ◌∙◌}
use Rattle.outside.proofs.on_station.Recorded.{seen_sync, lines_sync, placed_sync, only_sync, none_new_sync, time_of}
use Rattle.outside.specs.station.Calls.{bytes_of}
use Rattle.outside.specs.declared.station.call.Call.TheVariants.{Sync}
use Rattle.outside.proofs.station.recorder.Recorder.note_sync.Goals as goal

pub invariant_of-self : goal.invariant_of-self
invariant_of-self c =
    let s = c.args.self.now in
    record {
      content_is_seen = s.content_is_seen ∙ sym (seen_sync _ s.image.items _ _ c.push_call.ensures);
      no_gap = placed_sync _ s.image.items _ _ c.push_call.ensures s.no_gap;
      lines = s.lines ∙ ap bytes_of (sym (lines_sync _ _ _ c.push_call.ensures));
    }

pub returns-clause-seen : goal.returns-clause-seen
returns-clause-seen c = seen_sync _ c.args.self.now.image.items _ _ c.push_call.ensures

pub returns-clause-told : goal.returns-clause-told
returns-clause-told c = lines_sync _ _ _ c.push_call.ensures

pub returns-clause-durable : goal.returns-clause-durable
returns-clause-durable c = only_sync _ c.args.self.now.image.items _ _ c.push_call.ensures

pub returns-clause-crash : goal.returns-clause-crash
returns-clause-crash c = none_new_sync _ c.args.self.now.image.items _ _ c.args.self.now.no_gap c.push_call.ensures

pub returns-clause-time : goal.returns-clause-time
returns-clause-time c = time_of _ c.args.self.now.image.items _ _ Sync c.push_call.ensures
