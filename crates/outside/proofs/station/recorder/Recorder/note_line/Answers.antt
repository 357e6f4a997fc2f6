use Rattle.std.proofs.Common.{◌≡◌, ◌++◌, ◌∷◌, [], ap, sym, ◌∙◌, refl, rules}
use Rattle.std.proofs.lemmas.List.{append-nil}
use Rattle.outside.proofs.on_station.Recorded.{disk_at, lines_at, placed_at, bytes_push, time_of}
use Rattle.outside.specs.station.Calls.{Disk, bytes_of, lines_of}
use Rattle.outside.specs.declared.station.call.Call.TheVariants.{Tell}
use Rattle.outside.proofs.station.recorder.Recorder.note_line.Goals as goal

pub invariant_of-self-then-push_call : goal.invariant_of-self-then-push_call
invariant_of-self-then-push_call c =
    let s = c.args.self.now in
    let call = Tell c.args.copy in
    let is = c.if-push_call.ensures in
    let longer : c.extend_from_slice.new.self.items ≡ s.told.items ++ c.args.line.now = search rules in
    record {
      content_is_seen = s.content_is_seen ∙ ap (λ (d : Disk). d.seen) (sym (disk_at s.image.items _ _ call is));
      no_gap = placed_at s.image.items _ _ call is s.no_gap refl;
      lines = longer ∙ ap (λ l. l ++ c.args.line.now) s.lines
          ∙ ap (λ l. bytes_of (lines_of s.calls.items) ++ l) (sym c.requires ∙ sym (append-nil c.args.copy.items))
          ∙ sym (bytes_push (lines_of s.calls.items) (c.args.copy.items ∷ [])) ∙ ap bytes_of (sym (lines_at s.image.items _ _ call is));
    }

pub returns-then-push_call-clause-disk : goal.returns-then-push_call-clause-disk
returns-then-push_call-clause-disk c = disk_at c.args.self.now.image.items _ _ (Tell c.args.copy) c.if-push_call.ensures

pub returns-then-push_call-clause-told : goal.returns-then-push_call-clause-told
returns-then-push_call-clause-told c told = lines_at c.args.self.now.image.items _ _ (Tell c.args.copy) c.if-push_call.ensures
    ∙ ap (λ l. lines_of c.args.self.now.calls.items ++ l ∷ []) c.requires

pub returns-then-push_call-clause-time : goal.returns-then-push_call-clause-time
returns-then-push_call-clause-time c = time_of _ c.args.self.now.image.items _ _ (Tell c.args.copy) c.push_call.ensures
