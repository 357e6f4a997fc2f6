use Rattle.std.proofs.Common.{◌≡◌, ◌≤◌, ℕ, true, ◌&&◌, nat_le, ap, sym, ◌∙◌, arith}
use Rattle.std.proofs.lemmas.List.{append-nil}
use Rattle.std.proofs.lemmas.Bool.Decides.{nat_tests}
use Rattle.outside.proofs.on_station.Recorded.{disk_at, lines_at, placed_at, follows_write, time_of}
use Rattle.outside.specs.station.Calls.{Disk, bytes_of, lines_of}
use Rattle.outside.specs.declared.station.call.Call.TheVariants.{Write}
use Rattle.outside.proofs.station.recorder.Recorder.note_write.Goals as goal

placed_here : (at n : ℕ) → at ≤ n → (nat_le at n && true) ≡ true
placed_here at n le = grind (arith, nat_tests)

pub invariant_of-self : goal.invariant_of-self
invariant_of-self c =
    let s = c.args.self.now in
    let call = Write c.args.at c.args.copy in
    let is = c.if-push_call.ensures in
    record {
      content_is_seen = c.requires.next ∙ ap (λ (d : Disk). d.seen) (sym (disk_at s.image.items _ _ call is));
      no_gap = placed_at s.image.items _ _ call is s.no_gap (placed_here _ _ c.requires.place);
      lines = s.lines ∙ ap bytes_of (sym (lines_at s.image.items _ _ call is ∙ append-nil (lines_of s.calls.items)));
    }

pub returns-then-push_call-clause-crash : goal.returns-then-push_call-clause-crash
returns-then-push_call-clause-crash c = follows_write _ c.args.self.now.image.items _ _ c.args.at c.args.copy c.push_call.ensures

pub returns-then-push_call-clause-told : goal.returns-then-push_call-clause-told
returns-then-push_call-clause-told c = lines_at c.args.self.now.image.items _ _ (Write c.args.at c.args.copy) c.if-push_call.ensures
    ∙ append-nil (lines_of c.args.self.now.calls.items)

pub returns-then-push_call-clause-time : goal.returns-then-push_call-clause-time
returns-then-push_call-clause-time c = time_of _ c.args.self.now.image.items _ _ (Write c.args.at c.args.copy) c.push_call.ensures
