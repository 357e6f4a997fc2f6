use Rattle.std.proofs.Common.{sym}
use Rattle.segment_store.proofs.Holding.{is_joined}
use Rattle.report_command.proofs.on_window_counts.Adding.{room, own_after}
use Rattle.report_command.proofs.window_counts.counting.join_next.Goals as goal

pub join-joined-requires-clause-longest : goal.join-joined-requires-clause-longest
join-joined-requires-clause-longest c same next =
    room c.args.joined.now c.args.seg.now c.name.ensures.rules c.name-2.ensures.rules c.requires.body.longest next

pub returns-clause-next : goal.returns-clause-next
returns-clause-next c next =
    let v = c.args.joined.now in
    let s = c.args.seg.now in
    let e = c.join-joined.ensures in
    let r = c.join-joined.result in
    let gauge = sym c.requires.body.gauge in
    record {
      next = next;
      start = is_joined v s r _ e.answer gauge (sym next) e.start;
      end = is_joined v s r _ e.answer gauge (sym next) e.end;
      readings = is_joined v s r _ e.answer gauge (sym next) e.readings;
      stands = is_joined v s r _ e.answer gauge (sym next) e.stands;
      kept = is_joined v s r _ e.answer gauge (sym next) e.kept;
    }

pub returns-clause-own : goal.returns-clause-own
returns-clause-own c =
    own_after c.args.joined.now c.join-joined.new.self c.join-joined.result c.join-joined.ensures.unchanged c.join-joined.ensures.start
    c.requires.body.longest
