use Rattle.std.proofs.Common.{sym, ap, subst, ◌∙◌}
use Rattle.segment.specs.Segment.{SegmentValue, empty_at}
use Rattle.segment.specs.declared.segment_rules.name.Name.{Name}
use Rattle.segment_store.specs.Held.{JoinsPart}
use Rattle.report_command.specs.window_counts.Windows.{IsOwn}
use Rattle.report_command.proofs.window_counts.counting.begin.Goals as goal

pub join_next-requires : goal.join_next-requires
join_next-requires c =
    let gauge = ap (λ (n : Name). n.gauge) c.name-gauge.ensures.value in
    record {
      body = record {
        grid = c.requires.body.grid ∙ sym (ap (λ (x : SegmentValue). x.grid) c.clear.ensures);
        gauge = c.requires.body.gauge ∙ sym (ap (λ (x : SegmentValue). x.gauge) c.clear.ensures ∙ gauge);
        longest = ap (λ (x : SegmentValue). x.longest) c.clear.ensures ∙ c.requires.body.longest;
      };
    }

pub returns-clause-first : goal.returns-clause-first
returns-clause-first c =
    let v = c.args.joined.now in
    let s = c.args.seg.now in
    let gauge = ap (λ (n : Name). n.gauge) c.name-gauge.ensures.value in
    let from = ap (λ (n : Name). n.from) c.name.ensures.value in
    let is = c.clear.ensures ∙ ap (λ n. empty_at v.grid n c.name.result.from v.longest) gauge
    ∙ ap (λ n. empty_at v.grid v.gauge n v.longest) from in
    subst (λ (x : SegmentValue). JoinsPart x s c.join_next.new.joined) is
    (c.join_next.ensures.next (sym (ap (λ (x : SegmentValue). x.to) is)))

pub returns-clause-own : goal.returns-clause-own
returns-clause-own c =
    let v = c.args.joined.now in
    let gauge = ap (λ (n : Name). n.gauge) c.name-gauge.ensures.value in
    let from = ap (λ (n : Name). n.from) c.name.ensures.value in
    let is = c.clear.ensures ∙ ap (λ n. empty_at v.grid n c.name.result.from v.longest) gauge
    ∙ ap (λ n. empty_at v.grid v.gauge n v.longest) from in
    subst (λ (x : SegmentValue). IsOwn x.grid x.gauge c.join_next.new.joined) is c.join_next.ensures.own
