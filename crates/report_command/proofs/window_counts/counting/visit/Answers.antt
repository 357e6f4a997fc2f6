use Rattle.std.proofs.Common.{◌≡◌, get_or, set, sym, ap, subst, ◌∙◌, arith}
use Rattle.std.proofs.lemmas.Bool.{false≢true}
use Rattle.std.proofs.lemmas.List.{get_or_default, get_or-set_same}
use Rattle.segment.specs.Segment.{SegmentValue}
use Rattle.segment.specs.declared.segment_rules.name.Name.{Name}
use Rattle.report_command.specs.window_counts.Windows.{AddsTo, IsOwn}
use Rattle.report_command.proofs.on_window_counts.Adding.{own_set, left_out, put_in, lies_by, passed}
use Rattle.report_command.proofs.window_counts.counting.visit.Goals as goal

pub returns-then-gauge-joined-clause-added : goal.returns-then-gauge-joined-clause-added
returns-then-gauge-joined-clause-added c d over known =
    let gauge = ap (λ (n : Name). n.gauge) c.name-name.ensures.value in
    absurd (omega (arith, gauge, c.from-gauge.ensures, c.if-gauge-joined.true, known))

pub returns-then-not-is_over-clause-added : goal.returns-then-not-is_over-clause-added
returns-then-not-is_over-clause-added c d over known = absurd (false≢true (sym c.if-not-is_over.true ∙ c.is_over.ensures.1 over))

pub returns-else-inside-clause-added : goal.returns-else-inside-clause-added
returns-else-inside-clause-added c d over known =
    let s = c.args.seg.now in
    let gauge = c.from-gauge.ensures ∙ ap (λ (n : Name). n.gauge) c.name-name.ensures.value in
    left_out c.args.times.now (get_or c.args.periods.now s.gauge 0) (get_or c.args.joined.now s.gauge d) s
    (lies_by c.args.times.now c.args.periods.now c.from-gauge.result s c.name-name.result c.inside.result c.name-name.ensures.value gauge
    (passed c.args.times.now (get_or c.args.periods.now c.from-gauge.result 0) c.name-name.result c.inside.result c.requires.times
    c.inside.ensures) ∙ c.if-inside.false)

pub add-requires : goal.add-requires
add-requires c =
    let own = c.requires.own c.from-gauge.result c.index-joined-gauge.result c.if-gauge-joined.false in
    let gauge = c.from-gauge.ensures ∙ ap (λ (n : Name). n.gauge) c.name-name.ensures.value in
    record {
      body = record {
        grid = c.is_over.ensures.0 c.if-not-is_over.false ∙ sym own.grid_is;
        gauge = sym gauge ∙ sym own.gauge_is;
        longest = own.longest_is;
      };
    }

pub returns-then-inside-clause-own : goal.returns-then-inside-clause-own
returns-then-inside-clause-own c =
    let g = c.from-gauge.result in
    let joined = c.args.joined.now in
    let u : SegmentValue = get_or joined g c.index-joined-gauge.result in
    let own = c.requires.own g c.index-joined-gauge.result c.if-gauge-joined.false in
    let after : IsOwn c.args.grid.now g c.add.new.joined = subst (λ k. IsOwn k g c.add.new.joined) own.grid_is
    (subst (λ n. IsOwn u.grid n c.add.new.joined) own.gauge_is c.add.ensures.own) in
    own_set c.args.grid.now joined g u c.add.new.joined c.if-gauge-joined.false c.requires.own after

pub returns-then-inside-clause-added : goal.returns-then-inside-clause-added
returns-then-inside-clause-added c d over known =
    let s = c.args.seg.now in
    let t = c.args.times.now in
    let g = c.from-gauge.result in
    let joined = c.args.joined.now in
    let periods = c.args.periods.now in
    let v = c.index-joined-gauge.result in
    let u : SegmentValue = get_or joined g v in
    let w = c.add.new.joined in
    let lt = c.if-gauge-joined.false in
    let gauge = c.from-gauge.ensures ∙ ap (λ (n : Name). n.gauge) c.name-name.ensures.value in
    let inside = lies_by t periods g s c.name-name.result c.inside.result c.name-name.ensures.value gauge
    (passed t (get_or periods g 0) c.name-name.result c.inside.result c.requires.times c.inside.ensures) ∙ c.if-inside.true in
    let one = put_in t (get_or periods s.gauge 0) u s w inside c.add.ensures.first c.add.ensures.next in
    let before : u ≡ get_or joined s.gauge d = get_or_default joined g v d lt ∙ ap (λ n. get_or joined n d) gauge in
    let after : w ≡ get_or (set joined g w) s.gauge d = sym (get_or-set_same joined g w d lt)
    ∙ ap (λ n. get_or (set joined g w) n d) gauge in
    subst (λ x. AddsTo t (get_or periods s.gauge 0) x s (get_or (set joined g w) s.gauge d)) before
    (subst (λ x. AddsTo t (get_or periods s.gauge 0) u s x) after one)
