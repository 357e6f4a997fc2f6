use Rattle.std.proofs.Common.{◌≡◌, ◌<◌, ◌≤◌, List, length, sym, ◌∙◌, ap, subst, arith, get_or}
use Rattle.std.specs.Prelude.{All}
use Rattle.std.proofs.lemmas.List.{get_or_default}
use Rattle.std.proofs.lemmas.List.Elements.{All-push}
use Rattle.segment.specs.Segment.{SegmentValue}
use Rattle.damage.specs.declared.exact_frac.frac.Frac.{Frac}
use Rattle.damage.specs.declared.miner.TheConstants.{MAX_HALF_CYCLES}
use Rattle.site_config.specs.declared.config.NamedDetail.{NamedDetail}
use Rattle.report_command.proofs.on_site_report.Summed.{damage_here, damages_more}
use Rattle.report_command.proofs.site_report.damages.sum_damages.Goals as goal

pub loop-detail-preserved : goal.loop-detail-preserved
loop-detail-preserved c =
    let was = c.loop-detail.invariant in
    let items = c.loop-detail.damages.items in
    let more = c.push_reserved.new.self.items in
    let config = c.args.config.now in
    let at = c.loop-detail.detail-index in
    let item = c.detail-item.result in
    let within : c.loop-detail.detail-index < length c.args.config.now.details =
    omega (arith, c.loop-detail-test.true, ap (λ (l : List NamedDetail). length l) c.as_slice-detail-items.ensures) in
    let is = c.detail-item.is ∙ ap (λ (l : List NamedDetail). get_or l c.loop-detail.detail-index c.detail-item.result)
    c.as_slice-detail-items.ensures in
    let on : c.detail-item.result.gauge < length c.args.segments.now =
    omega (
      arith,
      subst (λ (d : NamedDetail). d.gauge < length c.args.config.now.gauges) (sym is) (c.requires.config.on at item within),
      c.requires.gauges,
    ) in
    let gauge = c.from-gauge.ensures in
    let known : c.from-gauge.result < length c.args.segments.now = omega (arith, on, gauge) in
    let grid = ap (λ (x : SegmentValue). x.grid) c.index-segments-gauge.is
    ∙ c.requires.setup c.from-gauge.result c.index-segments-gauge.result known in
    let held = c.index-segments-gauge.is ∙ ap (λ n. get_or c.args.segments.now n c.index-segments-gauge.result) gauge in
    let long : c.loop-detail.detail-index ≡ length c.loop-detail.damages.items = omega (arith, was.many, c.loop-detail.damages.ok.0) in
    record {
      many = omega (arith, was.many, c.push_reserved.ensures.len);
      room = c.push_reserved.ensures.capacity ∙ was.room;
      few = subst (λ (l : List Frac). All (λ (damage : Frac). damage.whole ≤ MAX_HALF_CYCLES) l) (sym c.push_reserved.ensures.items)
          (All-push (λ (damage : Frac). damage.whole ≤ MAX_HALF_CYCLES) items c.damage_by.result was.few c.damage_by.ensures.few);
      each = λ figures agrees. damages_more config figures items more c.damage_by.result at c.push_reserved.ensures.items long
          (was.each figures agrees)
          (λ d. damage_here config c.args.segments.now figures item (get_or config.details at d) c.index-segments-gauge.result
          c.damage_by.result agrees
          (is ∙ get_or_default config.details at item d within) on held grid
          c.damage_by.ensures.rules
          c.damage_by.ensures.damage);
    }
