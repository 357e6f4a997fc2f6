use Rattle.std.proofs.Common.{◌≡◌, ◌<◌, ◌++◌, [], ◌∷◌, ℕ, List, length, take, get_or, sym, ap, subst, ◌∙◌, arith, length-append}
use Rattle.std.specs.Prelude.{map}
use Rattle.std.proofs.lemmas.List.{map-append, take_more}
use Rattle.recording.specs.declared.head.Head.{Head}
use Rattle.calibration.specs.declared.limits.TheConstants.{MAX_SAMPLES}
use Rattle.segment.specs.Segment.{SegmentValue, empty_at}
use Rattle.report_command.proofs.on_window_counts.Adding.{empty_more}
use Rattle.report_command.proofs.window_counts.counting.Windows.new.Goals as goal

pub loop-gauge-preserved : goal.loop-gauge-preserved
loop-gauge-preserved c =
    let i = c.loop-gauge.invariant in
    let joined = c.loop-gauge.joined.items in
    let heads = c.args.heads.now in
    let g = c.loop-gauge.gauge in
    let h : Head = record { id = []; period_us = 0 } in
    let v = c.in_ok-segment.segment in
    let is = c.in_ok-segment.ensures.empty in
    let items = c.in-Ok-push.ensures.items in
    let known : c.loop-gauge.gauge < length c.args.heads.now = omega arith in
    record {
      periods = c.in-Ok.ensures.items ∙ ap (λ (l : List ℕ). l ++ (get_or heads g h).period_us ∷ []) i.periods
          ∙ sym (map-append (λ (x : Head). x.period_us) (take g heads) (get_or heads g h ∷ []))
          ∙ ap (map (λ (x : Head). x.period_us)) (sym (take_more heads g h known));
      count = omega (arith, i.count, ap length items, length-append joined (v ∷ []));
      empty = subst (λ l. (k : ℕ) (d : SegmentValue) → k < length l → get_or l k d ≡ empty_at c.args.grid.now k 0 MAX_SAMPLES) (sym items)
          (empty_more c.args.grid.now joined g v i.count is i.empty);
    }
