use Rattle.std.proofs.Common.{◌≡◌, ◌≢◌, ◌⊎◌, inl, inr, ℕ, ◌+◌, ◌<◌, List, length, get_or, sym, ap, subst, ◌∙◌, arith}
use Rattle.std.proofs.lemmas.Bool.{cases_eq}
use Rattle.std.proofs.lemmas.List.{get_or_default}
use Rattle.segment.specs.segment_rules.Rules.{AreSegmentParts}
use Rattle.segment.specs.Segment.{SegmentValue, IsSegment}
use Rattle.segment.specs.Parts.{parts_of}
use Rattle.segment_store.proofs.compacting.know.Goals as goal

-- one more of a list
one_more : (P : SegmentValue → Type 0) (held : List SegmentValue) (g : ℕ) (v : SegmentValue) → g < length held → v ≡ get_or held g v
    → P v → ((i : ℕ) (d : SegmentValue) → i < g → P (get_or held i d)) → (i : ℕ) (d : SegmentValue) → i < g + 1 → P (get_or held i d)
one_more P held g v known is p all i d lt = by (cases_eq i g)
  where
    by : ((i ≡ g) ⊎ (i ≢ g)) → P (get_or held i d)
    by (inl e) = subst P (is ∙ get_or_default held g v d known ∙ ap (λ n. get_or held n d) (sym e)) p
    by (inr n) = all i d (omega (arith, lt, n))

pub loop-gauge-preserved : goal.loop-gauge-preserved
loop-gauge-preserved c =
    let i = c.loop-gauge.invariant in
    let held = c.args.held.now in
    let v = c.index-held-gauge.result in
    let known : c.loop-gauge.gauge < length c.args.held.now = omega arith in
    record {
      rules = one_more IsSegment held c.loop-gauge.gauge v known c.index-held-gauge.is c.grid-grid.ensures.rules i.rules;
      parts = one_more (λ (x : SegmentValue). AreSegmentParts x.grid (parts_of x)) held c.loop-gauge.gauge v known c.index-held-gauge.is
          c.grid-grid.ensures.parts i.parts;
    }
