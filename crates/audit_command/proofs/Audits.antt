-- What comparing held segments with recounts finds.
--   audited          the first difference of a gauge
--   all_more_same    one gauge more without a difference
--   finds_by         the same of other segments that are meant
--   differ_clash     segments with the same sums and halves do not differ from samples at once in something and in nothing
use Rattle.std.proofs.Common.{◌≡◌, ◌<◌, ◌≤◌, ◌+◌, ℕ, ℤ, List, inl, inr, length, sym, ◌∙◌, subst, arith}
use Rattle.std.specs.Prelude.{slice_index_or, Option, Some, None}
use Rattle.std.proofs.lemmas.Bool.{cases_lt}
use Rattle.calibration.specs.Gain.{GainValue}
use Rattle.calibration.specs.Grid.{GridValue}
use Rattle.calibration.specs.History.{history}
use Rattle.turning_points.specs.three_point.Run.{three_point}
use Rattle.segment.specs.segment_rules.Parts.{PartsValue}
use Rattle.segment.specs.Counts.{kinds_of}
use Rattle.segment.specs.declared.counts.SampleCounts.{SampleCounts}
use Rattle.segment.specs.Segment.{SegmentValue, IsSegment}
use Rattle.recount.specs.Compared.{Compares, used_differ, missing_differ, refused_differ, cell_differs, all_same}
use Rattle.recount.specs.Counted.{IsRecount}
use Rattle.recount.specs.declared.compare.Difference.{Difference}
use Rattle.recount.specs.declared.count.Recount.{Recount}
use Rattle.segment_store.specs.Holds.{gain_at}
use Rattle.segment_store.specs.Keeps.{Keeps}
use Rattle.site_config.specs.declared.config.Config.{Config}
use Rattle.status.specs.declared.status.Status.{Status}
use Rattle.status.specs.declared.status.Status.TheVariants as status
use Rattle.audit_command.specs.Recounted.{IsRecountOf}
use Rattle.audit_command.specs.Audited.{SegmentChoice, IsItem, AuditsGauge, AllSame, FindsDifference}

pub audited : (c : Config) (held : List SegmentValue) (w : ℕ → List ℤ) (g : ℕ) (segment : SegmentValue) (found : Recount)
    (other : Option Difference)
    → segment ≡ slice_index_or held g segment → IsSegment segment → segment.grid ≡ c.setup.grid → IsRecountOf c g found (w g)
    → ((gain : GainValue) (u : List ℤ) → IsRecount segment.grid gain found u
    → Compares segment (kinds_of segment.grid gain u) (three_point (history segment.grid gain u)) other) →
    AuditsGauge c (IsItem held) w g other
audited c held w g segment found other is rules grid recount by = (
  segment,
  (is, rules),
  grid,
  subst (λ (x : GridValue). Compares segment (kinds_of x (gain_at c.setup g) (w g))
      (three_point (history x (gain_at c.setup g) (w g))) other)
      grid
      (by (gain_at c.setup g) (w g) (subst (λ (x : GridValue). IsRecount x (gain_at c.setup g) found (w g)) (sym grid) recount)),
)

pub all_more_same : (c : Config) (meant : SegmentChoice) (w : ℕ → List ℤ) (k : ℕ) → AllSame c meant w k → AuditsGauge c meant w k None
    → AllSame c meant w (k + 1)
all_more_same c meant w k below here g lt = elim (cases_lt g k) [
  | inl within ↦ below g within
  | inr past ↦ subst (λ (h : ℕ). AuditsGauge c meant w h None) (let e : k ≡ g = omega (arith, past, lt) in e) here
]

module _ (c : Config) (from to : SegmentChoice) (w : ℕ → List ℤ)
    (leads : (g : ℕ) (v : SegmentValue) → g < length c.gauges → from g v → to g v)
  where
    gauge_by : (g : ℕ) (other : Option Difference) → g < length c.gauges → AuditsGauge c from w g other → AuditsGauge c to w g other
    gauge_by g other lt a = (a.0, leads g a.0 lt a.1, a.2, a.3)

    pub same_by : (k : ℕ) → k ≤ length c.gauges → AllSame c from w k → AllSame c to w k
    same_by k few all g lt = gauge_by g None (omega (arith, lt, few)) (all g lt)

    pub finds_by : (s : Status) → FindsDifference c from w s → FindsDifference c to w s
    finds_by status.Done f = same_by (length c.gauges) (omega arith) f
    finds_by status.WriteFault f = same_by (length c.gauges) (omega arith) f
    finds_by (status.Differs g what held found) f = (
      f.0,
      same_by g (omega (arith, f.0)) f.1,
      gauge_by g (Some (record { what = what; held = held; found = found })) f.0 f.2,
    )
    finds_by status.Usage f = tt
    finds_by (status.Config x) f = tt
    finds_by (status.Store x) f = tt
    finds_by (status.Recording g x) f = tt
    finds_by (status.Torn g x) f = tt
    finds_by status.ReadFault f = tt
    finds_by status.DiskFault f = tt
    finds_by status.OutOfMemory f = tt
    finds_by (status.TooLong g) f = tt

pub differ_clash : (v u : SegmentValue) (bodies : List PartsValue) (grid : GridValue) (found : SampleCounts) (halves : ℕ → ℕ → ℕ)
    (d : Difference)
    → Keeps v bodies → Keeps u bodies → v.grid ≡ grid → u.grid ≡ grid → Compares v found halves (Some d) → Compares u found halves None → ⊥
differ_clash v u bodies grid found halves d kv ku gv gu (used_differ n) (all_same s a) = n (kv.used ∙ (sym ku.used ∙ s.0))
differ_clash v u bodies grid found halves d kv ku gv gu (missing_differ e n) (all_same s a) = n (kv.missing ∙ (sym ku.missing ∙ s.1))
differ_clash v u bodies grid found halves d kv ku gv gu (refused_differ e f n) (all_same s a) = n (kv.refused ∙ (sym ku.refused ∙ s.2))
differ_clash v u bodies grid found halves d kv ku gv gu (cell_differs lo hi e first) (all_same s a) =
    first.differ (kv.halves lo hi ∙ (sym (ku.halves lo hi) ∙ a lo hi first.ordered
    (subst (λ (x : GridValue). hi < x.classes) (gv ∙ sym gu) first.within)))
