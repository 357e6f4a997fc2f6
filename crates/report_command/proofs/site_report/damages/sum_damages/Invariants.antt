use Rattle.std.proofs.Common.{◌≡◌, ◌<◌, ◌≤◌, ℕ, length, vec_len, vec_capacity}
use Rattle.std.specs.Prelude.{All, slice_index_or}
use Rattle.damage.specs.declared.exact_frac.frac.Frac.{Frac}
use Rattle.damage.specs.declared.miner.TheConstants.{MAX_HALF_CYCLES}
use Rattle.report.specs.Figures.{Figures}
use Rattle.site_config.specs.declared.config.NamedDetail.{NamedDetail}
use Rattle.report_command.specs.site_report.Damages.{IsDamageOf}
use Rattle.report_command.specs.site_report.Report.{Agrees}
use Rattle.report_command.proofs.site_report.damages.sum_damages.Given as goal

-- the details so far have their damages
abbrev pub invariant-loop-detail : goal.invariant-loop-detail
invariant-loop-detail l = record {
  many : vec_len l.damages ≡ l.detail-index;
  room : vec_capacity l.damages ≡ vec_capacity l.fn.damages;
  few : All (λ (damage : Frac). damage.whole ≤ MAX_HALF_CYCLES) l.damages.items;
  each : (figures : ℕ → Figures) → Agrees l.fn.config l.fn.segments figures → (i : ℕ) (d : NamedDetail) (f : Frac) →
      i < length l.damages.items
      → IsDamageOf l.fn.config.setup.grid (slice_index_or l.fn.config.details i d).detail
      (figures (slice_index_or l.fn.config.details i d).gauge).half_units (slice_index_or l.damages.items i f);
}
