-- Fatigue strength curves, EN 1993-1-9:2005, 7.1. N is the endurance in cycles at a factored range R, C the
-- detail category. The share n / d of one half cycle is 1 / (2 N), so n * (2 N) is d. R and C stand in fortieths
-- of N/mm².
use Rattle.std.specs.Prelude.{◌≡◌, ℕ, ◌*◌, ◌/◌, ◌^◌, ◌<◌, ◌≤◌}
use Rattle.calibration.specs.Grid.{GridValue}
use Rattle.damage.specs.declared.sn_curve.detail.Kind.{Kind}
use Rattle.damage.specs.declared.sn_curve.detail.Kind.TheVariants.{Normal, Shear}
use Rattle.damage.specs.sn_curve.Detail.{DetailValue}

-- Normal stress, figure 7.1. The constant amplitude fatigue limit is 0.737 C, the cut-off limit 0.549 of that.
-- The second slope is used below the first limit in every spectrum, and a range at a limit lies above it: both
-- are this project's choice.
pub record IsNormalShare (R C n d : ℕ) : Type 0 where
  -- slope 3: R^3 N = C^3 * 2 * 10^6
  pub from_knee : 737 * C ≤ 1000 * R → n * (2 * (2 * 10 ^ 6)) * C ^ 3 ≡ d * R ^ 3
  -- slope 5: R^5 N = (0.737 C)^5 * 5 * 10^6
  pub below_knee : 1000 * R < 737 * C → 549 * 737 * C ≤ 1000 * 1000 * R →
      n * (2 * (5 * 10 ^ 6)) * (737 * C) ^ 5 ≡ d * (1000 * R) ^ 5
  pub below_cut_off : 1000 * 1000 * R < 549 * 737 * C → n ≡ 0

-- Shear stress, figure 7.2. The cut-off limit is 0.457 C.
pub record IsShearShare (R C n d : ℕ) : Type 0 where
  -- slope 5: R^5 N = C^5 * 2 * 10^6
  pub from_cut_off : 457 * C ≤ 1000 * R → n * (2 * (2 * 10 ^ 6)) * C ^ 5 ≡ d * R ^ 5
  pub below_cut_off : 1000 * R < 457 * C → n ≡ 0

-- range k has k * w2 / 2 N/mm², and the partial factor gamma / 100 raises it
abbrev pub factored_range : DetailValue → GridValue → ℕ → ℕ
factored_range detail grid k = grid.w2 * (detail.gamma / 5) * k

abbrev pub strength_of : DetailValue → ℕ
strength_of detail = 40 * detail.category

abbrev pub IsShareOf : Kind → ℕ → ℕ → ℕ → ℕ → Type 0
IsShareOf Normal R C n d = IsNormalShare R C n d
IsShareOf Shear R C n d = IsShearShare R C n d

-- n / d is the damage of one half cycle of range k
abbrev pub IsShare : DetailValue → GridValue → ℕ → ℕ → ℕ → Type 0
IsShare detail grid k n d = IsShareOf detail.kind (factored_range detail grid k) (strength_of detail) n d

-- the one denominator of all shares of a detail
abbrev pub denominator_by : Kind → ℕ → ℕ
denominator_by Normal C = 2500 * (737 * C) ^ 5
denominator_by Shear C = 2 * (2 * 10 ^ 6) * C ^ 5

abbrev pub denominator_of : DetailValue → ℕ
denominator_of detail = denominator_by detail.kind (strength_of detail)
