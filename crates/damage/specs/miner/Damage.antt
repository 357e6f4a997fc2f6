-- The linear damage sum, EN 1993-1-9:2005, Annex A: D is the sum of n_i / N_i over the ranges.
--   AreShares     the damage of one half cycle of each range
--   damage_sum    each range's half cycles times its share, added up
--   IsDamage      a fraction is the damage of the half cycles
--   HasOneDamage  and no other fraction is
use Rattle.std.specs.Prelude.{◌≡◌, ◌<◌, ℕ, ◌+◌, ◌-◌, ◌*◌, List, length, drop, slice_index, sum_by}
use Rattle.std.specs.List.{zip}
use Rattle.calibration.specs.Grid.{GridValue}
use Rattle.damage.specs.sn_curve.Detail.{DetailValue, IsDetail}
use Rattle.damage.specs.sn_curve.Curve.{IsShare, denominator_of}
use Rattle.damage.specs.declared.exact_frac.frac.Frac.{Frac}
use Rattle.damage.specs.exact_frac.Frac.{parts}

-- the shares of the ranges 1, 2 and so on below `classes`, in parts of 1 / d
pub record AreShares (detail : DetailValue) (grid : GridValue) (d classes : ℕ) (shares : List ℕ) : Type 0 where
  pub one_each : length shares ≡ classes - 1
  pub each : (i : ℕ) → i < length shares → IsShare detail grid (i + 1) (slice_index shares i) d

-- n_i times 1 / N_i, over all ranges i
abbrev pub damage_sum : List ℕ → List ℕ → ℕ
damage_sum half_counts shares = sum_by (λ range. range.0 * range.1) (zip half_counts shares)

-- The damage of the half cycles by range: all but those of range 0, in parts of the detail's denominator.
pub record IsDamage (detail : DetailValue) (grid : GridValue) (half_counts : List ℕ) (damage : Frac) : Type 0 where
  pub den : damage.den ≡ denominator_of detail
  pub shares : List ℕ
  pub are_shares : AreShares detail grid damage.den grid.classes shares
  pub sum : parts damage ≡ damage_sum (drop 1 half_counts) shares

-- two fractions that are the damage of the same half cycles are one
abbrev pub HasOneDamage : Type 0
HasOneDamage = (detail : DetailValue) (grid : GridValue) (half_counts : List ℕ) (f g : Frac) → IsDetail detail →
    IsDamage detail grid half_counts f → IsDamage detail grid half_counts g →
    (f.whole ≡ g.whole) × (f.num ≡ g.num) × (f.den ≡ g.den)
