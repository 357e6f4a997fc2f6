-- The category of a detail stands in its list, and so is positive.
use Rattle.std.proofs.Common.{◌≡◌, ◌<◌, ◌≤◌, ℕ, Bool, true, false, refl, arith, if◌then◌else◌}
use Rattle.std.proofs.lemmas.Bool.Decides.{nat_tests}
use Rattle.std.specs.Prelude.{Result, Ok, Err}
use Rattle.damage.specs.declared.sn_curve.detail.Kind.{Kind}
use Rattle.damage.specs.declared.sn_curve.detail.Kind.TheVariants.{Normal, Shear}
use Rattle.damage.specs.declared.sn_curve.detail.DetailFault.{DetailFault}
use Rattle.damage.specs.declared.sn_curve.detail.DetailFault.TheVariants.{Category}
use Rattle.damage.specs.sn_curve.Detail.{DetailValue, IsDetail, is_among, categories}

-- an answer that is no refused category passed the first test
passes : (b : Bool) (rest : Result DetailValue DetailFault) (d : DetailValue) → (if b then rest else Err Category) ≡ Ok d → b ≡ true
passes true rest d is = refl
passes false rest d is = absurd (cc)

category_from : (kind : Kind) (x : ℕ) → is_among x (categories kind) ≡ true → 36 ≤ x
category_from Normal x is = grind (arith, nat_tests, is)
category_from Shear x is = grind (arith, nat_tests, is)

pub positive_category : (d : DetailValue) → IsDetail d → 0 < d.category
positive_category d is =
    let least : 36 ≤ d.category = category_from d.kind d.category (passes (is_among d.category (categories d.kind)) _ d is) in
    omega (arith, least)
