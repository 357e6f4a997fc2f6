-- Weld details: the kind of stress, the detail category and the partial factor.
use Rattle.std.specs.Prelude.{◌≡◌, ◌==◌, ℕ, Bool, List, [], ◌∷◌, Result, Ok, Err, if◌then◌else◌}
use Rattle.std.specs.List.{list_any}
use Rattle.damage.specs.declared.sn_curve.detail.Kind.{Kind}
use Rattle.damage.specs.declared.sn_curve.detail.Kind.TheVariants.{Normal, Shear}
use Rattle.damage.specs.declared.sn_curve.detail.DetailFault.{DetailFault}
use Rattle.damage.specs.declared.sn_curve.detail.DetailFault.TheVariants.{Category, Gamma}

-- the category in N/mm², the partial factor in hundredths
pub record DetailValue : Type 0 where
  pub kind : Kind
  pub category : ℕ
  pub gamma : ℕ

-- the detail categories that this project accepts, a choice of its own
abbrev pub categories : Kind → List ℕ
categories Normal = 160 ∷ 140 ∷ 125 ∷ 112 ∷ 100 ∷ 90 ∷ 80 ∷ 71 ∷ 63 ∷ 56 ∷ 50 ∷ 45 ∷ 40 ∷ 36 ∷ []
categories Shear = 100 ∷ 80 ∷ []

-- EN 1993-1-9:2005, table 3.1: 1.00, 1.15 and 1.35
abbrev pub partial_factors : List ℕ
partial_factors = 100 ∷ 115 ∷ 135 ∷ []

abbrev pub is_among : ℕ → List ℕ → Bool
is_among x xs = list_any (λ y. x == y) xs

-- the detail of three values, or the first of them that is not in its list
abbrev pub detail_of : Kind → ℕ → ℕ → Result DetailValue DetailFault
detail_of kind category gamma =
    if is_among category (categories kind)
    then (if is_among gamma partial_factors then Ok (record { kind = kind; category = category; gamma = gamma })
    else Err Gamma)
    else Err Category

-- its three values are a detail
abbrev pub IsDetail : DetailValue → Type 0
IsDetail d = detail_of d.kind d.category d.gamma ≡ Ok d
