-- A detail with the partial factor 1.00 is one exactly where its kind has the category.
use Rattle.std.proofs.Common.{◌≡◌, ℕ, Bool, true, false, refl}
use Rattle.std.specs.Prelude.{is_ok}
use Rattle.damage.specs.declared.sn_curve.detail.Kind.{Kind}
use Rattle.damage.specs.sn_curve.Detail.{detail_of, is_among, categories}

by_test : (kind : Kind) (category : ℕ) (b : Bool) → is_among category (categories kind) ≡ b → is_ok (detail_of kind category 100) ≡ b
by_test kind category true e = rw e refl
by_test kind category false e = rw e refl

pub is_ok-by_category : (kind : Kind) (category : ℕ) → is_ok (detail_of kind category 100) ≡ is_among category (categories kind)
is_ok-by_category kind category = by_test kind category _ refl
