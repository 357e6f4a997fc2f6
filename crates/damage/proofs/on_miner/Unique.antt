-- The curve's equations leave one share, and so the half cycles have one damage.
use Rattle.std.proofs.Common.{◌≡◌, ℕ, ◌+◌, ◌*◌, ◌^◌, ◌<◌, ◌≤◌, ◌⊎◌, inl, inr, ◌∙◌, sym, ap, subst, drop, List, length, ext_get_or, arith}
use Rattle.std.proofs.lemmas.Bool.{cases_lt}
use Rattle.std.proofs.lemmas.Nat.{same_from_place}
use Rattle.calibration.specs.Grid.{GridValue}
use Rattle.damage.specs.declared.sn_curve.detail.Kind.{Kind}
use Rattle.damage.specs.declared.sn_curve.detail.Kind.TheVariants.{Normal, Shear}
use Rattle.damage.specs.sn_curve.Detail.{DetailValue}
use Rattle.damage.specs.sn_curve.Curve.{IsNormalShare, IsShearShare, IsShareOf, IsShare, factored_range, strength_of}
use Rattle.damage.proofs.on_sn_curve.Limits.{positive_category}
use Rattle.damage.specs.exact_frac.Frac.{parts}
use Rattle.damage.specs.miner.Damage.{AreShares, HasOneDamage, damage_sum}
use Rattle.lemmas.proofs.Naturals.{one_factor}

normal_at : (R C n m d : ℕ) → 0 < C → IsNormalShare R C n d → IsNormalShare R C m d →
    ((1000 * R < 737 * C) ⊎ (737 * C ≤ 1000 * R)) → ((1000 * 1000 * R < 549 * 737 * C) ⊎ (549 * 737 * C ≤ 1000 * 1000 * R)) → n ≡ m
normal_at R C n m d z s t (inr knee) b =
    one_factor n m (2 * (2 * 10 ^ 6)) C 3 (d * R ^ 3) z (omega arith) (s.from_knee knee) (t.from_knee knee)
normal_at R C n m d z s t (inl below) (inr cut) =
    one_factor n m (2 * (5 * 10 ^ 6)) (737 * C) 5 (d * (1000 * R) ^ 5) (omega arith) (omega arith) (s.below_knee below cut)
    (t.below_knee below cut)
normal_at R C n m d z s t (inl below) (inl none_left) = s.below_cut_off none_left ∙ sym (t.below_cut_off none_left)

shear_at : (R C n m d : ℕ) → 0 < C → IsShearShare R C n d → IsShearShare R C m d →
    ((1000 * R < 457 * C) ⊎ (457 * C ≤ 1000 * R)) → n ≡ m
shear_at R C n m d z s t (inr cut) =
    one_factor n m (2 * (2 * 10 ^ 6)) C 5 (d * R ^ 5) z (omega arith) (s.from_cut_off cut) (t.from_cut_off cut)
shear_at R C n m d z s t (inl none_left) = s.below_cut_off none_left ∙ sym (t.below_cut_off none_left)

share_of_kind : (kind : Kind) (R C n m d : ℕ) → 0 < C → IsShareOf kind R C n d → IsShareOf kind R C m d → n ≡ m
share_of_kind Normal R C n m d z s t =
    normal_at R C n m d z s t (cases_lt (1000 * R) (737 * C)) (cases_lt (1000 * 1000 * R) (549 * 737 * C))
share_of_kind Shear R C n m d z s t = shear_at R C n m d z s t (cases_lt (1000 * R) (457 * C))

-- a range has one share
pub one_share : (detail : DetailValue) (grid : GridValue) (k n m d : ℕ) → 0 < detail.category →
    IsShare detail grid k n d → IsShare detail grid k m d → n ≡ m
one_share detail grid k n m d z s t =
    share_of_kind detail.kind (factored_range detail grid k) (strength_of detail) n m d (omega arith) s t

-- so there is one list of shares
pub one_list : (detail : DetailValue) (grid : GridValue) (d classes : ℕ) (shares others : List ℕ) → 0 < detail.category →
    AreShares detail grid d classes shares → AreShares detail grid d classes others → shares ≡ others
one_list detail grid d classes shares others z s t =
    let many : length shares ≡ length others = s.one_each ∙ sym t.one_each in
    ext_get_or 0 shares others many (λ i inside. one_share detail grid (i + 1) _ _ d z (s.each i inside)
    (t.each i (omega (arith, many, inside))))

-- and one damage
pub one_damage : HasOneDamage
one_damage detail grid counts f g is_detail a b =
    let den : f.den ≡ g.den = a.den ∙ sym b.den in
    let there : AreShares detail grid g.den grid.classes a.shares = subst (λ d. AreShares detail grid d grid.classes a.shares) den
    a.are_shares in
    let same : a.shares ≡ b.shares = one_list detail grid g.den grid.classes a.shares b.shares (positive_category detail is_detail) there
    b.are_shares in
    let sum : parts f ≡ parts g = a.sum ∙ ap (damage_sum (drop 1 counts)) same ∙ sym b.sum in
    let whole : f.whole * g.den + f.num ≡ g.whole * g.den + g.num = ap (λ d. f.whole * d + f.num) (sym den) ∙ sum in
    let places = same_from_place f.whole f.num g.whole g.num g.den (omega (arith, f.below_one)) g.below_one whole in
    (places.0, places.1, den)
