-- What was found of each gauge.
--   recounts_more   of one gauge more
--   are_of, are_over   what this says of the samples of recordings, and of the classes
use Rattle.std.proofs.Common.{◌≡◌, ◌<◌, ℕ, ℤ, List, [], ◌∷◌, ◌++◌, length, take, ap, ◌∙◌, subst}
use Rattle.std.specs.Prelude.{pos, slice_index_or, Result, Ok, Err, IfOk}
use Rattle.std.proofs.lemmas.List.{get_or_default}
use Rattle.calibration.specs.Gain.{GainValue}
use Rattle.recount.specs.Counted.{IsRecount}
use Rattle.recount.specs.declared.count.Recount.{Recount}
use Rattle.outside.specs.Site.{Files}
use Rattle.site_config.specs.recorded.Recorded.{recordings}
use Rattle.segment_store.specs.Holds.{gain_at}
use Rattle.site_config.specs.declared.config.Config.{Config}
use Rattle.status.specs.declared.status.Status.{Status}
use Rattle.audit_command.specs.Recounted.{AreOf, AreOver, AreRecounts, IsOfFirst, IsRecountOf}
use Rattle.lemmas.proofs.Lists.{each_more}

pub recounts_more : (c : Config) (tells : Type 0) (w : ℕ → List ℤ) (held : ℕ → ℕ) (xs ys : List Recount) (x : Recount) (k : ℕ)
    → ys ≡ xs ++ x ∷ [] → k ≡ length xs → AreRecounts c tells w held xs → IsOfFirst c tells w held k x → AreRecounts c tells w held ys
recounts_more c tells w held xs ys x k is long was here = each_more (IsOfFirst c tells w held) xs ys x k is long was here

pub are_of : (c : Config) (tells : Type 0) (w : ℕ → List ℤ) (held : ℕ → ℕ) (recounts : List Recount) → AreRecounts c tells w held recounts
    → tells → AreOf c recounts (λ g. take (held g) (w g))
are_of c tells w held recounts all shows g d lt =
    let found = all g d lt in subst (λ (u : List ℤ). IsRecountOf c g (slice_index_or recounts g d) u) (found.1.1 shows) found.1.0

pub are_over : (c : Config) (tells : Type 0) (w : ℕ → List ℤ) (held : ℕ → ℕ) (recounts : List Recount) → AreRecounts c tells w held recounts
    → AreOver c recounts
are_over c tells w held recounts all g d lt = (all g d lt).1.0.classes

-- a recount under the gain of the gauge, of the first samples of a file
pub recounted_first : (c : Config) (tells shows : Type 0) (w : ℕ → List ℤ) (held : ℕ → ℕ) (g : ℕ) (gain : GainValue)
    (whole : List ℤ) (k : ℕ)
    (r : Result Recount Status) → gain ≡ gain_at c.setup g → k ≡ held g → (tells → shows) → (tells → whole ≡ w g)
    → IfOk r (λ found. (u : List ℤ) × (IsRecount c.setup.grid gain found u × (shows → u ≡ take k whole)))
    → IfOk r (IsOfFirst c tells w held g)
recounted_first c tells shows w held g gain whole k (Err s) same many leads of_site is = tt
recounted_first c tells shows w held g gain whole k (Ok found) same many leads of_site is = (
  is.0,
  (
    subst (λ (x : GainValue). IsRecount c.setup.grid x found is.0) same is.1.0,
    λ t. is.1.1 (leads t) ∙ (ap (λ (n : ℕ). take n whole) many ∙ ap (λ (l : List ℤ). take (held g) l) (of_site t)),
  ),
)

-- the gain of the gauge
pub gain_is : (c : Config) (g : ℕ) (gains : List GainValue) (gain : GainValue) → g < length c.setup.gains → gains ≡ c.setup.gains
    → gain ≡ slice_index_or gains g gain → gain ≡ gain_at c.setup g
gain_is c g gains gain lt same is = is ∙ (ap (λ (l : List GainValue). slice_index_or l g gain) same
    ∙ get_or_default c.setup.gains g gain (record { num = pos 1; den = 1; offset = pos 0 }) lt)

-- the same at another moment of the site
pub first_again : (c : Config) (tells : Type 0) (files files2 : Files) (held : ℕ → ℕ) (g : ℕ) (found : Recount) → (tells → files ≡ files2)
    → IsOfFirst c tells (recordings c files).samples held g found → IsOfFirst c tells (recordings c files2).samples held g found
first_again c tells files files2 held g found same is =
    (is.0, (is.1.0, λ shows. is.1.1 shows ∙ ap (λ (f : Files). take (held g) ((recordings c f).samples g)) (same shows)))
