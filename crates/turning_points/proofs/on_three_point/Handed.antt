-- What was handed to a counter, and what is left to be counted.
--   Holding        the counter holds ranges which, with those that are left, are the whole
--   holding_more   it is handed the next of them
--   holding_done   none is left
use Rattle.std.proofs.Common.{◌≡◌, List, [], ◌∷◌, ◌++◌, sym, ap, ◌∙◌, subst, append_assoc, append-nil}
use Rattle.turning_points.specs.three_point.Run.{CountedRange}

pub record Holding (holds : List CountedRange → Type 0) (left whole : List CountedRange) : Type 0 where
  pub given : List CountedRange
  pub held : holds given
  pub is : given ++ left ≡ whole

module _ {holds after : List CountedRange → Type 0} {left less whole : List CountedRange} where
  pub holding_more : (r : CountedRange) → Holding holds left whole → ((l : List CountedRange) → holds l → after (l ++ r ∷ [])) →
      left ≡ r ∷ less → Holding after less whole
  holding_more r h f e = record {
    given = h.given ++ r ∷ [];
    held = f h.given h.held;
    is = append_assoc h.given (r ∷ []) less ∙ ap (λ l. h.given ++ l) (sym e) ∙ h.is;
  }

pub holding_done : (holds : List CountedRange → Type 0) {left whole : List CountedRange} → Holding holds left whole →
    left ≡ [] → holds whole
holding_done holds h e = subst holds (sym (append-nil h.given) ∙ ap (λ l. h.given ++ l) (sym e) ∙ h.is) h.held
