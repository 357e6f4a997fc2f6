-- The view after a list of shows.
--   after-append     after one show more
--   rising-append    no end falls with one show more that does not fall
--   alike_after      what is like the first view is like that after the shows
--   ends_rise_from   after more shows no gauge's end is lower
--   after_alike      it has the same grid and as many rows
use Rattle.std.proofs.Common.{◌≡◌, ◌≤◌, ℕ, zero, suc, List, [], ◌∷◌, ◌++◌, refl, subst, ◌∙◌, sym, length-set, get_or, set, le_refl, le_trans}
use mathlib.Core.List.{IsPrefix}
use Rattle.live_view.specs.declared.show.Show.{Show}
use Rattle.live_view.specs.View.{RowValue, ViewValue, AreAlike, blank_row, end_at}
use Rattle.live_view.specs.Shows.{IsRising, after, replaced}

pub after-append : (v : ViewValue) (shows : List Show) (s : Show) → after v (shows ++ s ∷ []) ≡ replaced (after v shows) s
after-append v [] s = refl
after-append v (t ∷ shows) s = after-append (replaced v t) shows s

pub rising-append : (v : ViewValue) (shows : List Show) (s : Show) → IsRising v shows → end_at (after v shows) s.gauge ≤ s.row.to →
    IsRising v (shows ++ s ∷ [])
rising-append v [] s h up = (up, tt)
rising-append v (t ∷ shows) s h up = (h.0, rising-append (replaced v t) shows s h.1 up)

pub after_alike : (v : ViewValue) (shows : List Show) → AreAlike (after v shows) v
after_alike v [] = (refl, refl)
after_alike v (s ∷ shows) =
    let rest = after_alike (replaced v s) shows in (rest.0, rest.1 ∙ length-set v.rows s.gauge s.row)

pub alike_after : (c first d : ViewValue) (shows : List Show) → AreAlike c first → d ≡ after first shows → AreAlike c d
alike_after c first d shows alike is =
    let to = after_alike first shows in
    rw is (alike.0 ∙ sym to.0, alike.1 ∙ sym to.1)

-- an end does not fall where a row is replaced by one that ends no earlier
end_replaced : (rows : List RowValue) (k : ℕ) (r d : RowValue) (g : ℕ) → (get_or rows k d).to ≤ r.to →
    (get_or rows g d).to ≤ (get_or (set rows k r) g d).to
end_replaced [] k r d g h = le_refl _
end_replaced (x ∷ rows) zero r d zero h = h
end_replaced (x ∷ rows) zero r d (suc g) h = le_refl _
end_replaced (x ∷ rows) (suc k) r d zero h = le_refl _
end_replaced (x ∷ rows) (suc k) r d (suc g) h = end_replaced rows k r d g h

ends_rise : (v : ViewValue) (shows : List Show) → IsRising v shows → (g : ℕ) → end_at v g ≤ end_at (after v shows) g
ends_rise v [] h g = le_refl _
ends_rise v (s ∷ shows) h g =
    le_trans (end_replaced v.rows s.gauge s.row (blank_row 0) g h.0) (ends_rise (replaced v s) shows h.1 g)

ends_rise_on : (v : ViewValue) (shows more : List Show) → IsRising v (shows ++ more) → (g : ℕ) →
    end_at (after v shows) g ≤ end_at (after v (shows ++ more)) g
ends_rise_on v [] more h g = ends_rise v more h g
ends_rise_on v (s ∷ shows) more h g = ends_rise_on (replaced v s) shows more h.1 g

-- after more shows no gauge's end is lower
pub ends_rise_from : (v : ViewValue) (known shows : List Show) → IsPrefix known shows → IsRising v shows → (g : ℕ) →
    end_at (after v known) g ≤ end_at (after v shows) g
ends_rise_from v known shows begins h g =
    let P : List Show → Type 0 = λ l. end_at (after v known) g ≤ end_at (after v l) g in
    subst P begins.1 (ends_rise_on v known begins.0 (subst (IsRising v) (sym begins.1) h) g)
