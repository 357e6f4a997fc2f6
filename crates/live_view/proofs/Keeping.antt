-- Each step keeps the rule of the two ends.
--   admits     a new end knows nothing
--   turns      a step that keeps the display sound and of one live view
--   begins, looks, stays   the same for each step that is made
--   seen_of, first_seen   what an end sees is of its live view
--   forks      an end tells the other what it knows
--   merges     an end takes that in
use Rattle.std.proofs.Common.{◌≡◌, ◌≢◌, ◌≤◌, ℕ, Option, Some, None, List, [], ◌∷◌, ◌++◌, refl, sym, ap, ◌∙◌, subst, ⊎_elim, set, fold}
use mathlib.Core.Option.{some}
use lib.ListN.{get_elem?}
use Rattle.crossbeam_utils.specs.Register.{Admits, TurnsAt, Forks, Merges}
use Rattle.atomic_table.proofs.Lists.{at_set, at_snoc}
use Rattle.live_view.specs.declared.display.Display.{Display}
use Rattle.live_view.specs.declared.display.Addition.{Addition}
use Rattle.live_view.specs.View.{ViewValue, end_at}
use Rattle.live_view.specs.Shows.{IsRising, after, replaced}
use Rattle.live_view.specs.Rule.{AreNone, IsSound, IsSameLive, IsKnownOf, IsKept, IsNext, IsOf, Sees, Shown, added, shown, with_addition}
use Rattle.logbook.specs.Pages.{Book}
use Rattle.live_view.proofs.After.{after-append, rising-append}

knows_nothing : (e : Display) → IsKnownOf None e
knows_nothing e d is = absurd cc

same_trans : (c d e : Display) → IsSameLive c d → IsSameLive d e → IsSameLive c e
same_trans c d e p q = (q.0 ∙ p.0, q.1 ∙ p.1)

known_on : (v : Option Display) (d e : Display) → IsKnownOf v d → IsSameLive d e → IsKnownOf v e
known_on v d e known same c is = same_trans c d e (known c is) same

-- the display becomes e, and the end comes to know w
kept_set : (d e : Display) (known : List (Option Display)) (seat : ℕ) (w : Option Display) → IsKept d known → IsSound e →
    IsSameLive d e → IsKnownOf w e → IsKept e (set known seat w)
kept_set d e known seat w kept sound same knows = record {
  sound = sound;
  each = λ j v at.
      ⊎_elim (λ (t : (j ≡ seat) × (w ≡ v)). subst (λ (u : Option Display). IsKnownOf u e) t.1 knows)
      (λ (t : (j ≢ seat) × (get_elem? known j ≡ some v)). known_on v d e (kept.each j v t.1) same) (at_set known seat j w v at);
}

kept_more : (d : Display) (known : List (Option Display)) (w : Option Display) → IsKept d known → IsKnownOf w d →
    IsKept d (known ++ w ∷ [])
kept_more d known w kept knows = record {
  sound = kept.sound;
  each = λ j v at.
      ⊎_elim (λ (h : get_elem? known j ≡ some v). kept.each j v h)
      (λ (e : w ≡ v). subst (λ (u : Option Display). IsKnownOf u d) e knows) (at_snoc known w v j at);
}

same_self : (d : Display) → IsSameLive d d
same_self d = (refl, refl)

pub admits : Admits IsKept None
admits d known kept = kept_more d known None kept (knows_nothing d)

-- the end knows v before, and w after
pub turns : (seat : ℕ) (v w : Option Display) (d e : Display) (then : Option Display → Display → Display → Option Display → Type 0) →
    (IsSound d → IsSound e) → IsSameLive d e → (IsKnownOf v d → IsKnownOf w e) →
    (IsSound d → IsKnownOf v d → then v d e w) → TurnsAt IsKept seat v d e then
turns seat v w d e then sound same knows tells known kept at =
    let before = kept.each seat v at in
    (w, kept_set d e known seat w kept (sound kept.sound) same (knows before), tells kept.sound before)

pub forks : (seat : ℕ) (v : Option Display) → Forks IsKept seat v v v
forks seat v d known kept at =
    let knows = kept.each seat v at in
    kept_more d (set known seat v) v (kept_set d d known seat v kept kept.sound (same_self d) knows) knows

pub merges : (seat other : ℕ) (v w : Option Display) → Merges IsKept seat v other w w None
merges seat other v w d known kept at apart there =
    let knows : IsKnownOf w d =
    ⊎_elim (λ (t : (other ≡ seat) × (w ≡ w)). absurd (apart t.0))
    (λ (t : (other ≢ seat) × (get_elem? known other ≡ some w)). kept.each other w t.1) (at_set known seat other w w there) in
    let taken = kept_set d d known seat w kept kept.sound (same_self d) knows in
    kept_set d d (set known seat w) other None taken kept.sound (same_self d) (knows_nothing d)

sound_on : (d e : Display) → shown e ≡ shown d → IsSound d → IsSound e
sound_on d e is h = record {
  view = let P : Shown → Type 0 = λ t. t.0 ≡ after t.2 t.1.shows in subst P (sym is) h.view;
  rising = let P : Shown → Type 0 = λ t. IsRising t.2 t.1.shows in subst P (sym is) h.rising;
}

same_on : (d e : Display) → shown e ≡ shown d → IsSameLive d e
same_on d e is = (ap (λ (t : Shown). t.2) is, ap (λ (t : Shown). t.1.of) is)

knows_itself : (e : Display) → IsKnownOf (Some e) e
knows_itself e d is = let same : e ≡ d = cc in (ap (λ (z : Display). z.first) same, ap (λ (z : Display). z.front.of) same)

-- nothing is pending, and the end comes to know what is shown
pub begins : (seat : ℕ) (v : Option Display) (d e : Display) → shown e ≡ shown d →
    TurnsAt IsKept seat v d e (λ v d e w. w ≡ Some e)
begins seat v d e is =
    turns seat v (Some e) d e (λ v d e w. w ≡ Some e) (sound_on d e is) (same_on d e is) (λ k. knows_itself e) (λ s k. refl)

-- a look changes nothing
pub looks : (seat : ℕ) (v : Option Display) (d : Display) → TurnsAt IsKept seat v d d Sees
looks seat v d = turns seat v v d d Sees (λ s. s) (same_self d) (λ k. k) (λ s k. (refl, s, k))

added_is : (d : Display) (a : Addition) → IsNext d a → with_addition (shown d) a ≡ (replaced d.view a.show, a.front, d.first)
added_is d a next = rw next.room refl

sound_next : (d e : Display) (a : Addition) → IsNext d a → shown e ≡ with_addition (shown d) a → IsSound d → IsSound e
sound_next d e a next is h =
    let to : shown e ≡ (replaced d.view a.show, a.front, d.first) = is ∙ added_is d a next in
    let shows : a.front.shows ≡ d.front.shows ++ a.show ∷ [] = next.shows in
    let P : Shown → Type 0 = λ t. t.0 ≡ after t.2 t.1.shows in
    let Q : Shown → Type 0 = λ t. IsRising t.2 t.1.shows in
    let up : end_at (after d.first d.front.shows) a.show.gauge ≤ a.show.row.to = rw (← h.view) next.ascends in
    record {
      view = subst P (sym to)
          (rw shows (sym (after-append d.first d.front.shows a.show ∙ ap (λ (v : ViewValue). replaced v a.show) (sym h.view))));
      rising = subst Q (sym to) (rw shows (rising-append d.first d.front.shows a.show h.rising up));
    }

same_next : (d e : Display) (a : Addition) → IsNext d a → shown e ≡ with_addition (shown d) a → IsSameLive d e
same_next d e a next is =
    let to : shown e ≡ (replaced d.view a.show, a.front, d.first) = is ∙ added_is d a next in
    (ap (λ (t : Shown). t.2) to, ap (λ (t : Shown). t.1.of) to ∙ next.of)

-- an addition that comes next is shown
pub stays : (seat : ℕ) (v : Option Display) (d e : Display) (a : Addition) → IsNext d a → shown e ≡ with_addition (shown d) a →
    TurnsAt IsKept seat v d e (λ v d e w. w ≡ v)
stays seat v d e a next is = turns seat v v d e (λ v d e w. w ≡ v) (sound_next d e a next is) (same_next d e a next is)
    (λ k. known_on v d e k (same_next d e a next is)) (λ s k. refl)

-- what is seen by an end that knows a display of a live view is of that view
pub seen_of : (v : Option Display) (first : ViewValue) (of : Book) (e : Display) → IsOf v first of → IsKnownOf v e →
    (e.first ≡ first) × (e.front.of ≡ of)
seen_of v first of e known sees =
    let same = sees known.display known.is in (same.0 ∙ known.same_first, same.1 ∙ known.same_history)

-- what is read of a display that is seen has the first view of the end
pub first_seen : (v : Option Display) (first : ViewValue) (of : Book) (e d : Display) → IsOf v first of → IsKnownOf v e → d ≡ e →
    d.first ≡ first
first_seen v first of e d known sees is = ap (λ (z : Display). z.first) is ∙ (seen_of v first of e known sees).0

-- additions that are none change nothing
pub added_none : (s : Shown) (pending : List (Option Addition)) → AreNone pending → fold added s pending ≡ s
added_none s [] h = refl
added_none s (None ∷ pending) h = added_none s pending h
added_none s (Some a ∷ pending) h = absurd h
