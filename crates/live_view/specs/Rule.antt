-- The rule of the two ends.
--   shown        of a display: its view, its history, and the first view
--   with_addition, added   the same with an addition, if there is one and the view has room for it
--   IsSound      a display has the view after its shows from the first one on, and no gauge's end falls
--   IsSameLive   two displays are of one live view
--   IsKnownOf    a display is of one live view with the one that an end knows
--   IsKept       the display is sound, and of one live view with each display that an end knows
--   IsNext, IsPending   an addition comes next, and is the one that is pending
--   AreNone      what is pending changes nothing
--   Sees         what a look tells: the display is sound, and of one live view with the one that is known
--   IsOf         an end knows a display with this first view, and of this history
use Rattle.std.specs.Prelude.{◌≡◌, ◌≤◌, ℕ, true, if◌then◌else◌, List, [], ◌∷◌, ◌++◌, Option, Some, None}
use mathlib.Core.Option.{some}
use lib.ListN.{get_elem?}
use Rattle.logbook.specs.Pages.{Book}
use Rattle.live_view.specs.View.{ViewValue, end_at}
use Rattle.live_view.specs.Shows.{IsRising, after, fits, replaced}
use Rattle.live_view.specs.History.{FrontValue}
use Rattle.live_view.specs.declared.display.Addition.{Addition}
use Rattle.live_view.specs.declared.display.Display.{Display}

abbrev pub Shown : Type 0
Shown = ViewValue × FrontValue × ViewValue

abbrev pub shown : Display → Shown
shown d = (d.view, d.front, d.first)

abbrev pub with_addition : Shown → Addition → Shown
with_addition s a = if fits s.0 a.show then (replaced s.0 a.show, a.front, s.2) else s

abbrev pub added : Shown → Option Addition → Shown
added s None = s
added s (Some a) = with_addition s a

pub record IsSound (d : Display) : Type 0 where
  pub view : d.view ≡ after d.first d.front.shows
  pub rising : IsRising d.first d.front.shows

abbrev pub IsSameLive : Display → Display → Type 0
IsSameLive d e = (e.first ≡ d.first) × (e.front.of ≡ d.front.of)

-- what an end knows, if anything
abbrev pub IsKnownOf : Option Display → Display → Type 0
IsKnownOf v e = (d : Display) → v ≡ Some d → IsSameLive d e

pub record IsKept (d : Display) (known : List (Option Display)) : Type 0 where
  pub sound : IsSound d
  pub each : (seat : ℕ) (v : Option Display) → get_elem? known seat ≡ some v → IsKnownOf v d

-- the addition comes next: the view has room for it, its gauge's end does not fall, and its history is one show longer
pub record IsNext (d : Display) (a : Addition) : Type 0 where
  pub room : fits d.view a.show ≡ true
  pub ascends : end_at d.view a.show.gauge ≤ a.show.row.to
  pub shows : a.front.shows ≡ d.front.shows ++ a.show ∷ []
  pub of : a.front.of ≡ d.front.of

-- one addition is pending
pub record IsPending (d : Display) (pending : List (Option Addition)) : Type 0 where
  pub addition : Addition
  pub is : pending ≡ Some addition ∷ []
  pub next : IsNext d addition

-- no addition is pending, but for room
abbrev pub AreNone : List (Option Addition) → Type 0
AreNone [] = Unit {0}
AreNone (None ∷ pending) = AreNone pending
AreNone (Some a ∷ pending) = ⊥

abbrev pub Sees : Option Display → Display → Display → Option Display → Type 0
Sees v d e w = (w ≡ v) × IsSound e × IsKnownOf v e

pub record IsOf (v : Option Display) (first : ViewValue) (of : Book) : Type 0 where
  pub display : Display
  pub is : v ≡ Some display
  pub same_first : display.first ≡ first
  pub same_history : display.front.of ≡ of
