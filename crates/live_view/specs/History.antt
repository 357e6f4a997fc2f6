-- The history of the shows.
--   FrontValue   a front of a history: of which, and its shows
--   IsNumbered   the history's word is the number of its shows
--   Adds         a step adds a show to all that was seen; or the history was longer, and was seen
use Rattle.std.specs.Prelude.{◌≡◌, ◌==◌, ℕ, true, List, [], ◌∷◌, ◌++◌, length, MatchBool}
use Rattle.logbook.specs.Pages.{Book, Cell, Step, View}
use Rattle.live_view.specs.declared.show.Show.{Show}

pub record FrontValue : Type 0 where
  pub of : Book
  pub shows : List Show

-- a history has two words, of which this one leaves the second at 0
pub record IsNumbered (cells : List Cell) (log : List Show) : Type 0 where
  pub words : cells ≡ (length log, true) ∷ (0, true) ∷ []

abbrev pub Adds : Step Show → View Show ℕ → ℕ → View Show ℕ → Type 0
Adds s v found w = MatchBool (found == s.old) (w.0 ≡ v.0 ++ s.ask ∷ []) (length w.0 ≡ found)
