-- What is shown of a run to a watcher, and who watches.
--   ShowsAtMost   a view over the grid, of as many gauges, in which no gauge ends behind what is held of it
--   ShowsHeld     an end of this live view shows no more than what is held
--   LookoutValue  of which live view it is, and where the gauges ended before
--   WatchValue    of which live view it is, what is shown, and where the gauges ended before
use Rattle.std.specs.Prelude.{◌≡◌, ◌≤◌, ℕ, List, length, slice_index}
use Rattle.logbook.specs.Pages.{Book}
use Rattle.calibration.specs.Grid.{GridValue}
use Rattle.live_view.specs.View.{ViewValue, end_at}
use Rattle.live_view.specs.Ends.{ShowerValue}

pub record ShowsAtMost (v : ViewValue) (grid : GridValue) (ends : List ℕ) : Type 0 where
  pub over : v.grid ≡ grid
  pub gauges : length v.rows ≡ length ends
  pub least : (g : ℕ) → end_at v g ≤ slice_index ends g

pub record ShowsHeld (book : Book) (shower : ShowerValue) (grid : GridValue) (ends : List ℕ) : Type 0 where
  pub one : shower.of ≡ book
  pub most : ShowsAtMost shower.view grid ends

pub record LookoutValue : Type 0 where
  pub of : Book
  pub starts : List ℕ

pub record WatchValue : Type 0 where
  pub of : Book
  pub shown : ViewValue
  pub starts : List ℕ
