-- What contracts see of the two ends.
--   ShowerValue    the end that makes shows: of which live view, the first view, the shows made, the view after them
--   WatcherValue   the end that looks: of which live view, the first view, and the shows that it knows of, by its looks
--                  and the notes learnt
--   IsSameWatcher  it is of the same live view, with the same first view
--   MayShow        what is shown next is over the view's grid, of a known gauge, and ends no earlier than what its
--                  gauge's row shows
use Rattle.std.specs.Prelude.{◌≡◌, ◌≤◌, List}
use Rattle.logbook.specs.Pages.{Book}
use Rattle.segment.specs.Segment.{SegmentValue}
use Rattle.live_view.specs.View.{ViewValue, IsKnown, end_at}
use Rattle.live_view.specs.declared.show.Show.{Show}

pub record ShowerValue : Type 0 where
  pub of : Book
  pub first : ViewValue
  pub shows : List Show
  pub view : ViewValue

pub record WatcherValue : Type 0 where
  pub of : Book
  pub first : ViewValue
  pub known : List Show

abbrev pub IsSameWatcher : WatcherValue → WatcherValue → Type 0
IsSameWatcher w v = (v.of ≡ w.of) × (v.first ≡ w.first)

pub record MayShow (v : ViewValue) (s : SegmentValue) : Type 0 where
  pub grid : s.grid ≡ v.grid
  pub gauge : IsKnown v s.gauge
  pub ascends : end_at v s.gauge ≤ s.to
