-- A segment that may be shown comes next.
--   next_of   its show, with a history that is one show longer, is an addition that comes next
use Rattle.std.proofs.Common.{◌≡◌, ◌<◌, ◌==◌, ℕ, true, nat_lt, [], ◌∷◌, ◌++◌, length, ap, ◌∙◌, arith}
use Rattle.std.proofs.lemmas.Bool.{and_from}
use Rattle.std.proofs.lemmas.Bool.Decides.{nat_tests}
use Rattle.segment.specs.Segment.{SegmentValue}
use Rattle.live_view.specs.View.{half_units_of}
use Rattle.live_view.specs.Shows.{show_of}
use Rattle.live_view.specs.History.{FrontValue}
use Rattle.live_view.specs.Ends.{MayShow}
use Rattle.live_view.specs.Rule.{IsNext}
use Rattle.live_view.specs.declared.display.Display.{Display}
use Rattle.live_view.specs.declared.show.Show.{Show}
use Rattle.live_view.proofs.Rows.{length-half_units_of}

is_below : (a b : ℕ) → a < b → nat_lt a b ≡ true
is_below a b h = grind (arith, nat_tests)

is_same : (a b : ℕ) → a ≡ b → (a == b) ≡ true
is_same a b e = grind (arith, nat_tests)

pub next_of : (d : Display) (s : SegmentValue) (show : Show) (front : FrontValue) → MayShow d.view s → show ≡ show_of s →
    front.shows ≡ d.front.shows ++ show ∷ [] → front.of ≡ d.front.of → IsNext d (record { show = show; front = front })
next_of d s show front may is shows of = record {
  room = rw is (and_from _ _ (is_below s.gauge (length d.view.rows) may.gauge)
      (is_same (length (half_units_of s)) d.view.grid.classes (length-half_units_of s ∙ ap (λ g. g.classes) may.grid)));
  ascends = rw is may.ascends;
  shows = shows;
  of = of;
}
