-- What a visitor was handed, put together.
--   none_visited   nothing yet
--   visited_more   one segment more
--   joins_all      whoever joins each segment holds what the bodies say
use Rattle.std.proofs.Common.{◌≡◌, ℕ, List, [], ◌∷◌, ◌++◌, length, get_or, refl, sym, ap, subst, ◌∙◌, arith, append_assoc, append-nil}
use Rattle.std.specs.Prelude.{map, All}
use Rattle.std.proofs.lemmas.List.{map-append}
use Rattle.std.proofs.lemmas.List.Elements.{All-nil, All-push, All-head, All-tail}
use Rattle.calibration.specs.declared.setup.Setup.{Setup}
use Rattle.segment.specs.segment_rules.Parts.{PartsValue}
use Rattle.segment.specs.Segment.{SegmentValue}
use Rattle.segment.specs.Parts.{parts_of}
use Rattle.segment_store.specs.Held.{AreHeld, ends_of}
use Rattle.segment_store.specs.Image.{ends_after, IsNext, Tiles, none, one}
use Rattle.segment_store.specs.Joiner.{JoinerValue, IsNextOf, Joins}
use Rattle.segment_store.specs.Visiting.{Visits, still, goes, HasVisited}
use Rattle.segment_store.proofs.Bodies.{tiles_more}

abbrev IsOver : Setup → SegmentValue → Type 0
IsOver setup s = s.grid ≡ setup.grid

pub none_visited : {V : Type 0} (step : V → SegmentValue → V → Type 0) (v : V) (setup : Setup) (ends : List ℕ)
    → HasVisited step v v setup ends [] ends
none_visited step v setup ends = record { visits = still; over = All-nil (IsOver setup); tiles = none }

visits_more : {V : Type 0} (step : V → SegmentValue → V → Type 0) (u v w : V) (ss : List SegmentValue) (s : SegmentValue)
    → Visits step u ss v → step v s w → Visits step u (ss ++ s ∷ []) w
visits_more step u v w [] s still h = goes h still
visits_more step u v w (r ∷ ss) s (goes {v = mid} first rest) h = goes first (visits_more step mid v w ss s rest h)

pub visited_more : {V : Type 0} (step : V → SegmentValue → V → Type 0) (u v w : V) (setup : Setup) (ends last : List ℕ)
    (ss : List SegmentValue) (s : SegmentValue) → HasVisited step u v setup ends ss last → step v s w → s.grid ≡ setup.grid
    → IsNext setup last (parts_of s) → HasVisited step u w setup ends (ss ++ s ∷ []) (ends_after last (parts_of s))
visited_more step u v w setup ends last ss s h by over next = record {
  visits = visits_more step u v w ss s h.visits by;
  over = All-push (IsOver setup) ss s h.over over;
  tiles = subst (λ l. Tiles setup ends l (ends_after last (parts_of s))) (sym (map-append parts_of ss (s ∷ [])))
      (tiles_more (parts_of s) h.tiles next);
}

pub record HasJoined (u : JoinerValue) (segments : List SegmentValue) (w : JoinerValue) (last : List ℕ) : Type 0 where
  pub grid : w.grid ≡ u.grid
  pub gauges : length w.held ≡ length u.held
  pub ends : ends_of w.held ≡ last
  pub held : (bodies : List PartsValue) → AreHeld u.grid bodies u.held → AreHeld u.grid (bodies ++ map parts_of segments) w.held

pub joins_all : (setup : Setup) (u w : JoinerValue) (segments : List SegmentValue) (ends last : List ℕ) → Visits Joins u segments w
    → All (λ (s : SegmentValue). s.grid ≡ setup.grid) segments → Tiles setup ends (map parts_of segments) last → u.grid ≡ setup.grid
    → length u.held ≡ length setup.gains → ends_of u.held ≡ ends → HasJoined u segments w last
joins_all setup u w [] ends last still over none grid gauges are = record {
  grid = refl;
  gauges = refl;
  ends = are;
  held = λ bodies h. subst (λ l. AreHeld u.grid l u.held) (sym (append-nil bodies)) h;
}
joins_all setup u w (s ∷ ss) ends last (goes {v = v} step rest) over (one next tiles) grid gauges are =
    let is : IsNextOf u s = record {
      grid = All-head (IsOver setup) s ss over ∙ sym grid;
      known = omega (arith, next.body.gauge, gauges);
      next = next.joins ∙ ap (λ l. get_or l s.gauge 0) (sym are);
    } in
    let ends2 : ends_of v.held ≡ ends_after ends (parts_of s) = step.ends is ∙ ap (λ l. ends_after l (parts_of s)) are in
    let more = joins_all setup v w ss (ends_after ends (parts_of s)) last rest (All-tail (IsOver setup) s ss over) tiles
    (step.grid ∙ grid) (step.gauges ∙ gauges) ends2 in
    record {
      grid = more.grid ∙ step.grid;
      gauges = more.gauges ∙ step.gauges;
      ends = more.ends;
      held = λ bodies h. subst (λ l. AreHeld u.grid l w.held) (append_assoc bodies (parts_of s ∷ []) (map parts_of ss))
          (subst (λ k. AreHeld k ((bodies ++ parts_of s ∷ []) ++ map parts_of ss) w.held) step.grid
          (more.held (bodies ++ parts_of s ∷ [])
          (subst (λ k. AreHeld k (bodies ++ parts_of s ∷ []) v.held) (sym step.grid) (step.held is bodies h))));
    }
