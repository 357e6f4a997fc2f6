-- What may be shown of a gauge in a live view.
--   may_show_next   a segment that ends no earlier than the one that was shown
use Rattle.std.proofs.Common.{◌≡◌, ◌≤◌, ◌<◌, ℕ, List, length, get_or, set, ◌∙◌, ap, length-set}
use Rattle.std.proofs.lemmas.List.{get_or-set_same}
use Rattle.segment.specs.Segment.{SegmentValue}
use Rattle.live_view.specs.View.{RowValue, ViewValue, blank_row, row_of}
use Rattle.live_view.specs.Shows.{replaced, show_of}
use Rattle.live_view.specs.Ends.{MayShow}

end_here : (rows : List RowValue) (k : ℕ) (r d : RowValue) → k < length rows → (get_or (set rows k r) k d).to ≡ r.to
end_here rows k r d h = ap (λ (x : RowValue). x.to) (get_or-set_same rows k r d h)

pub may_show_next : (v : ViewValue) (s t : SegmentValue) → MayShow v s → t.grid ≡ s.grid → t.gauge ≡ s.gauge → s.to ≤ t.to →
    MayShow (replaced v (show_of s)) t
may_show_next v s t may grid gauge to =
    let known : s.gauge < length v.rows = may.gauge in
    record {
      grid = grid ∙ may.grid;
      gauge = rw gauge (rw (length-set v.rows s.gauge (row_of s)) known);
      ascends = rw gauge (rw (end_here v.rows s.gauge (row_of s) (blank_row 0) known) to);
    }
