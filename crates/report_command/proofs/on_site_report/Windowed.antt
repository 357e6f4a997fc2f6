-- The line of a gauge's window.
use Rattle.std.proofs.Common.{◌≡◌, ◌<◌, ◌++◌, ℕ, List, length, get_or, sym, ap, ◌∙◌}
use Rattle.std.proofs.lemmas.List.{get_or-map}
use Rattle.report.specs.Figures.{Figures}
use Rattle.report.specs.Texts.{gauge_text}
use Rattle.report.specs.Window.{window_line}
use Rattle.segment.specs.Segment.{SegmentValue}
use Rattle.site_config.specs.declared.config.Config.{Config}
use Rattle.site_config.specs.Valid.{name_of}
use Rattle.report_command.specs.site_report.Report.{names_of, window_of_gauge}
use Rattle.report_command.proofs.on_site_report.Printed.{text_is}

pub window_is : (c : Config) (segments : List SegmentValue) (figures : ℕ → Figures) (g : ℕ) (v : SegmentValue) (name : List ℕ)
    → g < length segments → v ≡ get_or segments g v → v.grid ≡ c.setup.grid → name_of c g ≡ name
    → window_line name v.from v.to ++ gauge_text v.grid name (figures g) ≡ window_of_gauge c (names_of segments) figures g
window_is c segments figures g v name lt is grid named =
    let from : v.from ≡ (names_of segments g).0 = ap (λ (x : SegmentValue). x.from) is
    ∙ sym (get_or-map (λ (x : SegmentValue). x.from) segments g v 0 lt) in
    let to : v.to ≡ (names_of segments g).1 = ap (λ (x : SegmentValue). x.to) is
    ∙ sym (get_or-map (λ (x : SegmentValue). x.to) segments g v 0 lt) in
    ap (λ l. window_line name v.from v.to ++ l) (text_is c figures g v.grid name grid named)
    ∙ ap (λ n. window_line n v.from v.to ++ gauge_text c.setup.grid (name_of c g) (figures g)) (sym named)
    ∙ ap (λ n. window_line (name_of c g) n v.to ++ gauge_text c.setup.grid (name_of c g) (figures g)) from
    ∙ ap (λ n. window_line (name_of c g) (names_of segments g).0 n ++ gauge_text c.setup.grid (name_of c g) (figures g)) to
