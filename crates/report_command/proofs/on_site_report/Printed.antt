-- A text that is printed piece by piece.
use Rattle.std.proofs.Common.{◌≡◌, ◌<◌, ℕ, ◌+◌, List, ◌∷◌, ◌++◌, length, drop, get_or, sym, ap, ◌∙◌, subst}
use Rattle.std.proofs.lemmas.List.{at_drop_more}
use Rattle.outside.specs.Sink.{AppendsPrefix}
use Rattle.damage.specs.declared.exact_frac.frac.Frac.{Frac}
use Rattle.site_config.specs.declared.config.Config.{Config}
use Rattle.site_config.specs.declared.config.NamedDetail.{NamedDetail}
use Rattle.calibration.specs.Grid.{GridValue}
use Rattle.report.specs.Figures.{Figures}
use Rattle.report.specs.Texts.{detail_text, gauge_text}
use Rattle.site_config.specs.Valid.{name_of}
use Rattle.report.specs.Printed.{IsPrinted}
use Rattle.report_command.specs.site_report.Report.{detail_line, detail_lines, text_of_gauge}
use Rattle.report.proofs.Printed.{printed_front}

-- the next of the lines of some details
pub details_next : (c : Config) (ds : List NamedDetail) (fs : List Frac) (i : ℕ) (d : NamedDetail) (f : Frac) →
    i < length ds → i < length fs
    → detail_lines c (drop i ds) (drop i fs) ≡ detail_line c (get_or ds i d) (get_or fs i f) ++ detail_lines c (drop (i + 1) ds)
    (drop (i + 1) fs)
details_next c ds fs i d f lt lt2 =
    at_drop_more (λ xs. detail_lines c xs (drop i fs)) ds i d lt
    ∙ at_drop_more (λ ys. detail_lines c (get_or ds i d ∷ drop (i + 1) ds) ys) fs i f lt2

-- the text of a gauge, by the grid of its segment
pub text_is : (c : Config) (figures : ℕ → Figures) (g : ℕ) (grid : GridValue) (name : List ℕ) → grid ≡ c.setup.grid → name_of c g ≡ name
    → gauge_text grid name (figures g) ≡ text_of_gauge c figures g
text_is c figures g grid name same is =
    ap (λ (x : GridValue). gauge_text x name (figures g)) same ∙ ap (λ (l : List ℕ). gauge_text c.setup.grid l (figures g)) (sym is)

-- the line of a detail, by its item
pub line_is : (c : Config) (ds : List NamedDetail) (fs : List Frac) (i : ℕ) (item : NamedDetail) (f : Frac) (name gauge : List ℕ)
    → item ≡ get_or ds i item → f ≡ get_or fs i f → name ≡ item.name → name_of c item.gauge ≡ gauge
    → detail_text name gauge f ≡ detail_line c (get_or ds i item) (get_or fs i f)
line_is c ds fs i item f name gauge is is2 named on = ap (λ (l : List ℕ). detail_text l gauge f) named
    ∙ (ap (λ (l : List ℕ). detail_text item.name l f) (sym on)
    ∙ (ap (λ (d : NamedDetail). detail_line c d f) is ∙ ap (λ (x : Frac). detail_line c (get_or ds i item) x) is2))

-- one detail more
module _ (c : Config) (ds : List NamedDetail) (fs : List Frac) (i : ℕ) (d : NamedDetail) (f : Frac) (within : i < length ds)
    (within2 : i < length fs) (old now new whole : List ℕ) (p : IsPrinted old now whole (detail_lines c (drop i ds) (drop i fs))) where
  next : IsPrinted old now whole (detail_line c (get_or ds i d) (get_or fs i f) ++ detail_lines c (drop (i + 1) ds) (drop (i + 1) fs))
  next = subst (IsPrinted old now whole) (details_next c ds fs i d f within within2) p

  pub details_front : AppendsPrefix now new (detail_line c (get_or ds i d) (get_or fs i f)) → AppendsPrefix old new whole
  details_front e = printed_front old now new whole (detail_line c (get_or ds i d) (get_or fs i f))
      (detail_lines c (drop (i + 1) ds) (drop (i + 1) fs)) next e
