-- Names that are asked for one after the other.
--   asks_none          nothing was asked for yet
--   file_is            the name of a gauge's file
--   asks_file          it was asked for
--   asks_more          and so was that of one gauge more
--   none_is_first, first_then_none
use Rattle.std.proofs.Common.{◌≡◌, ◌<◌, ◌+◌, ℕ, List, [], ◌∷◌, ◌++◌, length, take, slice_index_or, sym, ◌∙◌, ap, subst, append_assoc, append-nil, arith}
use Rattle.std.proofs.lemmas.List.{get_or_default, map_more, take-map}
use Rattle.outside.specs.Site.{Asked, Asks, AsksNothing}
use Rattle.outside.proofs.Asked.{asks_no_more}
use Rattle.site_config.specs.Valid.{file_of, no_gauge}
use Rattle.site_config.specs.declared.config.Config.{Config}
use Rattle.site_config.specs.declared.config.Gauge.{Gauge}
use Rattle.site_config.specs.recorded.Asked.{file_names, AsksFirst}

pub asks_none : (a : Asked) → Asks a a []
asks_none a = λ names has. subst a (sym (append-nil names)) has

next_name : (c : Config) (g : ℕ) → g < length c.gauges → take (g + 1) (file_names c) ≡ take g (file_names c) ++ file_of c g ∷ []
next_name c g lt =
    take-map (λ (gauge : Gauge). gauge.file) (g + 1) c.gauges ∙ map_more (λ (gauge : Gauge). gauge.file) c.gauges g no_gauge lt
    ∙ ap (λ (l : List (List ℕ)). l ++ file_of c g ∷ []) (sym (take-map (λ (gauge : Gauge). gauge.file) g c.gauges))

pub file_is : (c : Config) (g : ℕ) (gauges : List Gauge) (here : Gauge) (name : List ℕ) → g < length c.gauges → gauges ≡ c.gauges
    → name ≡ (slice_index_or gauges g here).file → file_of c g ≡ name
file_is c g gauges here name lt same is = ap (λ (x : Gauge). x.file) (get_or_default c.gauges g no_gauge here lt)
    ∙ ap (λ (l : List Gauge). (slice_index_or l g here).file) (sym same) ∙ sym is

pub asks_file : (c : Config) (g : ℕ) (gauges : List Gauge) (here : Gauge) (name : List ℕ) → g < length c.gauges → gauges ≡ c.gauges
    → name ≡ (slice_index_or gauges g here).file → (a b : Asked) → Asks a b (name ∷ []) → Asks a b (file_of c g ∷ [])
asks_file c g gauges here name lt same is a b asks =
    subst (λ (n : List ℕ). Asks a b (n ∷ [])) (sym (file_is c g gauges here name lt same is)) asks

-- those of the gauges below g were asked for
module _ (c : Config) (g : ℕ) (a b : Asked) (asks : Asks a b (take g (file_names c))) where
  pub asks_more : (d : Asked) → g < length c.gauges → Asks b d (file_of c g ∷ []) → Asks a d (take (g + 1) (file_names c))
  asks_more d lt one = λ names has. subst d
      (append_assoc names (take g (file_names c)) (file_of c g ∷ []) ∙ ap (λ (l : List (List ℕ)). names ++ l) (sym (next_name c g lt)))
      (one (names ++ take g (file_names c)) (asks names has))

pub none_is_first : (a b : Asked) (names : List (List ℕ)) → AsksNothing a b → AsksFirst a b names
none_is_first a b names none = (0, omega arith, asks_no_more a a b [] (asks_none a) none)

pub first_then_none : (a b d : Asked) (names : List (List ℕ)) → AsksFirst a b names → AsksNothing b d → AsksFirst a d names
first_then_none a b d names first none = (first.0, first.1, asks_no_more a b d (take first.0 names) first.2 none)
