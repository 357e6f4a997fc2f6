-- How the lines that are told keep pace with what is stored.
--   body_line     the line that acknowledges a body; body_lines: those of bodies, in order
--   Acknowledged  the image reads as a head and bodies, and more, and each body of these was told by its line
--   OneAhead      so it is but for one body, the last, which has no more samples than a round
--   InPace        either
--   IsLevel       the store is on its station, and each body that it has more was told
--   Paced         the moments of a run are in pace, and where it has done what it does, no body is ahead at its end
--   PacedOver     the same over a station at entry and at the end
use Rattle.std.specs.Prelude.{◌≡◌, ◌≤◌, ◌+◌, ◌*◌, ◌⊎◌, ℕ, List, [], ◌∷◌, ◌++◌, map}
use Rattle.outside.specs.declared.station.station.Station as station
use Rattle.outside.specs.station.Station.{Image, Lines, IsMoment, MomentsSince}
use Rattle.board.specs.declared.flow.TheConstants.{BLOCKS_PER_WINDOW}
use Rattle.segment.specs.segment_rules.Parts.{PartsValue}
use Rattle.store_bytes.specs.store_head.Head.{HeadValue}
use Rattle.segment_store.specs.Image.{Reads}
use Rattle.segment_store.specs.Moments.{StoreValue, IsOn}
use Rattle.site_config.specs.declared.config.Config.{Config}
use Rattle.count_command.specs.held_samples.Told.{held_line}
use Rattle.count_command.specs.held_samples.Going.{RunsBy}

-- by the names of the gauges
abbrev pub body_line : (ℕ → List ℕ) → PartsValue → List ℕ
body_line names p = held_line (names p.name.gauge) p.name.to

abbrev pub body_lines : (ℕ → List ℕ) → List PartsValue → Lines
body_lines names ps = map (body_line names) ps

-- the most samples of a gauge that a round gives
abbrev pub window_of : Config → ℕ
window_of c = BLOCKS_PER_WINDOW * c.block

abbrev pub ReadsAs : HeadValue → List PartsValue → Image → Type 0
ReadsAs head bodies c = (n : List ℕ) × Reads head bodies n c

-- behind these bodies, and the lines that were told before
pub record Acknowledged (names : ℕ → List ℕ) (head : HeadValue) (front : List PartsValue) (told lines : Lines)
    (c : Image) : Type 0 where
  pub more : List PartsValue
  pub are : lines ≡ told ++ body_lines names more
  pub reads : ReadsAs head (front ++ more) c

pub record OneAhead (names : ℕ → List ℕ) (window : ℕ) (head : HeadValue) (front : List PartsValue) (told lines : Lines)
    (c : Image) : Type 0 where
  pub more : List PartsValue
  pub last : PartsValue
  pub are : lines ≡ told ++ body_lines names more
  pub reads : ReadsAs head ((front ++ more) ++ last ∷ []) c
  pub short : last.name.to ≤ last.name.from + window

abbrev pub InPace : (ℕ → List ℕ) → ℕ → HeadValue → List PartsValue → Lines → IsMoment
InPace names window head front told lines c =
    Acknowledged names head front told lines c ⊎ OneAhead names window head front told lines c

pub record IsLevel (names : ℕ → List ℕ) (head : HeadValue) (front : List PartsValue) (told told2 : Lines) (seen : Image)
    (leaves : Image → Type 0) (s : StoreValue) : Type 0 where
  pub same : s.head ≡ head
  pub more : List PartsValue
  pub are : told2 ≡ told ++ body_lines names more
  pub on : IsOn s (front ++ more) seen leaves

-- start, past and told: of entry, where the store had the bodies `front`; now, since, told2, seen, leaves and s: of its
-- end; done: what must hold for it
pub record Paced (names : ℕ → List ℕ) (window : ℕ) (head : HeadValue) (front : List PartsValue) (start : ℕ)
    (past : MomentsSince) (told : Lines) (now : ℕ) (since : MomentsSince) (told2 : Lines) (seen : Image)
    (leaves : Image → Type 0) (s : StoreValue) (done : Type 0) : Type 0 where
  pub run : RunsBy (InPace names window head front told) start past now since told2 leaves
  pub level : done → IsLevel names head front told told2 seen leaves s

abbrev pub PacedOver : {K : Type 0} → station.Ghosts K → (ℕ → List ℕ) → ℕ → HeadValue → List PartsValue → K → K →
    StoreValue → Type 0 → Type 0
PacedOver v names window head front old new s done = Paced names window head front (v.clock old) (v.moments old)
    (v.told old) (v.clock new) (v.moments new) (v.told new) (v.seen new) (v.leaves new) s done
