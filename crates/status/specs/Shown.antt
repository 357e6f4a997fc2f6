-- What a whole run shows, before it and after it.
--   Shown         what the configuration, the site, the station and the output show at one moment
--   shown_by      the same of four objects
--   ByConfig      what holds by the configuration that is shown
--   AtEachMoment  a statement on each moment from before to after
--   line_for      the line of an answer, by the configuration that is shown
--   Tells         nothing of the station changes but that this line is told at most
--   Ends          this line was told last, unless the station failed
--   TellsAnswer   the line of the answer alone is told
use Rattle.std.specs.Prelude.{◌≡◌, ◌≢◌, ◌⊎◌, ℕ, List, Ok}
use Rattle.outside.specs.Fault.{CountRose}
use Rattle.outside.specs.Site.{Files, Asked}
use Rattle.outside.specs.declared.source.Source as source
use Rattle.outside.specs.declared.site.Site as site
use Rattle.outside.specs.declared.sink.Sink as sink
use Rattle.outside.specs.station.Station.{Image, Lines, IsMoment, MomentsSince, Since}
use Rattle.outside.specs.declared.station.station.Station as station
use Rattle.site_config.specs.Configuration.{config_of_bytes}
use Rattle.site_config.specs.declared.config.Config.{Config}
use Rattle.status.specs.declared.status.Status.{Status}
use Rattle.status.specs.declared.status.Status.TheVariants.{Done}
use Rattle.status.specs.fault_lines.FaultLine.{fault_line, name_by}
use Rattle.status.specs.fault_lines.Telling.{TellsAtMost, EndsIn}

pub record Shown : Type 1 where
  -- whether each of the four tells its content, and its count of faults
  pub config_tells : Type 0
  pub site_tells : Type 0
  pub station_tells : Type 0
  pub output_tells : Type 0
  pub config_faults : ℕ
  pub site_faults : ℕ
  pub station_faults : ℕ
  pub output_faults : ℕ
  -- what the configuration has left
  pub config : List ℕ
  -- what the file of each name holds
  pub files : Files
  -- whether these may be the names that the site was asked for until now, in order
  pub names_asked : Asked
  -- how many sources are out
  pub out : ℕ
  -- what a read of the store gives
  pub seen : Image
  -- the lines told
  pub told : Lines
  -- the images that a crash may leave
  pub leaves : Image → Type 0
  -- the time, and the moments since each time
  pub clock : ℕ
  pub moments : MomentsSince
  -- what was printed
  pub written : List ℕ

abbrev pub shown_by : {C S Src K O : Type 0} → source.Ghosts C → site.Ghosts S Src → station.Ghosts K → sink.Ghosts O →
    C → S → K → O → Shown
shown_by t u v p c s k o = record {
  config_tells = t.tells;
  site_tells = u.tells;
  station_tells = v.tells;
  output_tells = p.tells;
  config_faults = t.faults c;
  site_faults = u.faults s;
  station_faults = v.faults k;
  output_faults = p.faults o;
  config = t.left c;
  files = u.files s;
  names_asked = u.names_asked s;
  out = u.out s;
  seen = v.seen k;
  told = v.told k;
  leaves = v.leaves k;
  clock = v.clock k;
  moments = v.moments k;
  written = p.written o;
}

abbrev pub ByConfig : Shown → (Config → Type 0) → Type 0
ByConfig before P = before.config_tells → (c : Config) → config_of_bytes before.config ≡ Ok c → P c

abbrev pub AtEachMoment : Shown → Shown → IsMoment → Type 0
AtEachMoment before after P = Since before.clock before.moments after.clock after.moments P

abbrev pub line_for : Shown → Status → List ℕ
line_for before answer = fault_line answer (name_by (config_of_bytes before.config) answer)

abbrev pub Tells : List ℕ → Shown → Shown → Type 0
Tells line before after =
    TellsAtMost line before.clock before.moments after.clock after.moments before.told after.told before.seen after.seen
    before.leaves after.leaves

abbrev pub Ends : List ℕ → Shown → Shown → Type 0
Ends line before after = CountRose before.station_faults after.station_faults ⊎ EndsIn line after.told

-- The name is that in the line.
pub record TellsAnswer (name : List ℕ) (before after : Shown) (answer : Status) : Type 0 where
  -- Nothing of the station changes but that the line of the answer is told at most.
  pub told : before.station_tells → Tells (fault_line answer name) before after
  -- Of `Done` none is told.
  pub silent : before.station_tells → answer ≡ Done → after.told ≡ before.told
  -- That of any other answer is told last, unless the station's count rose.
  pub last : before.station_tells → answer ≢ Done → Ends (fault_line answer name) before after
