use Rattle.std.proofs.Common.{◌≡◌, ◌≤◌, ◌++◌, length, drop, map}
use Rattle.std.specs.Prelude.{take, vec_capacity}
use Rattle.outside.specs.Site.{Asks}
use Rattle.site_config.specs.recorded.Asked.{file_names}
use Rattle.file_commands.specs.sheet_command.Sheet.{recordings_of, states_of, answer_from, answer_over}
use Rattle.file_commands.proofs.sheet_command.reading.read_recordings.Given as goal

-- the recordings of the gauges so far are read, and sound
abbrev pub invariant-loop-number : goal.invariant-loop-number
invariant-loop-number g l = record {
  read : g.T.Site.tells → map (λ w. w.items) l.recordings.items
      ++ recordings_of (drop l.number l.config.gauges) (g.T.Site.files l.fn.site) ≡
      recordings_of l.config.gauges (g.T.Site.files l.fn.site);
  sound : g.T.Site.tells → answer_from l.number (states_of (drop l.number l.config.gauges) (g.T.Site.files l.fn.site))
      ≡ answer_over l.config
      (g.T.Site.files l.fn.site);
  many : length l.recordings.items ≡ l.number;
  room : length l.config.gauges ≤ vec_capacity l.recordings;
  steady : g.T.Site.faults l.site ≡ g.T.Site.faults l.fn.site;
  asked : Asks (g.T.Site.names_asked l.fn.site) (g.T.Site.names_asked l.site) (take l.number (file_names l.config));
  back : g.T.Site.out l.site ≡ 0;
  files : g.T.Site.tells → g.T.Site.files l.site ≡ g.T.Site.files l.fn.site;
}
