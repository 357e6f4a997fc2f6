use Rattle.std.proofs.Common.{◌≡◌, ◌≤◌, length}
use Rattle.std.specs.Prelude.{take, vec_capacity}
use Rattle.outside.specs.Site.{Asks}
use Rattle.site_config.specs.recorded.Asked.{file_names}
use Rattle.init_command.specs.Heads.{AreHeadsBelow}
use Rattle.init_command.proofs.heads.read_heads.Given as goal

abbrev pub invariant-loop-gauge : goal.invariant-loop-gauge
invariant-loop-gauge g l = record {
  each : g.T.Site.tells → AreHeadsBelow l.config (g.T.Site.files l.fn.site) l.gauge l.heads.items;
  many : length l.heads.items ≡ l.gauge;
  room : length l.config.gauges ≤ vec_capacity l.heads;
  steady : g.T.Site.faults l.site ≡ g.T.Site.faults l.fn.site;
  asked : Asks (g.T.Site.names_asked l.fn.site) (g.T.Site.names_asked l.site) (take l.gauge (file_names l.config));
  back : g.T.Site.out l.site ≡ 0;
  files : g.T.Site.tells → g.T.Site.files l.site ≡ g.T.Site.files l.fn.site;
}
