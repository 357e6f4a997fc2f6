use Rattle.std.proofs.Common.{◌≡◌, ◌≤◌, length, map, take, string_bytes}
use Rattle.std.specs.Prelude.{vec_capacity}
use Rattle.site_config.specs.Configuration.{gauge_names}
use Rattle.file_commands.proofs.sheet_command.writing.names_of.Given as goal

-- the names of the gauges so far
abbrev pub invariant-loop-gauge : goal.invariant-loop-gauge
invariant-loop-gauge l = record {
  names : map string_bytes l.names.items ≡ gauge_names (take l.gauge-index l.gauges);
  many : length l.names.items ≡ l.gauge-index;
  room : length l.gauges ≤ vec_capacity l.names;
}
