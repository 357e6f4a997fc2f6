-- The site's and the output's part of what is shown.
use Rattle.file_commands.specs.file_tasks.Run.{Outside}
use Rattle.status.specs.Shown.{Shown}

abbrev pub outside_in : Shown → Outside
outside_in shown = record {
  site_tells = shown.site_tells;
  output_tells = shown.output_tells;
  files = shown.files;
  names_asked = shown.names_asked;
  out = shown.out;
  site_faults = shown.site_faults;
  written = shown.written;
  output_faults = shown.output_faults;
}
