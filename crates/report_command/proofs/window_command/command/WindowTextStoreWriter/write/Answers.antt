use Rattle.std.proofs.Common.{◌<◌, ℕ, length, ap, sym, subst, arith}
use Rattle.report_command.specs.site_report.Report.{names_of}
use Rattle.report_command.specs.window_counts.Windows.{WindowsValue}
use Rattle.report_command.specs.window_counts.Counted.{AreCounted}
use Rattle.report_command.specs.window_command.Printing.{figures_in}
use Rattle.report_command.proofs.StoreRun.{no_room, not_resumed, ended, printing_copies}
use Rattle.report_command.proofs.on_window_command.Counted.{windows_are, agrees_in, agrees_kept, are_kept, kept_figures}
use Rattle.report_command.proofs.window_command.command.WindowTextStoreWriter.write.Goals as goal

-- no room for the report
pub returns-in_default : goal.returns-in_default
returns-in_default g c = record { run = no_room (λ tells. g.met.K.Station.only_now tells c.args.station.now) }

-- counted
pub returns-in-Ok-count_windows : goal.returns-in-Ok-count_windows
returns-in-Ok-count_windows g c =
    let config = c.args.config.now in
    let times = c.args.self.now.times in
    let joined = c.joined.result.now in
    let here = c.in-Ok-count_windows.ensures in
    let many : (gauge : ℕ) → gauge < length config.gauges → gauge < length joined = λ gauge lt.
    omega (arith, lt, ap length c.joined.ensures.joined, here.gauges, c.requires.config.gains) in
    record {
      run = ended c.count_windows.ensures.walk.quiet c.count_windows.ensures.walk.later here.there
          (printing_copies c.print_counted.result c.print_counted.ensures.kind)
          (λ writes not. absurd (not c.print_counted.ensures.kind)) c.print_counted.ensures.write (λ writes tells printing. record {
            prints = λ w n h.
                let counted = subst (AreCounted config.setup times h.head.heads h.bodies) (sym c.joined.ensures.joined)
                (here.counted tells h.head h.bodies n h.of_setup h.reads) in (
                  names_of joined,
                  (λ gauge lt. windows_are config times h.head.heads h.bodies joined counted gauge (many gauge lt)),
                  c.print_counted.ensures.prints writes (figures_in config w (names_of joined))
                      (agrees_in config times h.head.heads h.bodies joined counted w h.stand),
                );
            kept = λ head bodies ends of reads.
                let counted = subst (AreCounted config.setup times head.heads bodies) (sym c.joined.ensures.joined)
                (here.counted tells head bodies ends of reads) in
                let figures = kept_figures config times head.heads bodies joined in
                let are = λ (gauge : ℕ) (lt : gauge < length config.gauges).
                windows_are config times head.heads bodies joined counted gauge (many gauge lt) in (
                  names_of joined,
                  are,
                  (
                    figures,
                    (λ gauge lt. are_kept config times head.heads bodies joined (names_of joined gauge) gauge (are gauge lt)),
                    c.print_counted.ensures.prints writes figures (agrees_kept config times head.heads bodies joined counted),
                  ),
                );
          });
    }

-- it is refused
pub returns : goal.returns
returns g c =
    let walk = c.in-Err.ensures.walk in
    record {
      run = not_resumed WindowsValue c.in-Err.fault c.status_of.ensures walk.refuses walk.unharmed walk.cause
          c.count_windows.ensures.walk.quiet c.count_windows.ensures.walk.later;
    }
