-- A run that told the line of its answer.
--   left_unread    the configuration was refused, or memory ran out before it was read
use Rattle.std.proofs.Common.{◌≡◌, inl, ℕ, List, [], subst}
use Rattle.std.specs.Prelude.{Err}
use Rattle.outside.specs.Fault.{CountRose}
use Rattle.outside.specs.Site.{Asked, AsksNothing}
use Rattle.outside.specs.station.Station.{Image, Lines}
use Rattle.site_config.specs.Configuration.{config_of_bytes}
use Rattle.site_config.specs.recorded.Recorded.{recordings}
use Rattle.site_config.specs.recorded.Asked.{names_in}
use Rattle.site_config.proofs.on_recorded.Asking.{none_is_first}
use Rattle.status.specs.config_reading.Reading.{MeansAs, IsRefusal}
use Rattle.status.specs.declared.status.Status.{Status}
use Rattle.status.specs.declared.status.Status.TheVariants.{ReadFault}
use Rattle.status.specs.fault_lines.FaultLine.{fault_line}
use Rattle.status.specs.Shown.{Shown, Tells, Ends, line_for}
use Rattle.status.proofs.on_config_reading.Refusing.{by_refusal}
use Rattle.count_command.specs.declared.course.Course.{Course}
use Rattle.count_command.specs.Asked.{CountAsks}
use Rattle.count_command.specs.CountRun.{CountRuns}
use Rattle.count_command.proofs.Appending.{truly_begins, truly_fault, only_told}
use Rattle.count_command.proofs.Complete.{done_or_memory, complete_read}
use Rattle.count_command.proofs.Early.{refusal_early, held_early, cut_early, prints_early, where_early}
use Rattle.count_command.proofs.FaultTold.{safe_fault, fault_below}
use Rattle.count_command.proofs.Pacing.{paced_begins, paced_fault}
use Rattle.count_command.proofs.Resumed.{safe_starts}
use Rattle.count_command.proofs.Whole.{answers_read, not_write_read, not_disk_read, not_usage_read}
use Rattle.count_command.proofs.WithoutMemory.{or_still}

asks_unread : (a b : Asked) (names : List (List ℕ)) → AsksNothing a b → (s : Status) → IsRefusal s → CountAsks s a b names
asks_unread a b names none = by_refusal (λ (s : Status). CountAsks s a b names) (λ f. none) (none_is_first a b names none) (inl none)

-- line: what is told of it is its line, whatever the configuration means
pub left_unread : (course : Course) (before after : Shown) (s : Status) → IsRefusal s
    → (before.station_tells → (lines : Lines) (image : Image) → before.moments before.clock lines image →
    (lines ≡ before.told) × before.leaves image)
    → (fault_line s [] ≡ line_for before s) → (before.station_tells → Tells (fault_line s []) before after)
    → (before.station_tells → Ends (fault_line s []) before after) → after.written ≡ before.written
    → AsksNothing before.names_asked after.names_asked
    → (before.config_tells → MeansAs (config_of_bytes before.config) (Err s))
    → (s ≡ ReadFault → CountRose before.config_faults after.config_faults) → after.site_faults ≡ before.site_faults
    → CountRuns course before after s
left_unread course before after s is only line told ends written asked means cause none =
    let early = refusal_early s is in
    record {
      every_moment = λ k t c config reads a holds lines image was.
          let r = recordings config before.files in
          let safe = safe_starts r a before.clock before.moments before.told before.seen before.leaves holds (only k) in
          (safe_fault r a _ _ _ _ _ _ _ _ _ _ _ _ _ safe (fault_line s []) (fault_below r s []) (told k)).run.each lines image was;
      appends = λ k first front ends reads. only_told first (told k);
      truly = λ k c config reads files first front ends was.
          let r = recordings config files in
          (truly_fault r first front before.told before.leaves s []
          (truly_begins r first front before.told before.leaves before.clock before.moments before.seen (only k)) (told k)).run;
      paced = λ k c config reads first front ends was.
          paced_fault course s config first front ends before.told before.leaves (fault_line s []) (line_for before s) line
          (paced_begins course s config first front ends before.told before.leaves before.clock before.moments before.seen (only k))
          (told k);
      ended = λ k t c config reads a holds. held_early (recordings config before.files) after.leaves s early;
      cut = λ k t c config reads a holds none. cut_early (recordings config before.files) after.leaves s early;
      memory = λ k t c config reads a holds none. or_still ([], told k) _ s course;
      prints = λ o k t c config reads a holds.
          prints_early config (recordings config before.files).samples before.written after.written written s early;
      nothing = λ o other. written;
      acknowledged = λ k t c config reads n h. where_early _ _ s early;
      answer_is = λ k t c. answers_read (config_of_bytes before.config) before.seen before.files s is (means c);
      complete = λ k t c config reads n h fit sound source site station out.
          done_or_memory s (complete_read (config_of_bytes before.config) config reads s is (means c)) (λ e. source (cause e))
          (λ e. absurd (not_write_read s is e)) (λ e. absurd (not_disk_read s is e));
      quiet = λ k leaves. ([], told k);
      opens = λ k t c. inl ([], told k);
      named = not_usage_read s is;
      refused = λ gauge fault is2. none;
      read = λ e. inl (cause e);
      write = λ e. absurd (not_write_read s is e);
      disk = λ e. absurd (not_disk_read s is e);
      asked = λ c. asks_unread before.names_asked after.names_asked (names_in (config_of_bytes before.config)) asked s is;
      last = λ k c other. subst (λ (l : List ℕ). Ends l before after) line (ends k);
    }
