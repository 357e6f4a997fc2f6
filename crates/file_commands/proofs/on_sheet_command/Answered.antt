-- A run of `sheet` that printed nothing.
--   IsUnprinted      the answers of such a run
--   left_unprinted   at most this line was told, which is that of the answer
--   left_unread      the configuration was refused, or memory ran out before it was read
use Rattle.std.proofs.Common.{◌≡◌, ◌≢◌, ◌⊎◌, inl, inr, ⊎_elim, ℕ, List, [], ◌∷◌, ◌++◌, ◌∙◌, ap, refl, sym, subst}
use Rattle.std.specs.Prelude.{Result, Err}
use Rattle.outside.specs.Fault.{CountRose}
use Rattle.outside.specs.Site.{AsksNothing}
use Rattle.site_config.specs.Configuration.{config_of_bytes}
use Rattle.site_config.specs.declared.config.Config.{Config}
use Rattle.site_config.specs.declared.fault.ConfigFault.{ConfigFault}
use Rattle.site_config.specs.recorded.Asked.{names_in}
use Rattle.status.specs.config_reading.Reading.{MeansAs, IsRefusal}
use Rattle.status.specs.declared.status.Status.{Status}
use Rattle.status.specs.declared.status.Status.TheVariants.{Done, Usage, Config as BadConfig, ReadFault, WriteFault, OutOfMemory}
use Rattle.status.specs.fault_lines.FaultLine.{fault_line, name_by}
use Rattle.status.specs.Shown.{Shown, Tells, line_for}
use Rattle.status.proofs.on_config_reading.Refusing.{by_refusal}
use Rattle.status.proofs.on_fault_lines.Refused.{line_same}
use Rattle.file_commands.specs.sheet_command.Sheet.{sheet_answer, MayAnswer, Prints, SheetAsks}
use Rattle.file_commands.specs.sheet_command.SheetRun.{SheetRuns}
use Rattle.file_commands.proofs.on_sheet_command.Asking.{unread_asks}

abbrev pub IsUnprinted : Status → Type 0
IsUnprinted Done = ⊥
IsUnprinted WriteFault = ⊥
IsUnprinted Usage = ⊥
IsUnprinted status = Unit {0}

module _ (before after : Shown) (s : Status) where
  pub left_unprinted : (line : List ℕ) → IsUnprinted s → ((text old new : List ℕ) → new ≡ old → Prints s text old new)
      → ((asked : Status) → MayAnswer asked s → s ≢ ReadFault → (s ≡ asked) ⊎ (s ≡ OutOfMemory)) → (before.config_tells → line ≡ line_for before s)
      → (before.station_tells → Tells line before after)
      → (before.station_tells → CountRose before.station_faults after.station_faults ⊎ (after.told ≡ before.told ++ line ∷ []))
      → after.written ≡ before.written
      → (before.site_tells → before.config_tells → MayAnswer (sheet_answer (config_of_bytes before.config) before.files) s)
      → (s ≡ ReadFault → CountRose before.config_faults after.config_faults ⊎ CountRose before.site_faults after.site_faults)
      → (s ≢ ReadFault → after.site_faults ≡ before.site_faults)
      → (before.config_tells → SheetAsks s before.names_asked after.names_asked (names_in (config_of_bytes before.config)))
      → SheetRuns before after s
  left_unprinted line left prints complete is told ends written may cause none asks = record {
    prints = λ o t c config reads. prints _ before.written after.written written;
    nothing = λ o d w. written;
    quiet = λ k c. subst (λ (l : List ℕ). Tells l before after) (is c) (told k);
    silent = λ k done. absurd (subst IsUnprinted done left);
    last = λ k c other. ⊎_elim (λ rose. inl rose)
        (λ last. inr (before.told, last ∙ ap (λ (l : List ℕ). before.told ++ l ∷ []) (is c))) (ends k);
    named = λ usage. subst IsUnprinted usage left;
    answer_is = may;
    complete = λ t c source site out. complete _ (may t c) (λ e. ⊎_elim source site (cause e));
    read = cause;
    steady = none;
    write = λ e. absurd (subst IsUnprinted e left);
    asked = asks;
  }

  pub left_unread : IsRefusal s → (before.station_tells → Tells (fault_line s []) before after)
      → (before.station_tells → CountRose before.station_faults after.station_faults ⊎ (after.told ≡ before.told ++ fault_line s [] ∷ []))
      → after.written ≡ before.written
      → AsksNothing before.names_asked after.names_asked → (before.config_tells → MeansAs (config_of_bytes before.config) (Err s))
      → (s ≡ ReadFault → CountRose before.config_faults after.config_faults) → after.site_faults ≡ before.site_faults
      → SheetRuns before after s
  left_unread is told ends written asked means cause none =
      let read = config_of_bytes before.config in
      left_unprinted (fault_line s []) (by_refusal IsUnprinted (λ f. tt) tt tt s is)
      (by_refusal (λ x. (text old new : List ℕ) → new ≡ old → Prints x text old new) (λ f t o n e. e) (λ t o n e. e) (λ t o n e. e) s is)
      (by_refusal (λ x. (asked : Status) → MayAnswer asked x → x ≢ ReadFault → (x ≡ asked) ⊎ (x ≡ OutOfMemory)) (λ f a m r. inl m)
      (λ a m r. absurd (r refl)) (λ a m r. inr refl) s is)
      (λ c. line_same s is [] (name_by read s)) told ends
      written
      (λ t c. by_refusal (λ x. MeansAs read (Err x) → MayAnswer (sheet_answer read before.files) x)
      (λ f m. subst (λ (r : Result Config ConfigFault). BadConfig f ≡ sheet_answer r before.files) (sym m) refl) (λ m. tt) (λ m. tt) s is
      (means c))
      (λ e. inl (cause e)) (λ other. none) (λ c. unread_asks before.names_asked after.names_asked (names_in read) asked s is)
