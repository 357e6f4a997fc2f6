-- A run of `init` that left the store as it was.
--   left_unmade   at most this line was told, which is that of the answer
--   left_unread   the configuration was refused, or memory ran out before it was read
use Rattle.std.proofs.Common.{◌≡◌, ◌≢◌, ◌⊎◌, inl, inr, ⊎_elim, List, [], ◌∷◌, ◌++◌, ℕ, length, ap, ◌∙◌, subst, arith}
use Rattle.std.specs.Prelude.{Err}
use Rattle.outside.specs.Fault.{CountRose}
use Rattle.outside.specs.Site.{AsksNothing}
use Rattle.site_config.specs.Configuration.{config_of_bytes}
use Rattle.site_config.specs.recorded.Asked.{names_in}
use Rattle.status.specs.config_reading.Reading.{MeansAs, IsRefusal}
use Rattle.status.specs.declared.status.Status.{Status}
use Rattle.status.specs.declared.status.Status.TheVariants.{ReadFault}
use Rattle.status.specs.fault_lines.FaultLine.{fault_line, name_by}
use Rattle.status.specs.Shown.{Shown, Tells, line_for}
use Rattle.status.proofs.on_config_reading.Refusing.{by_refusal}
use Rattle.status.proofs.on_fault_lines.Refused.{line_same}
use Rattle.init_command.specs.Asked.{InitAsks}
use Rattle.init_command.specs.Init.{InitAnswers, IsInit, IsUnmade}
use Rattle.init_command.specs.InitRun.{InitRuns}
use Rattle.init_command.proofs.Asking.{unread_asks}
use Rattle.init_command.proofs.AnswerCases.{init_complete}
use Rattle.init_command.proofs.MakingMoments.{last_alone}

module _ (before after : Shown) (s : Status) where
  pub left_unmade : (line : List ℕ) → IsUnmade s → IsInit s → (before.station_tells → before.leaves before.seen)
      → (before.config_tells → line ≡ line_for before s) → (before.station_tells → Tells line before after)
      → (before.station_tells → CountRose before.station_faults after.station_faults ⊎ (after.told ≡ before.told ++ line ∷ []))
      → (before.station_tells → before.site_tells → before.config_tells →
      InitAnswers (config_of_bytes before.config) before.files before.seen s)
      → (s ≡ ReadFault → CountRose before.config_faults after.config_faults ⊎ CountRose before.site_faults after.site_faults)
      → (s ≢ ReadFault → after.site_faults ≡ before.site_faults)
      → (before.config_tells → InitAsks s before.names_asked after.names_asked (names_in (config_of_bytes before.config)))
      → InitRuns before after s
  left_unmade line unmade kind counts is told ends answers cause none asks =
      let tells : before.station_tells → before.config_tells → Tells (line_for before s) before after = λ k c. rw (← is c) (told k) in
      record {
        made = λ k t c config is done. absurd (subst IsUnmade done unmade);
        told = λ k c config is done. absurd (subst IsUnmade done unmade);
        any_moment = λ k t c config reads empty. last_alone config before.files before.told (line_for before s) before.clock after.clock
            before.moments after.moments before.leaves empty (tells k c).run;
        ended = λ k t c config reads empty. inl (
          (tells k c).told_at_most,
          inl (omega (arith, empty before.seen (counts k), ap length (tells k c).seen_same)),
        );
        unmade = λ k c u. tells k c;
        quiet = λ k c some. tells k c;
        last = λ k c other. ⊎_elim (λ rose. inl rose)
            (λ last. inr (before.told, last ∙ ap (λ (l : List ℕ). before.told ++ l ∷ []) (is c))) (ends k);
        answer_is = answers;
        complete = λ k t c config reads sound empty source site station.
            init_complete (config_of_bytes before.config) config before.files before.seen reads sound empty s (answers k t c)
            (λ e. ⊎_elim source site (cause e)) (λ e. absurd (subst IsUnmade e unmade));
        kind = kind;
        read = cause;
        steady = none;
        disk = λ e. absurd (subst IsUnmade e unmade);
        asked = asks;
      }

  pub left_unread : IsRefusal s → (before.station_tells → before.leaves before.seen)
      → (before.station_tells → Tells (fault_line s []) before after)
      → (before.station_tells → CountRose before.station_faults after.station_faults ⊎ (after.told ≡ before.told ++ fault_line s [] ∷ []))
      → AsksNothing before.names_asked after.names_asked → (before.config_tells → MeansAs (config_of_bytes before.config) (Err s))
      → (s ≡ ReadFault → CountRose before.config_faults after.config_faults) → after.site_faults ≡ before.site_faults
      → InitRuns before after s
  left_unread is counts told ends asked means cause none =
      let read = config_of_bytes before.config in
      let kinds = by_refusal (λ x. IsUnmade x × IsInit x) (λ f. (tt, tt)) (tt, tt) (tt, tt) s is in
      left_unmade (fault_line s []) kinds.0 kinds.1 counts (λ c. line_same s is [] (name_by read s)) told ends
      (λ k t c. by_refusal (λ x. MeansAs read (Err x) → InitAnswers read before.files before.seen x) (λ f m. m) (λ m. tt) (λ m. tt) s
      is (means c))
      (λ e. inl (cause e)) (λ other. none) (λ c. unread_asks before.names_asked after.names_asked (names_in read) asked s is)
