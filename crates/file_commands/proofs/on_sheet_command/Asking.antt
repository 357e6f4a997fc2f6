-- Which files `sheet` asked for, by what its answer comes of.
--   unread_asks     the configuration is refused
--   by_read         what holds of each answer for a recording
--   reading_asks    a recording
--   printing_asks   all recordings were read
--   given_own       a gauge's refusal is its own
use Rattle.std.proofs.Common.{◌≡◌, ◌+◌, ℕ, List, length, refl, sym, subst, arith}
use Rattle.std.proofs.lemmas.List.{take_all}
use Rattle.outside.specs.Site.{Asked, Asks, AsksNothing}
use Rattle.site_config.specs.recorded.Asked.{AsksFirst}
use Rattle.site_config.proofs.on_recorded.Asking.{none_is_first}
use Rattle.status.specs.config_reading.Reading.{IsRefusal}
use Rattle.status.specs.declared.status.RecordingFault.{RecordingFault}
use Rattle.status.specs.declared.status.Status.{Status}
use Rattle.status.specs.declared.status.Status.TheVariants.{Done, Usage, Config, Store, Recording, Torn, ReadFault, WriteFault, DiskFault, OutOfMemory, TooLong, Differs}
use Rattle.status.proofs.on_config_reading.Refusing.{by_refusal}
use Rattle.file_commands.specs.file_tasks.Answer.{IsPrintingOrNoMemory, refused_status}
use Rattle.file_commands.specs.declared.file_tasks.refusal.Refusal.{Refusal}
use Rattle.file_commands.specs.declared.file_tasks.refusal.Refusal.TheVariants as refusal
use Rattle.file_commands.proofs.on_file_tasks.Answering.{by_printed}
use Rattle.file_commands.specs.sheet_command.Sheet.{IsReadStatus, IsOfGauge, AsksUpTo, SheetAsks}

pub unread_asks : (a b : Asked) (names : List (List ℕ)) → AsksNothing a b → (s : Status) → IsRefusal s → SheetAsks s a b names
unread_asks a b names none =
    by_refusal (λ (x : Status). SheetAsks x a b names) (λ f. none) (none_is_first a b names none) (none_is_first a b names none)

pub given_own : (g : ℕ) (r : Refusal) → IsOfGauge g (refused_status g r)
given_own g (refusal.Head fault) = refl
given_own g (refusal.Torn bytes) = refl
given_own g refusal.TooLong = refl
given_own g refusal.ReadFault = tt
given_own g refusal.OutOfMemory = tt

pub by_read : (P : Status → Type 0) → ((g : ℕ) (f : RecordingFault) → P (Recording g f)) → ((g bytes : ℕ) → P (Torn g bytes)) →
    ((g : ℕ) → P (TooLong g)) → P ReadFault → P OutOfMemory → (s : Status) → IsReadStatus s → P s
by_read P f t l r m (Recording g fault) kind = f g fault
by_read P f t l r m (Torn g bytes) kind = t g bytes
by_read P f t l r m (TooLong g) kind = l g
by_read P f t l r m ReadFault kind = r
by_read P f t l r m OutOfMemory kind = m
by_read P f t l r m Done kind = absurd kind
by_read P f t l r m Usage kind = absurd kind
by_read P f t l r m (Config fault) kind = absurd kind
by_read P f t l r m (Store fault) kind = absurd kind
by_read P f t l r m WriteFault kind = absurd kind
by_read P f t l r m DiskFault kind = absurd kind
by_read P f t l r m (Differs g what held found) kind = absurd kind

module _ (a b : Asked) (names : List (List ℕ)) where
  -- the gauge was the last
  module _ (g : ℕ) (up : AsksUpTo g a b names) where
    own : (h : ℕ) → h ≡ g → AsksUpTo h a b names
    own h is = subst (λ (n : ℕ). AsksUpTo n a b names) (sym is) up

    first : AsksFirst a b names
    first = (g + 1, omega (arith, up.0), up.1)

    pub reading_asks : (s : Status) → IsReadStatus s → IsOfGauge g s → SheetAsks s a b names
    reading_asks = by_read (λ (x : Status). IsOfGauge g x → SheetAsks x a b names) (λ h f is. own h is) (λ h bytes is. own h is)
        (λ h is. own h is) (λ is. first) (λ is. first)

  pub printing_asks : Asks a b names → (s : Status) → IsPrintingOrNoMemory s → SheetAsks s a b names
  printing_asks asks = by_printed (λ (x : Status). SheetAsks x a b names) asks asks (
    length names,
    omega arith,
    subst (λ (l : List (List ℕ)). Asks a b l) (sym (take_all (length names) names (omega arith))) asks,
  )
