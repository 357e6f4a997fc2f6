-- Which files were asked for, by what an answer comes of.
--   refused_asks       the store is refused
--   opening_asks       a recording is refused
--   ending_asks        all were opened
--   asks_then_none     the same when the sources were given back
use Rattle.std.proofs.Common.{◌≡◌, ◌+◌, ℕ, List, inl, inr, ⊎_elim, length, take, sym, subst, arith}
use Rattle.std.proofs.lemmas.List.{take_all}
use Rattle.std.specs.Prelude.{Err}
use Rattle.outside.specs.Site.{Asked, Asks, AsksNothing}
use Rattle.outside.proofs.Asked.{asks_no_more}
use Rattle.segment_store.specs.declared.fault.ResumeFault.{ResumeFault}
use Rattle.site_config.proofs.on_recorded.Asking.{first_then_none}
use Rattle.site_lanes.specs.Answers.{IsOpening}
use Rattle.site_lanes.specs.Asked.{OpeningAsks}
use Rattle.status.specs.Refused.{store_status}
use Rattle.status.specs.declared.status.Status.{Status}
use Rattle.status.specs.declared.status.Status.TheVariants.{Done, Usage, Config as BadConfig, Store as BadStore, Recording, Torn, ReadFault, WriteFault, DiskFault, OutOfMemory, TooLong, Differs}
use Rattle.status.proofs.AnswerCases.{by_store_status}
use Rattle.count_command.specs.Answer.{IsEnding}
use Rattle.count_command.specs.Asked.{CountAsks}

-- nothing was asked for
module _ (a : Asked) (names : List (List ℕ)) where
  nothing : AsksNothing a a
  nothing = λ before has. has

  pub refused_asks : (s : Status) (f : ResumeFault) → s ≡ store_status f → CountAsks s a a names
  refused_asks s f is = subst (λ (x : Status). CountAsks x a a names) (sym is)
      (by_store_status (λ (x : Status). CountAsks x a a names) (λ fault. nothing) (inl nothing) (inl nothing) f)

module _ (a b : Asked) (names : List (List ℕ)) where
  pub opening_asks : (s : Status) → IsOpening s → OpeningAsks (Err s) a b names → CountAsks s a b names
  opening_asks (Recording g f) is asks = asks
  opening_asks ReadFault is asks = asks
  opening_asks Done is asks = absurd is
  opening_asks Usage is asks = absurd is
  opening_asks (BadConfig f) is asks = absurd is
  opening_asks (BadStore f) is asks = absurd is
  opening_asks (Torn g bytes) is asks = absurd is
  opening_asks WriteFault is asks = absurd is
  opening_asks DiskFault is asks = absurd is
  opening_asks OutOfMemory is asks = absurd is
  opening_asks (TooLong g) is asks = absurd is
  opening_asks (Differs g what held found) is asks = absurd is

  pub ending_asks : (s : Status) → IsEnding s → Asks a b names → CountAsks s a b names
  ending_asks Done is asks = asks
  ending_asks WriteFault is asks = asks
  ending_asks (Torn g bytes) is asks = asks
  ending_asks (TooLong g) is asks = asks
  ending_asks ReadFault is asks = (
    length names,
    omega arith,
    subst (λ (l : List (List ℕ)). Asks a b l) (sym (take_all (length names) names (omega arith))) asks,
  )
  ending_asks DiskFault is asks = inr asks
  ending_asks OutOfMemory is asks = inr asks
  ending_asks Usage is asks = absurd is
  ending_asks (BadConfig f) is asks = absurd is
  ending_asks (BadStore f) is asks = absurd is
  ending_asks (Recording g f) is asks = absurd is
  ending_asks (Differs g what held found) is asks = absurd is

  pub asks_then_none : (d : Asked) (s : Status) → CountAsks s a b names → AsksNothing b d → CountAsks s a d names
  asks_then_none d (BadConfig f) asks none = λ before has. none before (asks before has)
  asks_then_none d (BadStore f) asks none = λ before has. none before (asks before has)
  asks_then_none d (Recording g f) asks none = (asks.0, asks_no_more a b d (take (g + 1) names) asks.1 none)
  asks_then_none d ReadFault asks none = first_then_none a b d names asks none
  asks_then_none d DiskFault asks none =
      ⊎_elim (λ was. inl (λ before has. none before (was before has))) (λ all. inr (asks_no_more a b d names all none)) asks
  asks_then_none d OutOfMemory asks none =
      ⊎_elim (λ was. inl (λ before has. none before (was before has))) (λ all. inr (asks_no_more a b d names all none)) asks
  asks_then_none d Done asks none = asks_no_more a b d names asks none
  asks_then_none d Usage asks none = asks_no_more a b d names asks none
  asks_then_none d (Torn g bytes) asks none = asks_no_more a b d names asks none
  asks_then_none d WriteFault asks none = asks_no_more a b d names asks none
  asks_then_none d (TooLong g) asks none = asks_no_more a b d names asks none
  asks_then_none d (Differs g what held found) asks none = asks_no_more a b d names asks none
