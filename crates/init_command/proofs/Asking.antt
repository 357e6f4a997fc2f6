-- Which files were asked for, by what an answer comes of.
--   unread_asks   the configuration is refused
--   head_asks     the head of a recording
--   making_asks   all heads were read
use Rattle.std.proofs.Common.{◌<◌, ◌+◌, ℕ, List, inl, inr, length, take, sym, subst, arith}
use Rattle.outside.specs.Site.{Asked, Asks, AsksNothing}
use Rattle.site_config.proofs.on_recorded.Asking.{none_is_first}
use Rattle.status.specs.config_reading.Reading.{IsRefusal}
use Rattle.status.specs.declared.status.Status.{Status}
use Rattle.status.proofs.on_config_reading.Refusing.{by_refusal}
use Rattle.init_command.specs.Asked.{InitAsks}
use Rattle.init_command.specs.Heads.{IsHeadStatus}
use Rattle.init_command.specs.Making.{IsMaking}
use Rattle.init_command.proofs.AnswerCases.{by_making}
use Rattle.init_command.proofs.Reading.{by_heads, heads_status}

pub unread_asks : (a b : Asked) (names : List (List ℕ)) → AsksNothing a b → (s : Status) → IsRefusal s → InitAsks s a b names
unread_asks a b names none = by_refusal (λ (x : Status). InitAsks x a b names) (λ f. none) (none_is_first a b names none) (inl none)

module _ (a b : Asked) (names : List (List ℕ)) where
  -- the gauge was the last
  pub head_asks : (g : ℕ) → g < length names → Asks a b (take (g + 1) names) → (s : Status) → IsHeadStatus g s → InitAsks s a b names
  head_asks g lt asks s is = by_heads (λ (x : Status). IsHeadStatus g x → InitAsks x a b names)
      (λ h f same. subst (λ (n : ℕ). (n < length names) × Asks a b (take (n + 1) names)) (sym same) (lt, asks))
      (λ same. (g + 1, omega (arith, lt), asks)) (λ no. absurd no) s (heads_status g s is) is

  pub making_asks : Asks a b names → (s : Status) → IsMaking s → InitAsks s a b names
  making_asks asks = by_making (λ (x : Status). InitAsks x a b names) asks (λ n. asks) asks (inr asks)
