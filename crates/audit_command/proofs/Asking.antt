-- Which files were asked for, by what an answer comes of.
--   recounting_asks, other_asks  a recording, or a difference
--   recounted_own                a gauge's refusal is its own
use Rattle.std.proofs.Common.{◌≡◌, ℕ, List, refl, sym, subst}
use Rattle.std.specs.Prelude.{Err}
use Rattle.outside.specs.Site.{Asked, Asks}
use Rattle.recount.specs.declared.count.RecountFault.{RecountFault}
use Rattle.recount.specs.declared.count.RecountFault.TheVariants as recount
use Rattle.site_lanes.specs.Asked.{IsOfGauge, OpeningAsks}
use Rattle.status.specs.declared.status.Status.{Status}
use Rattle.audit_command.specs.Asked.{AuditAsks}
use Rattle.audit_command.specs.Audited.{IsOther}
use Rattle.audit_command.specs.Recounted.{IsRecounting, recounted_status}
use Rattle.audit_command.proofs.Ended.{by_recounting, by_other}

module _ (a b : Asked) (names : List (List ℕ)) where
  pub recounting_asks : (s : Status) → IsRecounting s → OpeningAsks (Err s) a b names → AuditAsks s a b names
  recounting_asks = by_recounting (λ (x : Status). OpeningAsks (Err x) a b names → AuditAsks x a b names)
      (λ g f asks. asks) (λ asks. asks) (λ asks. asks)

  pub other_asks : (s : Status) → IsOther s → Asks a b names → AuditAsks s a b names
  other_asks s is asks = by_other (λ (x : Status). AuditAsks x a b names) (λ g what held found. asks) s is

own : (g held : ℕ) (f : RecountFault) → IsOfGauge g (recounted_status g held f)
own g held (recount.Fewer there) = refl
own g held recount.ReadFault = tt
own g held recount.OutOfMemory = tt

pub recounted_own : (g held : ℕ) (f : RecountFault) (s : Status) → s ≡ recounted_status g held f → IsOfGauge g s
recounted_own g held f s is = subst (IsOfGauge g) (sym is) (own g held f)
