-- What is told of a configuration that is refused: no gauge is named.
use Rattle.std.proofs.Common.{◌≡◌, List, ℕ, refl}
use Rattle.status.specs.declared.status.Status.{Status}
use Rattle.status.specs.config_reading.Reading.{IsRefusal}
use Rattle.status.proofs.on_config_reading.Refusing.{by_refusal}
use Rattle.status.specs.fault_lines.FaultLine.{fault_line}

pub line_same : (s : Status) → IsRefusal s → (a b : List ℕ) → fault_line s a ≡ fault_line s b
line_same s is a b = by_refusal (λ (x : Status). fault_line x a ≡ fault_line x b) (λ f. refl) refl refl s is
