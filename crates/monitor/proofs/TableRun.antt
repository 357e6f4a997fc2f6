-- What holds of the text of a file.
use Rattle.std.proofs.Common.{◌≡◌, ℕ, List, sym, subst}
use Rattle.std.specs.Prelude.{Option, Some, option_map, IsSomeAnd}
use Rattle.monitor.specs.Printed.{text_of}

-- what holds of the text of a file holds of what a name has
pub text_for : (held : Option (List ℕ)) (file : List ℕ) (P : List ℕ → Type 0) → held ≡ Some file → P (text_of file) →
    IsSomeAnd (option_map text_of held) P
text_for held file P is p = subst (λ (h : Option (List ℕ)). IsSomeAnd (option_map text_of h) P) (sym is) p
