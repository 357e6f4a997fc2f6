-- The line that is told after a run that reads.
--   last_after   it was told, or the count of faults rose
use Rattle.std.proofs.Common.{◌≡◌, ◌≤◌, ◌⊎◌, inl, inr, ⊎_elim, ℕ, List, [], ◌∷◌, ◌++◌, ◌∙◌, ap}
use Rattle.outside.specs.Fault.{CountRose}
use Rattle.outside.proofs.Faults.{rose_before}
use Rattle.outside.specs.station.Station.{Lines}

pub last_after : (a b c : ℕ) (told told2 told3 : Lines) (line : List ℕ) → a ≤ b → told2 ≡ told → CountRose b c
    ⊎ (told3 ≡ told2 ++ line ∷ [])
    → CountRose a c ⊎ (told3 ≡ told ++ line ∷ [])
last_after a b c told told2 told3 line le same h =
    ⊎_elim {C = CountRose a c ⊎ (told3 ≡ told ++ line ∷ [])} (λ rose. inl (rose_before a b c le rose))
    (λ more. inr (more ∙ ap (λ (l : Lines). l ++ line ∷ []) same)) h
