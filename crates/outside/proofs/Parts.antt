-- A text that is put in two parts, of which one failed.
use Rattle.std.specs.Prelude.{◌≡◌, ℕ, ◌+◌, List, ◌++◌, length, take}
use Rattle.std.proofs.Common.{min, sym, ap, ◌∙◌, arith, append_assoc}
use Rattle.std.proofs.lemmas.List.{take-append-le, take_min}
use Rattle.std.proofs.Math.Seq.{take-append-add}
use Rattle.outside.specs.Sink.{AppendsPrefix}

pub first_part_front : (old new first second : List ℕ) → AppendsPrefix old new first → AppendsPrefix old new (first ++ second)
first_part_front old new first second (j, is) =
    let few = min j (length first) in (
      few,
      is ∙ ap (λ l. old ++ l) (sym (take-append-le few first second (omega arith) ∙ take_min j first)),
    )

pub second_part_front : (old mid new first second : List ℕ) → mid ≡ old ++ first → AppendsPrefix mid new second
    → AppendsPrefix old new (first ++ second)
second_part_front old mid new first second whole (j, is) = (
  length first + j,
  is ∙ (ap (λ l. l ++ take j second) whole
      ∙ (append_assoc old first (take j second) ∙ ap (λ l. old ++ l) (sym (take-append-add first second j)))),
)
