-- Facts that hold whatever a call gave.
use Rattle.std.proofs.Common.{◌≡◌, ℕ, Bool, true, false, if◌then◌else◌, List, [], ◌∷◌, ◌++◌, refl, sym, ap, ◌∙◌, append-nil}
use Rattle.std.specs.Prelude.{Result, Ok, Err, OnErr, None, Some, IsNone, ◌↔◌, Option}
use Rattle.std.specs.Option.{option_or}
use Rattle.lemmas.proofs.Lists.{longer}

pub on_err : {T E : Type 0} (r : Result T E) {P : Type 0} → P → OnErr r P
on_err (Ok x) p = record {}
on_err (Err e) p = p

-- what an option gives makes a list longer or leaves it
pub none_given : {given d : List ℕ} → given ++ [] ≡ d → IsNone {T = ℕ} None ↔ (d ≡ given)
none_given {given} {d} e = (λ n. sym e ∙ append-nil given, λ f. refl)

pub one_given : {given d : List ℕ} (x : ℕ) → given ++ (x ∷ []) ≡ d → IsNone (Some x) ↔ (d ≡ given)
one_given {given} {d} x e = (λ n. absurd (cc), λ f. absurd (longer given x (e ∙ f)))

-- nothing is given exactly where neither of two options gives a thing
pub both_none : {A : Type 0} (a b : Option A) → option_or a b ≡ None → (a ≡ None) × (b ≡ None)
both_none None b e = (refl, e)
both_none (Some x) b e = absurd cc

pub none_both : {A : Type 0} (a b : Option A) → a ≡ None → b ≡ None → option_or a b ≡ None
none_both a b e f = ap (λ o. option_or o b) e ∙ f

-- nothing is given behind a test that was passed
pub none_passed : {A : Type 0} (b : Bool) (o : Option A) (x : A) → (if b then o else Some x) ≡ None → (b ≡ true) × (o ≡ None)
none_passed true o x e = (refl, e)
none_passed false o x e = absurd cc

-- what an option or a result gives is one thing
pub same_some : {A : Type 0} {o : Option A} {a b : A} → o ≡ Some a → o ≡ Some b → a ≡ b
same_some e f = cc

pub same_ok : {A E : Type 0} {r : Result A E} {a b : A} → r ≡ Ok a → r ≡ Ok b → a ≡ b
same_ok e f = cc
