-- Units that fit, in a list.
use Rattle.std.proofs.Common.{◌≡◌, ◌<◌, ◌-◌, ◌+◌, ℕ, List, [], ◌∷◌, ◌++◌, take, length, get_or, subst, sym, ◌∙◌, arith, Option, Some, None, MatchOption}
use Rattle.std.specs.Prelude.{IfSome}
use Rattle.std.specs.List.{All}
use Rattle.calibration.specs.Grid.{GridValue}
use Rattle.std.proofs.lemmas.List.Elements.{All-push, All-take}
use Rattle.board.specs.block_pool.Units.{BlankValue, IsBlank}

pub all_push : (b : ℕ) (g : GridValue) (xs ys : List BlankValue) (x : BlankValue) → All (IsBlank b g) xs → IsBlank b g x
    → ys ≡ xs ++ x ∷ [] → All (IsBlank b g) ys
all_push b g xs ys x a p e = subst (All (IsBlank b g)) (sym e) (All-push (IsBlank b g) xs x a p)

pub all_take : (b : ℕ) (g : GridValue) (n : ℕ) (xs ys : List BlankValue) → All (IsBlank b g) xs → ys ≡ take n xs → All (IsBlank b g) ys
all_take b g n xs ys a e = subst (All (IsBlank b g)) (sym e) (All-take (IsBlank b g) n xs a)

pub fits_by : (b : ℕ) (g : GridValue) (c : ℕ) (d : GridValue) (u : BlankValue) → b ≡ c → g ≡ d → IsBlank c d u → IsBlank b g u
fits_by b g c d u e f h = record { block = h.block ∙ sym e; grid = h.grid ∙ sym f }

-- the last of units that fit
pub last_fits : (b : ℕ) (g : GridValue) (c : ℕ) (d : GridValue) (n k : ℕ) (xs : List BlankValue) (o : Option BlankValue) → c ≡ b → d ≡ g
    → n ≡ length xs
    → All (IsBlank c d) xs → ((u : BlankValue) → 0 < n → o ≡ Some (get_or xs (n - 1) u))
    → MatchOption o ((n ≡ 0) × (k ≡ 0)) (λ u. k + 1 ≡ n) → IfSome o (IsBlank b g)
last_fits b g c d n k xs None e f l a v m = tt
last_fits b g c d n k xs (Some u) e f l a v m =
    let more : k + 1 ≡ n = m in
    let is : Some u ≡ Some (get_or xs (n - 1) u) = v u (omega (arith, more)) in
    let same : get_or xs (n - 1) u ≡ u = cc in
    let at : IsBlank c d (get_or xs (n - 1) u) = a (n - 1) u (omega (arith, l, more)) in
    fits_by b g c d u (sym e) (sym f) (subst (IsBlank c d) same at)
