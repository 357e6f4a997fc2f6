-- What holds of each level of a list holds of each that deletions leave.
use Rattle.std.proofs.Common.{ℕ, List, ◌∷◌}
use Rattle.std.specs.Prelude.{All}
use Rattle.std.proofs.lemmas.List.Elements.{All-cons, All-head, All-tail}
use Rattle.turning_points.specs.Pairs.{Pair}
use Rattle.four_point.proofs.Drops.{Drops, here, past}
use Rattle.four_point.proofs.Chain.{Chain, done, more}

All-drops : (P : ℕ → Type 0) {l m : List ℕ} {x : Pair} → Drops l x m → All P l → All P m
All-drops P (here {a} {b} {c} {d} {q} p) s =
    let t = All-tail P b (c ∷ d ∷ q) (All-tail P a (b ∷ c ∷ d ∷ q) s) in
    All-cons P a (d ∷ q) (All-head P a (b ∷ c ∷ d ∷ q) s) (All-tail P c (d ∷ q) t)
All-drops P (past h {l} {x} {m} e) s = All-cons P h m (All-head P h l s) (All-drops P e (All-tail P h l s))

pub All-chain : (P : ℕ → Type 0) {l m : List ℕ} {xs : List Pair} → Chain l xs m → All P l → All P m
All-chain P done s = s
All-chain P (more d c) s = All-chain P c (All-drops P d s)
