-- What goes on between two blocks, from one time to the next.
use Rattle.std.proofs.Common.{◌≡◌, ◌⊎◌, inl, inr, ◌<◌, ◌+◌, ℕ, List, [], length, get_or, set, vec_len, refl, sym, ap, ◌∙◌, subst, arith}
use Rattle.std.proofs.lemmas.List.{get_or-set_same, get_or-set_other}
use Rattle.std.proofs.lemmas.Bool.{cases_eq}
use Rattle.std.specs.List.{All}
use Rattle.count_workers.specs.declared.block_workers.worker.Worker.{Worker}
use Rattle.count_workers.specs.block_workers.Working.{HandsOver, CanWork, WorksOn}
use Rattle.count_workers.specs.declared.collector.collecting.Return.{Return}
use Rattle.count_workers.specs.declared.collector.depot.Depot.{Depot}
use Rattle.count_workers.specs.running.Going.{CanGoOn, GoesOn}
use Rattle.count_workers.proofs.on_block_workers.Steps.{worked_hands}

-- one more of a list was done
pub done_more : {A : Type 0} → (R : A → A → Type 0) (xs ys : List A) (k : ℕ) (y : A) → k < length ys
    → ((u : ℕ) (d : A) → u < k → R (get_or xs u d) (get_or ys u d)) → ((d : A) → R (get_or xs k d) y)
    → (u : ℕ) (d : A) → u < k + 1 → R (get_or xs u d) (get_or (set ys k y) u d)
done_more R xs ys k y l done new u d m = by (cases_eq u k)
  where
    by : ((u ≡ k) ⊎ (u ≡ k → ⊥)) → R (get_or xs u d) (get_or (set ys k y) u d)
    by (inl e) = subst (λ i. R (get_or xs i d) (get_or (set ys k y) i d)) (sym e)
        (subst (R (get_or xs k d)) (sym (get_or-set_same ys k y d l)) (new d))
    by (inr o) = subst (R (get_or xs u d)) (sym (get_or-set_other ys k u y d o)) (done u d (omega (arith, m, o)))

pub works_same : (w : Worker) → WorksOn w w
works_same w = record { takers = refl; on = λ first h. h }

pub works_both : (a b c : Worker) → WorksOn a b → WorksOn b c → WorksOn a c
works_both a b c h k = record { takers = k.takers ∙ h.takers; on = λ first x. k.on first (h.on first x) }

pub works_hands : (w now : Worker) → HandsOver w now [] → WorksOn w now
works_hands w now o = record { takers = ap (λ t. vec_len t) o.takers; on = λ first h. worked_hands first w now h o }

pub can_still : (ws vs : List Worker) → length vs ≡ length ws → ((v : ℕ) (d : Worker) → WorksOn (get_or ws v d) (get_or vs v d))
    → All CanWork ws → All CanWork vs
can_still ws vs e h can = λ v d m. (
    let t = (h v d).takers in let few = (can v d (omega (arith, m, e))).takers in record { takers = omega (arith, t, few) })

pub goes_same : (ws : List Worker) (d : Depot) (rs : List Return) → CanGoOn ws d → GoesOn ws ws d d rs rs
goes_same ws d rs h = record { long = refl; work = λ v w. works_same (get_or ws v w); collects = λ b p old k. k; can = h }

pub goes_both : (us vs ws : List Worker) (c d e : Depot) (qs rs ss : List Return) → GoesOn us vs c d qs rs → GoesOn vs ws d e rs ss
    → GoesOn us ws c e qs ss
goes_both us vs ws c d e qs rs ss h k = record {
  long = k.long ∙ h.long;
  work = λ v w. works_both (get_or us v w) (get_or vs v w) (get_or ws v w) (h.work v w) (k.work v w);
  collects = λ b p old x. k.collects b p old (h.collects b p old x);
  can = k.can;
}
