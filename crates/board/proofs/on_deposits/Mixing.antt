-- What is known of a mix of the workers' lists.
use Rattle.std.proofs.Common.{◌≡◌, ◌≢◌, ◌⊎◌, inl, inr, ◌<◌, ◌+◌, ℕ, List, [], ◌∷◌, ◌++◌, ◌≤◌, length, map, length-append, refl, sym, ap, ◌∙◌, subst, arith, Bool, true, false, cond}
use Rattle.std.specs.List.{filter}
use Rattle.std.proofs.lemmas.Bool.{cases_eq}
use Rattle.std.proofs.lemmas.List.{append-nil}
use Rattle.segment.specs.declared.segment_rules.name.Name.{Name}
use Rattle.board.specs.flow.Flow.{hits_of_name, hits, with_value}
use Rattle.board.specs.flow.Kept.{over, Each}
use Rattle.board.proofs.on_flow.Counting.{over_one, over_none, hits-append, changed_same, changed_other, each_append}
use Rattle.board.specs.flow.Kept.Each.{none, both}
use Rattle.board.specs.deposits.Mixed.{IsMixOf}
use Rattle.board.proofs.on_deposits.Going.{each_before}
use Rattle.board.specs.deposits.Mixed.IsMixOf.{nothing, next}

-- a sample is named as often as in all the workers' lists
pub mixed_hits : (n g i : ℕ) (f : ℕ → List Name) (l : List Name) → IsMixOf n f l → hits g i l ≡ over n (λ v. hits g i (f v))
mixed_hits n g i f [] (nothing e) = sym (over_none n (λ v. hits g i (f v)) (λ v m. ap (hits g i) (e v)))
mixed_hits n g i h _ (next {f = f} {l = l} x v m k same others) =
    let before : hits g i l ≡ over n (λ u. hits g i (f u)) = mixed_hits n g i f l k in
    let more : hits g i (l ++ x ∷ []) ≡ hits g i l + (hits_of_name g i x + 0) = hits-append g i l (x ∷ []) in
    let here : hits g i (h v) ≡ hits g i (f v) + (hits_of_name g i x + 0) = ap (hits g i) same ∙ hits-append g i (f v) (x ∷ []) in
    let one : over n (λ u. hits g i (h u)) + hits g i (f v) ≡ over n (λ u. hits g i (f u)) + hits g i (h v) =
    over_one n v (λ u. hits g i (h u)) (λ u. hits g i (f u)) m (λ u d. ap (hits g i) (others u d)) in
    omega (arith, before, more, here, one)

filter_cond : (t : Name → Bool) (x : Name) (b : Bool) (k l : List Name) → cond b (x ∷ (k ++ l)) (k ++ l) ≡ cond b (x ∷ k) k ++ l
filter_cond t x true k l = refl
filter_cond t x false k l = refl

pub filter_both : (t : Name → Bool) (k l : List Name) → filter t (k ++ l) ≡ filter t k ++ filter t l
filter_both t [] l = refl
filter_both t (x ∷ k) l = ap (λ m. cond (t x) (x ∷ m) m) (filter_both t k l) ∙ filter_cond t x (t x) (filter t k) (filter t l)

nothing_in : {A : Type 0} → (k l : List A) → k ++ l ≡ [] → (k ≡ []) × (l ≡ [])
nothing_in [] l e = (refl, e)
nothing_in (x ∷ k) l e = let n : length (x ∷ (k ++ l)) ≡ 0 = ap length e in absurd (omega (arith, n))

-- one name more
before_none : (w v : ℕ) (t : Name → Bool) (f h : ℕ → List Name) → ((u : ℕ) → u ≢ w → filter t (h u) ≡ []) → ((u : ℕ) → u ≢ v → h u ≡ f u)
    → filter t (f v) ≡ [] → (u : ℕ) → u ≢ w → ((u ≡ v) ⊎ (u ≡ v → ⊥)) → filter t (f u) ≡ []
before_none w v t f h clear others p u o (inl e) = ap (λ i. filter t (f i)) e ∙ p
before_none w v t f h clear others p u o (inr e) = sym (ap (filter t) (others u e)) ∙ clear u o

filter_step : (w v : ℕ) (t : Name → Bool) (f h : ℕ → List Name) (l : List Name) (x : Name) → ((u : ℕ) → u ≢ w → filter t (h u) ≡ [])
    → (((u : ℕ) → u ≢ w → filter t (f u) ≡ []) → filter t l ≡ filter t (f w)) → h v ≡ f v ++ x ∷ [] → ((u : ℕ) → u ≢ v → h u ≡ f u)
    → ((v ≡ w) ⊎ (v ≡ w → ⊥)) → filter t l ++ filter t (x ∷ []) ≡ filter t (h w)
filter_step w v t f h l x clear rec same others (inl e) =
    let before : filter t l ≡ filter t (f w) = rec (λ u d. sym (ap (filter t) (others u (λ q. d (q ∙ e)))) ∙ clear u d) in
    let is : h w ≡ f w ++ x ∷ [] = subst (λ i. h i ≡ f i ++ x ∷ []) e same in
    ap (λ y. y ++ filter t (x ∷ [])) before ∙ sym (ap (filter t) is ∙ filter_both t (f w) (x ∷ []))
filter_step w v t f h l x clear rec same others (inr d) =
    let parts = nothing_in (filter t (f v)) (filter t (x ∷ [])) (sym (ap (filter t) same ∙ filter_both t (f v) (x ∷ [])) ∙ clear v d) in
    let before : filter t l ≡ filter t (f w) = rec (λ u o. before_none w v t f h clear others parts.0 u o (cases_eq u v)) in
    ap (λ y. filter t l ++ y) parts.1 ∙ append-nil (filter t l) ∙ before ∙ sym (ap (filter t) (others w (λ q. d (sym q))))

-- the names that pass a test which only one worker's names pass
pub mixed_filter : (n w : ℕ) (t : Name → Bool) (f : ℕ → List Name) (l : List Name) → ((u : ℕ) → u ≢ w → filter t (f u) ≡ []) → IsMixOf n f l
    → filter t l ≡ filter t (f w)
mixed_filter n w t f [] other (nothing e) = sym (ap (filter t) (e w))
mixed_filter n w t h _ other (next {f = f} {l = l} x v m k same others) =
    filter_both t l (x ∷ []) ∙ filter_step w v t f h l x other (λ q. mixed_filter n w t f l q k) same others (cases_eq v w)

map_push : {A B : Type 0} → (k : A → B) (l : List A) (x : A) → map k (l ++ x ∷ []) ≡ map k l ++ k x ∷ []
map_push k [] x = refl
map_push k (y ∷ l) x = ap (λ m. k y ∷ m) (map_push k l x)

-- a mix, item by item
pub mixed_map : {A B : Type 0} → (k : A → B) (n : ℕ) (f : ℕ → List A) (l : List A) → IsMixOf n f l → IsMixOf n (λ v. map k (f v)) (map k l)
mixed_map k n f [] (nothing e) = nothing (λ v. ap (map k) (e v))
mixed_map k n h _ (next {f = f} {l = l} x v m d same others) =
    subst (IsMixOf n (λ u. map k (h u))) (sym (map_push k l x))
    (next (k x) v m (mixed_map k n f l d) (ap (map k) same ∙ map_push k (f v) x) (λ u o. ap (map k) (others u o)))

-- a list more than the first one
pub mixed_next : {A : Type 0} → (n : ℕ) (f : ℕ → List A) (l : List A) (x : A) (v : ℕ) → v < n → IsMixOf n f l
    → IsMixOf n (with_value f v (f v ++ x ∷ [])) (l ++ x ∷ [])
mixed_next n f l x v m d = next x v m d (changed_same f v (f v ++ x ∷ [])) (λ u o. changed_other f v (f v ++ x ∷ []) u o)

-- it is as long as all the lists
pub mixed_long : {A : Type 0} → (n : ℕ) (f : ℕ → List A) (l : List A) → IsMixOf n f l → length l ≡ over n (λ v. length (f v))
mixed_long n f [] (nothing e) = sym (over_none n (λ v. length (f v)) (λ v m. ap length (e v)))
mixed_long n h _ (next {f = f} {l = l} x v m k same others) =
    let before : length l ≡ over n (λ u. length (f u)) = mixed_long n f l k in
    let more : length (l ++ x ∷ []) ≡ length l + 1 = length-append l (x ∷ []) in
    let here : length (h v) ≡ length (f v) + 1 = ap length same ∙ length-append (f v) (x ∷ []) in
    let one : over n (λ u. length (h u)) + length (f v) ≡ over n (λ u. length (f u)) + length (h v) =
    over_one n v (λ u. length (h u)) (λ u. length (f u)) m (λ u d. ap length (others u d)) in
    omega (arith, before, more, here, one)

each_still : {A : Type 0} {P : A → Type 0} → (f h : ℕ → List A) (x : A) (v u : ℕ) → Each P (h u) → h v ≡ f v ++ x ∷ []
    → ((w : ℕ) → w ≢ v → h w ≡ f w) → ((u ≡ v) ⊎ (u ≡ v → ⊥)) → Each P (f u)
each_still {P = P} f h x v u d same others (inl e) =
    (each_before (f u) x (subst (Each P) (subst (λ w. h w ≡ f w ++ x ∷ []) (sym e) same) d)).0
each_still {P = P} f h x v u d same others (inr o) = subst (Each P) (others u o) d

-- what holds of each item of the lists holds of each of the mix
pub mixed_each : {A : Type 0} {P : A → Type 0} → (n : ℕ) (f : ℕ → List A) (l : List A) → IsMixOf n f l → ((v : ℕ) → v < n → Each P (f v))
    → Each P l
mixed_each n f [] (nothing e) all = none
mixed_each {P = P} n h _ (next {f = f} {l = l} x v m k same others) all =
    each_append l (x ∷ []) (mixed_each n f l k (λ u w. each_still f h x v u (all u w) same others (cases_eq u v)))
    (both (each_before (f v) x (subst (Each P) same (all v m))).1 none)

-- there is nothing beyond the workers' lists
pub mixed_beyond : {A : Type 0} → (n u : ℕ) (f : ℕ → List A) (l : List A) → IsMixOf n f l → n ≤ u → f u ≡ []
mixed_beyond n u f [] (nothing e) h = e u
mixed_beyond n u h _ (next {f = f} {l = l} x v m k same others) b = others u (λ q. absurd (omega (arith, q, m, b)))
    ∙ mixed_beyond n u f l k b
