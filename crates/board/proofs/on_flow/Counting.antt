-- How often lists of names name a sample.
use Rattle.std.proofs.Common.{◌≡◌, ◌≢◌, ◌⊎◌, inl, inr, ◌+◌, ◌<◌, ◌≤◌, ℕ, zero, suc, List, [], ◌∷◌, ◌++◌, take, drop, cond, eqb, Bool, true, false, refl, sym, ap, ◌∙◌, subst, arith}
use Rattle.std.specs.List.{filter}
use Rattle.std.proofs.lemmas.Bool.Decides.{nat_tests}
use Rattle.std.proofs.lemmas.Bool.{cases_eq, eq-eqb, ne_eqb}
use Rattle.segment.specs.declared.segment_rules.name.Name.{Name}
use Rattle.board.specs.flow.Flow.{hits_of_name, hits, In, with_value, with_value_at, is_left_over}
use Rattle.board.specs.flow.Flow.In.{here, there}
use Rattle.board.specs.flow.Kept.{Each, NamesAscend, over, between}
use Rattle.board.specs.flow.Kept.Each.{none, both}
use Rattle.board.specs.flow.Kept.NamesAscend.{empty, step}

pub hits-append : (g i : ℕ) (k l : List Name) → hits g i (k ++ l) ≡ hits g i k + hits g i l
hits-append g i [] l = omega arith
hits-append g i (n ∷ k) l = let e : hits g i (k ++ l) ≡ hits g i k + hits g i l = hits-append g i k l in omega arith

-- the front and the rest
pub hits-split : (g i : ℕ) (l : List Name) → hits g i (take 1 l) + hits g i (drop 1 l) ≡ hits g i l
hits-split g i [] = omega arith
hits-split g i (n ∷ l) = omega arith

pub each_append : {A : Type 0} {P : A → Type 0} → (k l : List A) → Each P k → Each P l → Each P (k ++ l)
each_append [] l none e = e
each_append (n ∷ k) l (both p d) e = both p (each_append k l d e)

pub each_map : {A : Type 0} {P Q : A → Type 0} → (l : List A) → ((n : A) → P n → Q n) → Each P l → Each Q l
each_map [] f none = none
each_map (n ∷ l) f (both p d) = both (f n p) (each_map l f d)

pub each_both : {A : Type 0} {P Q R : A → Type 0} → (l : List A) → ((n : A) → P n → Q n → R n) → Each P l → Each Q l → Each R l
each_both [] f none none = none
each_both (n ∷ l) f (both p d) (both q e) = both (f n p q) (each_both l f d e)

pub each_drop : {A : Type 0} {P : A → Type 0} → (l : List A) → Each P l → Each P (drop 1 l)
each_drop [] none = none
each_drop (n ∷ l) (both p d) = d

pub each_take : {A : Type 0} {P : A → Type 0} → (l : List A) → Each P l → Each P (take 1 l)
each_take [] none = none
each_take (n ∷ l) (both p d) = both p none

pub each_in : {P : Name → Type 0} → {n : Name} → {l : List Name} → Each P l → In n l → P n
each_in none i = elim i [ ]
each_in (both p d) here = p
each_in (both p d) (there i) = each_in d i

pub ascends_drop : (l : List Name) → NamesAscend l → NamesAscend (drop 1 l)
ascends_drop [] empty = empty
ascends_drop (n ∷ l) (step p d) = d

pub ascends_push : (l : List Name) (m : Name) → NamesAscend l → Each (λ n. n.from < m.from) l → NamesAscend (l ++ m ∷ [])
ascends_push [] m empty none = step none empty
ascends_push (n ∷ l) m (step p d) (both q e) = step (each_append l (m ∷ []) p (both q none)) (ascends_push l m d e)

pub hits_of_name_other : (g i : ℕ) (n : Name) → n.gauge ≢ g → hits_of_name g i n ≡ 0
hits_of_name_other g i n h = grind (arith, nat_tests)

pub hits_other : (g i : ℕ) (l : List Name) → Each (λ n. n.gauge ≢ g) l → hits g i l ≡ 0
hits_other g i [] none = refl
hits_other g i (n ∷ l) (both p d) = omega (arith, hits_of_name_other g i n p, hits_other g i l d)

pub hits_of_name_past : (g i : ℕ) (n : Name) → (n.gauge ≡ g → i < n.from) → hits_of_name g i n ≡ 0
hits_of_name_past g i n h = grind (arith, nat_tests)

-- names that begin behind a sample do not name it
pub hits_past : (g i : ℕ) (l : List Name) → Each (λ n. n.gauge ≡ g → i < n.from) l → hits g i l ≡ 0
hits_past g i [] none = refl
hits_past g i (n ∷ l) (both p d) = omega (arith, hits_of_name_past g i n p, hits_past g i l d)

pub hits_of_name_inside : (g i : ℕ) (n : Name) → n.gauge ≡ g → n.from ≤ i → i < n.to → hits_of_name g i n ≡ 1
hits_of_name_inside g i n a b c = grind (arith, nat_tests)

hits_of_name_means : (g i : ℕ) (n : Name) → (hits_of_name g i n ≡ 0) ⊎ ((n.gauge ≡ g) × (n.from ≤ i) × (i < n.to))
hits_of_name_means g i n = grind (arith, nat_tests)

-- one of the names that names it
pub record Found (g i : ℕ) (l : List Name) : Type 0 where
  pub name : Name
  pub among : In name l
  pub gauge : name.gauge ≡ g
  pub from : name.from ≤ i
  pub to : i < name.to

found_or : (g i : ℕ) (n : Name) (l : List Name) → (1 ≤ hits g i l → Found g i l) → 1 ≤ hits_of_name g i n + hits g i l
    → ((hits_of_name g i n ≡ 0) ⊎ ((n.gauge ≡ g) × (n.from ≤ i) × (i < n.to))) → Found g i (n ∷ l)
found_or g i n l more h (inl not_it) = let f =
    more (omega (arith, h, not_it)) in record { name = f.name; among = there f.among; gauge = f.gauge; from = f.from; to = f.to }
found_or g i n l more h (inr (a, b, c)) = record { name = n; among = here; gauge = a; from = b; to = c }

pub found : (g i : ℕ) (l : List Name) → 1 ≤ hits g i l → Found g i l
found g i [] h = absurd (omega (arith, h))
found g i (n ∷ l) h = found_or g i n l (found g i l) h (hits_of_name_means g i n)

-- what is left keeps the hits of a sample that the names taken out do not name
is_left_over_more : (g e h i : ℕ) (n : Name) (b : Bool) → is_left_over g e n ≡ b → (h ≡ g → e ≤ i) → (b ≡ false → hits_of_name h i n ≡ 0)
is_left_over_more g e h i n b q p = grind (arith, nat_tests)

filtered : (g e h i : ℕ) (n : Name) (k l : List Name) (b : Bool) → hits h i k ≡ hits h i l → (b ≡ false → hits_of_name h i n ≡ 0)
    → hits h i (cond b (n ∷ k) k) ≡ hits_of_name h i n + hits h i l
filtered g e h i n k l true q p = omega (arith, q)
filtered g e h i n k l false q p = omega (arith, q, p refl)

pub hits_filter : (g e h i : ℕ) (l : List Name) → (h ≡ g → e ≤ i) → hits h i (filter (is_left_over g e) l) ≡ hits h i l
hits_filter g e h i [] p = refl
hits_filter g e h i (n ∷ l) p =
    filtered g e h i n (filter (is_left_over g e) l) l (is_left_over g e n) (hits_filter g e h i l p)
    (is_left_over_more g e h i n (is_left_over g e n) refl p)

-- what stays has P, where each that stays has it
pub each_cond : {A : Type 0} {P : A → Type 0} → (n : A) (k : List A) (b : Bool) → (b ≡ true → P n) → Each P k → Each P (cond b (n ∷ k) k)
each_cond n k true p d = both (p refl) d
each_cond n k false p d = d

pub each_filter : {A : Type 0} {P Q : A → Type 0} → (f : A → Bool) (l : List A) → ((n : A) → P n → f n ≡ true → Q n) → Each P l →
    Each Q (filter f l)
each_filter f [] h none = none
each_filter f (n ∷ l) h (both p d) = each_cond n (filter f l) (f n) (h n p) (each_filter f l h d)

-- sums over workers
pub over_same : (n : ℕ) (f g : ℕ → ℕ) → ((v : ℕ) → v < n → f v ≡ g v) → over n f ≡ over n g
over_same zero f g h = refl
over_same (suc n) f g h = let e : over n f ≡ over n g = over_same n f g (λ v l. h v (omega arith)) in let p : f n ≡ g n =
    h n (omega arith) in omega arith

over_step : (n v : ℕ) (f g : ℕ → ℕ) → ((u : ℕ) → u ≢ v → f u ≡ g u) → (v < n → over n f + g v ≡ over n g + f v) → v < suc n
    → ((v ≡ n) ⊎ (v ≡ n → ⊥)) → f n + over n f + g v ≡ g n + over n g + f v
over_step n v f g h more l (inl e) =
    let a : f v ≡ f n = ap f e in let b : g v ≡ g n = ap g e in
    let c : over n f ≡ over n g = over_same n f g (λ u k. h u (λ d. absurd (omega (arith, k, d, e)))) in omega (arith, a, b, c)
over_step n v f g h more l (inr e) =
    let a : f n ≡ g n = h n (λ d. e (sym d)) in
    let ne : v ≢ n = e in
    let b : over n f + g v ≡ over n g + f v = more (omega (arith, l, ne)) in omega (arith, a, b)

-- two functions that agree but at one worker
pub over_one : (n v : ℕ) (f g : ℕ → ℕ) → v < n → ((u : ℕ) → u ≢ v → f u ≡ g u) → over n f + g v ≡ over n g + f v
over_one zero v f g l h = absurd (omega (arith, l))
over_one (suc n) v f g l h = over_step n v f g h (λ k. over_one n v f g k h) l (cases_eq v n)

at_or : (n v : ℕ) (f : ℕ → ℕ) → (v < n → f v ≤ over n f) → v < suc n → ((v ≡ n) ⊎ (v ≡ n → ⊥)) → f v ≤ f n + over n f
at_or n v f more l (inl e) = let a : f v ≡ f n = ap f e in omega (arith, a)
at_or n v f more l (inr e) = let ne : v ≢ n = e in let b : f v ≤ over n f = more (omega (arith, l, ne)) in omega (arith, b)

pub over_at : (n v : ℕ) (f : ℕ → ℕ) → v < n → f v ≤ over n f
over_at zero v f l = absurd (omega (arith, l))
over_at (suc n) v f l = at_or n v f (over_at n v f) l (cases_eq v n)

pub over_none : (n : ℕ) (f : ℕ → ℕ) → ((v : ℕ) → v < n → f v ≡ 0) → over n f ≡ 0
over_none zero f h = refl
over_none (suc n) f h = let a : over n f ≡ 0 = over_none n f (λ v l. h v (omega arith)) in let b : f n ≡ 0 =
    h n (omega arith) in omega (arith, a, b)

-- functions that are changed at one place
pub changed_same : {A : Type 0} → (f : ℕ → A) (k : ℕ) (x : A) → with_value f k x k ≡ x
changed_same f k x = ap (λ b. cond b x (f k)) (eq-eqb k k refl)

pub changed_other : {A : Type 0} → (f : ℕ → A) (k : ℕ) (x : A) (i : ℕ) → i ≢ k → with_value f k x i ≡ f i
changed_other f k x i h = ap (λ b. cond b x (f i)) (ne_eqb i k h)

pub changed_at_same : {A : Type 0} → (f : ℕ → ℕ → A) (g v : ℕ) (x : A) → with_value_at f g v x g v ≡ x
changed_at_same f g v x = ap (λ b. cond b (cond (eqb v v) x (f g v)) (f g v)) (eq-eqb g g refl)
    ∙ ap (λ b. cond b x (f g v)) (eq-eqb v v refl)

pub changed_at_gauge : {A : Type 0} → (f : ℕ → ℕ → A) (g v : ℕ) (x : A) (i j : ℕ) → i ≢ g → with_value_at f g v x i j ≡ f i j
changed_at_gauge f g v x i j h = ap (λ b. cond b (cond (eqb j v) x (f i j)) (f i j)) (ne_eqb i g h)

same_both : {A : Type 0} → (b : Bool) (y : A) → cond b y y ≡ y
same_both true y = refl
same_both false y = refl

pub changed_at_worker : {A : Type 0} → (f : ℕ → ℕ → A) (g v : ℕ) (x : A) (i j : ℕ) → j ≢ v → with_value_at f g v x i j ≡ f i j
changed_at_worker f g v x i j h = ap (λ b. cond (eqb i g) (cond b x (f i j)) (f i j)) (ne_eqb j v h) ∙ same_both (eqb i g) (f i j)

all_or : {A : Type 0} → (P : ℕ → A → Type 0) (f : ℕ → A) (k : ℕ) (x : A) (i : ℕ) → P i (f i) → P k x → ((i ≡ k) ⊎ (i ≡ k → ⊥))
    → P i (with_value f k x i)
all_or P f k x i h p (inl e) = subst (λ j. P j (with_value f k x j)) (sym e) (subst (λ y. P k y) (sym (changed_same f k x)) p)
all_or P f k x i h p (inr e) = subst (λ y. P i y) (sym (changed_other f k x i e)) h

-- what holds of each place, and of the new one
pub changed_all : {A : Type 0} → (P : ℕ → A → Type 0) (f : ℕ → A) (k : ℕ) (x : A) → ((i : ℕ) → P i (f i)) → P k x → (i : ℕ)
    → P i (with_value f k x i)
changed_all P f k x h p i = all_or P f k x i (h i) p (cases_eq i k)

at_or_worker : {A : Type 0} → (P : ℕ → ℕ → A → Type 0) (f : ℕ → ℕ → A) (g v : ℕ) (x : A) (j : ℕ) → P g j (f g j) → P g v x
    → ((j ≡ v) ⊎ (j ≡ v → ⊥)) → P g j (with_value_at f g v x g j)
at_or_worker P f g v x j h p (inl e) =
    subst (λ k. P g k (with_value_at f g v x g k)) (sym e) (subst (λ y. P g v y) (sym (changed_at_same f g v x)) p)
at_or_worker P f g v x j h p (inr e) = subst (λ y. P g j y) (sym (changed_at_worker f g v x g j e)) h

at_or_gauge : {A : Type 0} → (P : ℕ → ℕ → A → Type 0) (f : ℕ → ℕ → A) (g v : ℕ) (x : A) (i j : ℕ) → ((i j : ℕ) → P i j (f i j)) → P g v x
    → ((i ≡ g) ⊎ (i ≡ g → ⊥)) → P i j (with_value_at f g v x i j)
at_or_gauge P f g v x i j h p (inl e) =
    subst (λ k. P k j (with_value_at f g v x k j)) (sym e) (at_or_worker P f g v x j (h g j) p (cases_eq j v))
at_or_gauge P f g v x i j h p (inr e) = subst (λ y. P i j y) (sym (changed_at_gauge f g v x i j e)) (h i j)

pub changed_at_all : {A : Type 0} → (P : ℕ → ℕ → A → Type 0) (f : ℕ → ℕ → A) (g v : ℕ) (x : A) → ((i j : ℕ) → P i j (f i j)) → P g v x
    → (i j : ℕ) → P i j (with_value_at f g v x i j)
changed_at_all P f g v x h p i j = at_or_gauge P f g v x i j h p (cases_eq i g)

pub over_sum : (n : ℕ) (f h : ℕ → ℕ) → over n (λ v. f v + h v) ≡ over n f + over n h
over_sum zero f h = refl
over_sum (suc n) f h = let e : over n (λ v. f v + h v) ≡ over n f + over n h = over_sum n f h in omega (arith, e)

-- a number lies in one of two parts that meet
pub between_parts : (a b c i : ℕ) → a ≤ b → b ≤ c → between a b i + between b c i ≡ between a c i
between_parts a b c i h k = grind (arith, nat_tests)

pub between_one : (a b x : ℕ) → a ≤ x → x < b → between a b x ≡ 1
between_one a b x h k = grind (arith, nat_tests)

pub nothing_between : (a x : ℕ) → between a a x ≡ 0
nothing_between a x = grind (arith, nat_tests)

pub hits_of_name_between : (g i : ℕ) (n : Name) → n.gauge ≡ g → hits_of_name g i n ≡ between n.from n.to i
hits_of_name_between g i n h = grind (arith, nat_tests)
