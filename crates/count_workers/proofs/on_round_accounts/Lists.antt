-- Sums and lists over gauges and workers.
use Rattle.std.proofs.Common.{◌≡◌, ◌⊎◌, inl, inr, ◌≤◌, ◌<◌, ◌+◌, ◌%◌, ℕ, zero, suc, List, [], ◌∷◌, ◌++◌, length, refl, sym, ap, ◌∙◌, arith, length-append, Bool, true, false, cond, eqb}
use Rattle.std.proofs.lemmas.Bool.{cases_lt}
use Rattle.segment.specs.declared.segment_rules.name.Name.{Name}
use Rattle.board.specs.flow.Flow.{hits}
use Rattle.board.specs.flow.Kept.{over, Each}
use Rattle.board.proofs.on_flow.Counting.{over_same, over_none, hits-append, over_sum, each_append}
use Rattle.board.specs.block_pool.Units.{FilledValue}
use Rattle.board.specs.arrivals.Arrivals.{names_of}
use Rattle.board.specs.flow.Kept.Each.{none}
use Rattle.count_workers.specs.block_workers.Dealing.{blocks_of_worker}
use Rattle.count_workers.specs.block_workers.Working.{in_turn}
use Rattle.count_workers.proofs.on_block_workers.Accounts.{one_worker}

pub over_swap : (n m : ℕ) (f : ℕ → ℕ → ℕ) → over n (λ v. over m (λ h. f v h)) ≡ over m (λ h. over n (λ v. f v h))
over_swap zero m f = sym (over_none m (λ h. 0) (λ h l. refl))
over_swap (suc n) m f =
    let rest : over n (λ v. over m (λ h. f v h)) ≡ over m (λ h. over n (λ v. f v h)) = over_swap n m f in
    let sums : over m (λ h. f n h + over n (λ v. f v h)) ≡ over m (λ h. f n h) + over m (λ h. over n (λ v. f v h)) =
    over_sum m (λ h. f n h) (λ h. over n (λ v. f v h)) in
    omega (arith, rest, sums)

pub turn_long : {A : Type 0} → (n : ℕ) (f : ℕ → List A) → length (in_turn n f) ≡ over n (λ g. length (f g))
turn_long zero f = refl
turn_long (suc n) f = let e : length (in_turn n f ++ f n) ≡ length (in_turn n f) + length (f n) = length-append (in_turn n f) (f n) in
    let r = turn_long n f in omega (arith, e, r)

pub turn_each : {A : Type 0} {P : A → Type 0} → (n : ℕ) (f : ℕ → List A) → ((g : ℕ) → g < n → Each P (f g)) → Each P (in_turn n f)
turn_each zero f h = none
turn_each (suc n) f h = each_append (in_turn n f) (f n) (turn_each n f (λ g l. h g (omega arith))) (h n (omega arith))

pub names_append : (k l : List FilledValue) → names_of (k ++ l) ≡ names_of k ++ names_of l
names_append [] l = refl
names_append (u ∷ k) l = ap (λ m. u.name ∷ m) (names_append k l)

pub turn_names : (n : ℕ) (f : ℕ → List FilledValue) → names_of (in_turn n f) ≡ in_turn n (λ g. names_of (f g))
turn_names zero f = refl
turn_names (suc n) f = names_append (in_turn n f) (f n) ∙ ap (λ l. l ++ names_of (f n)) (turn_names n f)

pub turn_hits : (g i n : ℕ) (f : ℕ → List Name) → hits g i (in_turn n f) ≡ over n (λ h. hits g i (f h))
turn_hits g i zero f = refl
turn_hits g i (suc n) f = let e : hits g i (in_turn n f ++ f n) ≡ hits g i (in_turn n f) + hits g i (f n) =
    hits-append g i (in_turn n f) (f n) in let r = turn_hits g i n f in omega (arith, e, r)

long_cond : (b : Bool) (u : FilledValue) (l : List FilledValue) → length (cond b (u ∷ l) l) ≡ cond b 1 0 + length l
long_cond true u l = omega arith
long_cond false u l = omega arith

-- each block of a lane goes to one worker
pub blocks_of_worker_long : (n k : ℕ) (us : List FilledValue) → 0 < n → over n (λ v. length (blocks_of_worker n v k us)) ≡ length us
blocks_of_worker_long n k [] h = over_none n (λ v. 0) (λ v l. refl)
blocks_of_worker_long n k (u ∷ us) h =
    let parts : over n (λ v. length (blocks_of_worker n v k (u ∷ us)))
    ≡ over n (λ v. cond (eqb (k % n) v) 1 0 + length (blocks_of_worker n v (k + 1) us)) =
    over_same n _ _ (λ v l. long_cond (eqb (k % n) v) u (blocks_of_worker n v (k + 1) us)) in
    let sums : over n (λ v. cond (eqb (k % n) v) 1 0 + length (blocks_of_worker n v (k + 1) us))
    ≡ over n (λ v. cond (eqb (k % n) v) 1 0) + over n (λ v. length (blocks_of_worker n v (k + 1) us)) =
    over_sum n (λ v. cond (eqb (k % n) v) 1 0) (λ v. length (blocks_of_worker n v (k + 1) us)) in
    let here : over n (λ v. cond (eqb (k % n) v) 1 0) ≡ 1 = one_worker n (k % n) 1 (omega (arith, h)) in
    let rest : over n (λ v. length (blocks_of_worker n v (k + 1) us)) ≡ length us = blocks_of_worker_long n (k + 1) us h in
    omega (arith, parts, sums, here, rest)

abbrev choose_by : {A : Type 0} → (n : ℕ) (f : (g : ℕ) → g < n → A) (d : A) (g : ℕ) → ((g < n) ⊎ (n ≤ g)) → A
choose_by n f d g (inl h) = f g h
choose_by n f d g (inr h) = d

-- what is known of each gauge, for every number
abbrev pub choose : {A : Type 0} → (n : ℕ) → ((g : ℕ) → g < n → A) → A → ℕ → A
choose n f d g = choose_by n f d g (cases_lt g n)

chosen_by : {A : Type 0} → (Q : ℕ → A → Type 0) (n : ℕ) (f : (g : ℕ) → g < n → A) (d : A) (g : ℕ) → ((i : ℕ) (h : i < n) → Q i (f i h))
    → g < n → (s : (g < n) ⊎ (n ≤ g)) → Q g (choose_by n f d g s)
chosen_by Q n f d g all l (inl h) = all g h
chosen_by Q n f d g all l (inr h) = absurd (omega (arith, l, h))

pub chosen : {A : Type 0} → (Q : ℕ → A → Type 0) (n : ℕ) (f : (g : ℕ) → g < n → A) (d : A) (g : ℕ) → ((i : ℕ) (h : i < n) → Q i (f i h))
    → g < n → Q g (choose n f d g)
chosen Q n f d g all l = chosen_by Q n f d g all l (cases_lt g n)
