-- Crossings as a table of differences.
use Rattle.std.proofs.Common.{◌≡◌, ℕ, zero, suc, ◌+◌, ◌-◌, ◌^◌, ◌<◌, ◌≤◌, ◌⊎◌, inl, inr, Bool, true, false, cond, leb, ◌&&◌, ◌||◌, List, [], ◌∷◌, ◌++◌, length, get_or, take, sum, replicate, refl, sym, ap, ◌∙◌, subst, arith, length-set}
use Rattle.std.proofs.lemmas.Bool.{cases_lt}
use Rattle.std.proofs.lemmas.Bool.Decides.{nat_tests}
use Rattle.turning_points.specs.EndPoints.{last_point}
use Rattle.tally.specs.tables.Tables.{raise, sum_of_tables as both}
use Rattle.simple_counts.specs.level_crossing.Halves.{below_at}
use Rattle.simple_counts.specs.level_crossing.Crossings.{step_crossings, crossings, start_level, has_level, CrossingsValue, crossing_count, IsCrossings, Crosses, lowest_boundary, highest_boundary, begin_step, stop_step, push_of, join_of, joint_crossings, no_crossings}
use Rattle.tally.proofs.on_tables.Counting.{sum_cons, length_added, added_at}
use Rattle.turning_points.specs.declared.ends.TheConstants.{MAX_POINTS}

take_none : (t : List ℕ) → sum (take 0 t) ≡ 0
take_none t = refl

below_suc : (j i : ℕ) → below_at (suc j) (suc i) ≡ below_at j i
below_suc j i = grind (arith, nat_tests)

below_none : (j : ℕ) → below_at j 0 ≡ 0
below_none j = grind (arith, nat_tests)

below_first : (i : ℕ) → below_at 0 (suc i) ≡ 1
below_first i = grind (arith, nat_tests)

-- a prefix's sum after one more at a place
pub sum_take_raise : (t : List ℕ) (j i : ℕ) → j < length t → sum (take i (raise t j)) ≡ sum (take i t) + below_at j i
sum_take_raise [] j i h = absurd (omega arith)
sum_take_raise (x ∷ t) zero zero h = omega (arith, below_none 0)
sum_take_raise (x ∷ t) (suc j) zero h = omega (arith, below_none (suc j))
sum_take_raise (x ∷ t) zero (suc i) h = omega (arith, below_first i, sum_cons (x + 1) (take i t), sum_cons x (take i t))
sum_take_raise (x ∷ t) (suc j) (suc i) h =
    omega (arith, below_suc j i, sum_cons x (take i (raise t j)), sum_cons x (take i t), sum_take_raise t j i (omega arith))

pub sum_take_both : (s t : List ℕ) (i : ℕ) → length s ≡ length t → sum (take i (both s t)) ≡ sum (take i s) + sum (take i t)
sum_take_both s t zero h = refl
sum_take_both [] [] (suc i) h = refl
sum_take_both [] (y ∷ t) (suc i) h = absurd (omega arith)
sum_take_both (x ∷ s) [] (suc i) h = absurd (omega arith)
sum_take_both (x ∷ s) (y ∷ t) (suc i) h =
    omega (arith, sum_cons (x + y) (take i (both s t)), sum_cons x (take i s), sum_cons y (take i t), sum_take_both s t i (omega arith))

pub sum_take_more : (t : List ℕ) (i : ℕ) → sum (take (suc i) t) ≡ sum (take i t) + get_or t i 0
sum_take_more [] zero = refl
sum_take_more [] (suc i) = refl
sum_take_more (x ∷ t) zero = omega (arith, sum_cons x [])
sum_take_more (x ∷ t) (suc i) = omega (arith, sum_cons x (take (suc i) t), sum_cons x (take i t), sum_take_more t i)

pub at_more : (t : List ℕ) (i : ℕ) → sum (take (i + 1) t) ≡ sum (take i t) + get_or t i 0
at_more t i = let e : i + 1 ≡ suc i = omega arith in ap (λ k. sum (take k t)) e ∙ sum_take_more t i

crossed_is : (r l x y : ℕ) → 1 ≤ r → step_crossings r l x y ≡ cond (leb (lowest_boundary r x y) l && leb l (highest_boundary r x y)) 1 0
crossed_is r l x y h = grind (arith, nat_tests)

within_step : (r x y k : ℕ) → 1 ≤ r → x < k → y < k → (1 ≤ lowest_boundary r x y) × (highest_boundary r x y < k)
within_step r x y k h p q = grind (arith, nat_tests)

-- the sums after a step
one_step : (b s d e lo hi l : ℕ) → lo ≤ hi → s ≤ b → d ≡ b + below_at lo (l + 1) → e ≡ s + below_at (hi + 1) (l + 1) →
    d ≡ (b - s) + cond (leb lo l && leb l hi) 1 0 + e
one_step b s d e lo hi l h g p q = grind (arith, nat_tests)

no_step : (lo hi l : ℕ) → hi < lo → ◌≡◌ {A = ℕ} (cond (leb lo l && leb l hi) 1 0) 0
no_step lo hi l h = grind (arith, nat_tests)

begin_yes : (r x y : ℕ) (t : List ℕ) → lowest_boundary r x y ≤ highest_boundary r x y →
    begin_step true r x y t ≡ raise t (lowest_boundary r x y)
begin_yes r x y t h = pick _ refl
  where
    pick : (b : Bool) → leb (lowest_boundary r x y) (highest_boundary r x y) ≡ b →
        cond (true && b) (raise t (lowest_boundary r x y)) t ≡ raise t (lowest_boundary r x y)
    pick true e = refl
    pick false e = absurd (bad e)
      where
        bad : leb (lowest_boundary r x y) (highest_boundary r x y) ≡ false → ⊥
        bad e = grind (arith, nat_tests)

begin_no : (r x y : ℕ) (t : List ℕ) → highest_boundary r x y < lowest_boundary r x y → begin_step true r x y t ≡ t
begin_no r x y t h = grind (arith, nat_tests)

stop_yes : (r x y : ℕ) (t : List ℕ) → lowest_boundary r x y ≤ highest_boundary r x y →
    stop_step true r x y t ≡ raise t (highest_boundary r x y + 1)
stop_yes r x y t h = grind (arith, nat_tests)

stop_no : (r x y : ℕ) (t : List ℕ) → highest_boundary r x y < lowest_boundary r x y → stop_step true r x y t ≡ t
stop_no r x y t h = grind (arith, nat_tests)

-- what the tables keep: no prefix stops more than begins before it, and no count is large
pub record Sound (k : ℕ) (b s : List ℕ) : Type 0 where
  pub begins : length b ≡ k + 1
  pub stops : length s ≡ k + 1
  pub enough : (i : ℕ) → sum (take (i + 1) s) ≤ sum (take i b)

enough_one : (lo hi i : ℕ) → lo ≤ hi → below_at (hi + 1) (i + 1) ≤ below_at lo i
enough_one lo hi i h = grind (arith, nat_tests)

pub begins_grow : (t : List ℕ) (i : ℕ) → sum (take i t) ≤ sum (take (i + 1) t)
begins_grow t i = omega (arith, at_more t i)

-- what a step does to the tables, and to the counts
pub record Stepped (k : ℕ) (b s b' s' : List ℕ) (more : ℕ → ℕ) : Type 0 where
  pub sound : Sound k b' s'
  pub count : (l : ℕ) → sum (take (l + 1) b') - sum (take (l + 1) s') ≡ (sum (take (l + 1) b) - sum (take (l + 1) s)) + more l

module _ (k r x y : ℕ) (b s : List ℕ) (h : 1 ≤ r) (p : x < k) (q : y < k) (g : Sound k b s) where
  step_yes : lowest_boundary r x y ≤ highest_boundary r x y →
      Stepped k b s (raise b (lowest_boundary r x y)) (raise s (highest_boundary r x y + 1)) (λ l. step_crossings r l x y)
  step_yes o =
      let w = within_step r x y k h p q in
      let m : lowest_boundary r x y < length b = omega (arith, g.begins) in
      let n : highest_boundary r x y + 1 < length s = omega (arith, g.stops) in
      record {
        sound = record {
          begins = length-set b (lowest_boundary r x y) _ ∙ g.begins;
          stops = length-set s (highest_boundary r x y + 1) _ ∙ g.stops;
          enough = λ i. omega (
            arith,
            sum_take_raise b (lowest_boundary r x y) i m,
            sum_take_raise s (highest_boundary r x y + 1) (i + 1) n,
            g.enough i,
            enough_one (lowest_boundary r x y) (highest_boundary r x y) i o,
          );
        };
        count = λ l. omega (
          arith,
          one_step (sum (take (l + 1) b)) (sum (take (l + 1) s)) _ _ (lowest_boundary r x y) (highest_boundary r x y) l o
              (omega (arith, g.enough l, begins_grow b l)) (sum_take_raise b (lowest_boundary r x y) (l + 1) m)
              (sum_take_raise s (highest_boundary r x y + 1) (l + 1) n),
          crossed_is r l x y h,
        );
      }

  step_no : highest_boundary r x y < lowest_boundary r x y → Stepped k b s b s (λ l. step_crossings r l x y)
  step_no o = record {
    sound = g;
    count = λ l. omega (
      arith,
      crossed_is r l x y h,
      no_step (lowest_boundary r x y) (highest_boundary r x y) l o,
    );
  }

  step_on : ((highest_boundary r x y < lowest_boundary r x y) ⊎ (lowest_boundary r x y ≤ highest_boundary r x y)) →
      Stepped k b s (begin_step true r x y b) (stop_step true r x y s) (λ l. step_crossings r l x y)
  step_on (inl o) = subst (λ t. Stepped k b s t (stop_step true r x y s) (λ l. step_crossings r l x y)) (sym (begin_no r x y b o))
      (subst (λ t. Stepped k b s b t (λ l. step_crossings r l x y)) (sym (stop_no r x y s o)) (step_no o))
  step_on (inr o) = subst (λ t. Stepped k b s t (stop_step true r x y s) (λ l. step_crossings r l x y)) (sym (begin_yes r x y b o))
      (subst (λ t. Stepped k b s (raise b (lowest_boundary r x y)) t (λ l. step_crossings r l x y)) (sym (stop_yes r x y s o)) (step_yes o))

  pub stepped : (c : Bool) → Stepped k b s (begin_step c r x y b) (stop_step c r x y s) (λ l. joint_crossings c r l x y)
  stepped true = step_on (cases_lt (highest_boundary r x y) (lowest_boundary r x y))
  stepped false = record { sound = g; count = λ l. omega arith }

-- the tables of two parts
pub sound_both : (k : ℕ) (b s c t : List ℕ) → Sound k b s → Sound k c t → Sound k (both b c) (both s t)
sound_both k b s c t g h =
    let p : length b ≡ length c = omega (arith, g.begins, h.begins) in
    let q : length s ≡ length t = omega (arith, g.stops, h.stops) in
    record {
      begins = length_added b c ∙ g.begins;
      stops = length_added s t ∙ g.stops;
      enough = λ i. omega (arith, sum_take_both b c i p, sum_take_both s t (i + 1) q, g.enough i, h.enough i);
    }

pub count_both : (k : ℕ) (b s c t : List ℕ) (l : ℕ) → Sound k b s → Sound k c t →
    sum (take (l + 1) (both b c)) - sum (take (l + 1) (both s t)) ≡ (sum (take (l + 1) b) - sum (take (l + 1) s)) +
    (sum (take (l + 1) c) - sum (take (l + 1) t))
count_both k b s c t l g h =
    let p : length b ≡ length c = omega (arith, g.begins, h.begins) in
    let q : length s ≡ length t = omega (arith, g.stops, h.stops) in
    omega (arith, sum_take_both b c (l + 1) p, sum_take_both s t (l + 1) q, g.enough l, h.enough l, begins_grow b l, begins_grow c l)

-- a concatenation crosses what its parts cross, and what the step between them crosses
pub crossings_append : (r l : ℕ) (u v : List ℕ) →
    crossings r l (u ++ v) ≡ crossings r l u + crossings r l v
    + joint_crossings (has_level u && has_level v) r l (last_point u) (start_level v)
crossings_append r l [] v = omega arith
crossings_append r l (x ∷ []) [] = omega arith
crossings_append r l (x ∷ []) (y ∷ v) = omega arith
crossings_append r l (x ∷ y ∷ u) v = omega (arith, crossings_append r l (y ∷ u) v)

pub stop_small : (v : CrossingsValue) → IsCrossings v → (k : ℕ) → get_or v.stops k 0 < 2 ^ 42
stop_small v i zero = omega (arith, at_more v.stops 0, i.enough 0)
stop_small v i (suc j) =
    let e : j + 1 ≡ suc j = omega arith in
    omega (arith, at_more v.stops (suc j), i.enough (suc j), i.few j, ap (λ k. sum (take k v.begins)) e, ap (λ k. sum (take k v.stops)) e)

sound_of : (v : CrossingsValue) → IsCrossings v → Sound v.classes v.begins v.stops
sound_of v i = record { begins = i.begins; stops = i.stops; enough = i.enough }

first_below : (b : Bool) (x y k : ℕ) → x < k → y < k → cond b x y < k
first_below true x y k p q = p
first_below false x y k p q = q

pub level_rules : (x : ℕ) (v : CrossingsValue) → IsCrossings v → x < v.classes →
    ((l : ℕ) → crossing_count v l + joint_crossings v.some v.reference l v.last x ≤ MAX_POINTS) → IsCrossings (push_of x v)
level_rules x v i h f =
    let s = stepped v.classes v.reference v.last x v.begins v.stops i.reference.0 i.last h (sound_of v i) v.some in
    record {
      classes = i.classes;
      reference = i.reference;
      begins = s.sound.begins;
      stops = s.sound.stops;
      first = first_below v.some v.first x v.classes i.first h;
      last = h;
      enough = s.sound.enough;
      few = λ l. omega (arith, s.count l, f l);
    }

first_push : (h : List ℕ) (x : ℕ) → start_level (h ++ (x ∷ [])) ≡ cond (has_level h) (start_level h) x
first_push [] x = refl
first_push (y ∷ h) x = refl

some_push : (h : List ℕ) (x : ℕ) → has_level (h ++ (x ∷ [])) ≡ true
some_push [] x = refl
some_push (y ∷ h) x = refl

last_push : (h : List ℕ) (x : ℕ) → last_point (h ++ (x ∷ [])) ≡ x
last_push [] x = refl
last_push (y ∷ []) x = refl
last_push (y ∷ z ∷ h) x = last_push (z ∷ h) x

and_true : (b : Bool) → (b && true) ≡ b
and_true true = refl
and_true false = refl

cond_first : (b c : Bool) (x y z : ℕ) → b ≡ c → x ≡ z → cond b x y ≡ cond c z y
cond_first b c x y z p q = cc

joint_crossings_same : (b c : Bool) (r l x y x' : ℕ) → b ≡ c → x ≡ x' → joint_crossings b r l x y ≡ joint_crossings c r l x' y
joint_crossings_same b c r l x y x' p q = cc

pub level_crosses : (x : ℕ) (v : CrossingsValue) (h : List ℕ) → IsCrossings v → x < v.classes → Crosses v h →
    Crosses (push_of x v) (h ++ (x ∷ []))
level_crosses x v h i p g =
    let s = stepped v.classes v.reference v.last x v.begins v.stops i.reference.0 i.last p (sound_of v i) v.some in
    record {
      some = sym (some_push h x);
      first = cond_first v.some (has_level h) v.first x (start_level h) g.some g.first ∙ sym (first_push h x);
      last = sym (last_push h x);
      counts = λ l a b. omega (
        arith,
        s.count l,
        g.counts l a b,
        crossings_append v.reference l h (x ∷ []),
        joint_crossings_same v.some (has_level h && true) v.reference l v.last x (last_point h) (g.some ∙ sym (and_true (has_level h)))
            g.last,
      );
    }

last_append : (u v : List ℕ) → last_point (u ++ v) ≡ cond (has_level v) (last_point v) (last_point u)
last_append [] [] = refl
last_append [] (y ∷ v) = refl
last_append (x ∷ []) [] = refl
last_append (x ∷ []) (y ∷ v) = refl
last_append (x ∷ y ∷ u) v = last_append (y ∷ u) v

first_append : (u v : List ℕ) → start_level (u ++ v) ≡ cond (has_level u) (start_level u) (start_level v)
first_append [] v = refl
first_append (x ∷ u) v = refl

some_append : (u v : List ℕ) → has_level (u ++ v) ≡ (has_level u || has_level v)
some_append [] v = refl
some_append (x ∷ u) v = refl

or_same : (a b c d : Bool) → a ≡ c → b ≡ d → (a || b) ≡ (c || d)
or_same a b c d p q = cc

and_same : (a b c d : Bool) → a ≡ c → b ≡ d → (a && b) ≡ (c && d)
and_same a b c d p q = cc

cond_same : (b c : Bool) (x y z w : ℕ) → b ≡ c → x ≡ z → y ≡ w → cond b x y ≡ cond c z w
cond_same b c x y z w p q r = cc

joint_crossings_to : (b c : Bool) (r l x y x' y' : ℕ) → b ≡ c → x ≡ x' → y ≡ y' → joint_crossings b r l x y ≡ joint_crossings c r l x' y'
joint_crossings_to b c r l x y x' y' p q s = cc

module _ (v w : CrossingsValue) (i : IsCrossings v) (j : IsCrossings w) (k : v.classes ≡ w.classes) where
  sound_right : Sound v.classes w.begins w.stops
  sound_right = subst (λ n. Sound n w.begins w.stops) (sym k) (sound_of w j)

  first_within : w.first < v.classes
  first_within = subst (λ n. w.first < n) (sym k) j.first

  append_step : Stepped v.classes (both v.begins w.begins) (both v.stops w.stops) (join_of v w).begins (join_of v w).stops
      (λ l. joint_crossings (v.some && w.some) v.reference l v.last w.first)
  append_step = stepped v.classes v.reference v.last w.first (both v.begins w.begins) (both v.stops w.stops) i.reference.0 i.last
      first_within (sound_both v.classes v.begins v.stops w.begins w.stops (sound_of v i) sound_right) (v.some && w.some)

  pub append_count : (l : ℕ) → crossing_count (join_of v w) l ≡ (crossing_count v l + crossing_count w l)
      + joint_crossings (v.some && w.some) v.reference
      l v.last w.first
  append_count l = omega (arith, append_step.count l, count_both v.classes v.begins v.stops w.begins w.stops l (sound_of v i) sound_right)

  pub append_rules : ((l : ℕ) → crossing_count v l + crossing_count w l
      + joint_crossings (v.some && w.some) v.reference l v.last w.first ≤ MAX_POINTS) →
      IsCrossings (join_of v w)
  append_rules f = record {
    classes = i.classes;
    reference = i.reference;
    begins = append_step.sound.begins;
    stops = append_step.sound.stops;
    first = first_below v.some v.first w.first v.classes i.first first_within;
    last = first_below w.some w.last v.last v.classes (subst (λ n. w.last < n) (sym k) j.last) i.last;
    enough = append_step.sound.enough;
    few = λ l. omega (arith, append_count l, f l);
  }

  pub append_crosses : v.reference ≡ w.reference → (g h : List ℕ) → Crosses v g → Crosses w h → Crosses (join_of v w) (g ++ h)
  append_crosses e g h a b = record {
    some = or_same v.some w.some (has_level g) (has_level h) a.some b.some ∙ sym (some_append g h);
    first = cond_same v.some (has_level g) v.first w.first (start_level g) (start_level h) a.some a.first b.first ∙ sym (first_append g h);
    last = cond_same w.some (has_level h) w.last v.last (last_point h) (last_point g) b.some b.last a.last ∙ sym (last_append g h);
    counts = λ l p q. omega (
      arith,
      append_count l,
      a.counts l p q,
      b.counts l p (subst (λ n. l < n) k q),
      ap (λ r. crossings r l h) e,
      crossings_append v.reference l g h,
      joint_crossings_to (v.some && w.some) (has_level g && has_level h) v.reference l v.last w.first
          (last_point g) (start_level h) (and_same v.some w.some (has_level g) (has_level h) a.some b.some) a.last b.first,
    );
  }

begin_small : (v : CrossingsValue) → IsCrossings v → (k : ℕ) → get_or v.begins k 0 < 2 ^ 42
begin_small v i k = omega (arith, at_more v.begins k, i.few k, i.enough k)

-- what `join` may assume once the tables were added
pub record Ready (v w : CrossingsValue) (b s : List ℕ) : Type 0 where
  pub x : v.last + 1 < length b
  pub y : w.first + 1 < length b
  pub same : length s ≡ length b
  pub room : (k : ℕ) → get_or b k 0 < 2 ^ 62
  pub space : (k : ℕ) → get_or s k 0 < 2 ^ 62

pub ready : {v w : CrossingsValue} {b s : List ℕ} → IsCrossings v → IsCrossings w → v.classes ≡ w.classes → b ≡ both v.begins w.begins →
    s ≡ both v.stops w.stops → Ready v w b s
ready {v} {w} {b} {s} i j e p q =
    let l : length v.begins ≡ length w.begins = omega (arith, i.begins, j.begins) in
    let m : length v.stops ≡ length w.stops = omega (arith, i.stops, j.stops) in
    let x : length b ≡ v.classes + 1 = ap length p ∙ length_added v.begins w.begins ∙ i.begins in
    let y : length s ≡ v.classes + 1 = ap length q ∙ length_added v.stops w.stops ∙ i.stops in
    record {
      x = omega (arith, i.last);
      y = omega (arith, j.first);
      same = y ∙ sym x;
      room = λ k. omega (arith, ap (λ t. get_or t k 0) p, added_at v.begins w.begins k l, begin_small v i k, begin_small w j k);
      space = λ k. omega (arith, ap (λ t. get_or t k 0) q, added_at v.stops w.stops k m, stop_small v i k, stop_small w j k);
    }

pub stops_room : {v w : CrossingsValue} {t : List ℕ} → IsCrossings v → IsCrossings w → t ≡ w.stops → (k : ℕ) →
    get_or v.stops k 0 + get_or t k 0 < 2 ^ 63
stops_room {v} {w} {t} i j p k = omega (arith, stop_small v i k, stop_small w j k, ap (λ u. get_or u k 0) p)

value_same : (K r : ℕ) (a a' : Bool) (f f' l l' : ℕ) (b b' s s' : List ℕ) → a' ≡ a → f' ≡ f → l' ≡ l → b' ≡ b → s' ≡ s →
    ◌≡◌ {A = CrossingsValue} (record { classes = K; reference = r; some = a; first = f; last = l; begins = b; stops = s })
    (record { classes = K; reference = r; some = a'; first = f'; last = l'; begins = b'; stops = s' })
value_same K r a a' f f' l l' b b' s s' p q x y z = cc

pub closed : {v w : CrossingsValue} {a c : Bool} {f l : ℕ} {b s b' s' : List ℕ} → IsCrossings v → IsCrossings w → v.classes ≡ w.classes →
    ((l : ℕ) → crossing_count v l + crossing_count w l + joint_crossings (v.some && w.some) v.reference l v.last w.first ≤ MAX_POINTS) →
    b ≡ both v.begins w.begins → s ≡ both v.stops w.stops → c ≡ (v.some && w.some) → a ≡ (v.some || w.some) →
    f ≡ cond v.some v.first w.first → l ≡ cond w.some w.last v.last → b' ≡ begin_step c v.reference v.last w.first b →
    s' ≡ stop_step c v.reference v.last w.first s →
    IsCrossings (record { classes = v.classes; reference = v.reference; some = a; first = f; last = l; begins = b'; stops = s' })
closed {v} {w} {a} {c} {f} {l} {b} {s} {b'} {s'} i j e g p q o n m k x y =
    let x' = x ∙ ap (λ t. begin_step c v.reference v.last w.first t) p ∙ ap
    (λ z. begin_step z v.reference v.last w.first (both v.begins w.begins)) o in
    let y' = y ∙ ap (λ t. stop_step c v.reference v.last w.first t) q ∙ ap
    (λ z. stop_step z v.reference v.last w.first (both v.stops w.stops)) o in
    subst IsCrossings (value_same v.classes v.reference _ a _ f _ l _ b' _ s' n m k x' y') (append_rules v w i j e g)

pub level_count : (x : ℕ) (v : CrossingsValue) → IsCrossings v → x < v.classes → (l : ℕ) →
    crossing_count (push_of x v) l ≡ crossing_count v l + joint_crossings v.some v.reference l v.last x
level_count x v i h = (stepped v.classes v.reference v.last x v.begins v.stops i.reference.0 i.last h (sound_of v i) v.some).count

sum_replicate : (i n : ℕ) → sum (take i (replicate n 0)) ≡ 0
sum_replicate zero n = refl
sum_replicate (suc i) zero = refl
sum_replicate (suc i) (suc n) = omega (arith, sum_cons 0 (take i (replicate n 0)), sum_replicate i n)

pub none_counted : (v : CrossingsValue) (k r : ℕ) → v ≡ no_crossings k r → (l : ℕ) → crossing_count v l ≡ 0
none_counted v k r e l = omega (arith, ap (λ w. crossing_count w l) e, sum_replicate (l + 1) (k + 1))
