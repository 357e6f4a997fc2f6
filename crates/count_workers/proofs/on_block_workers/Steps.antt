-- What a worker keeps from one item to the next.
use Rattle.std.proofs.Common.{◌≡◌, ◌≢◌, ◌⊎◌, inl, inr, ◌<◌, ◌≤◌, ◌+◌, ℕ, zero, suc, List, [], ◌∷◌, ◌++◌, map, length, get_or, set, vec_len, refl, sym, ap, ◌∙◌, subst, arith, rules, append_assoc}
use Rattle.std.proofs.lemmas.List.{append-nil, map-append, get_or-set_same, get_or-set_other}
use Rattle.std.proofs.lemmas.Bool.{cases_eq}
use Rattle.std.specs.Prelude.{Result, Ok, Err, OnOk, IfErr}
use Rattle.board.specs.flow.Flow.{with_value}
use Rattle.board.proofs.on_flow.Counting.{changed_same, changed_other}
use Rattle.count_workers.specs.declared.gauge_ring.taker.Taker.{Taker}
use Rattle.count_workers.specs.declared.gauge_ring.feeder.Feeder.{Feeder}
use Rattle.count_workers.specs.gauge_ring.Ends.{fed, taken, IsSameFeeder, IsSameTaker}
use Rattle.board.specs.block_pool.Units.{FilledValue, CountedValue, IsCountOf}
use Rattle.count_workers.specs.declared.block_workers.item.Item.{Item}
use Rattle.count_workers.specs.declared.block_workers.item.Item.TheVariants.{Mark}
use Rattle.count_workers.specs.declared.block_workers.item.Back.{Back}
use Rattle.count_workers.specs.declared.block_workers.item.Back.TheVariants.{Over}
use Rattle.count_workers.specs.declared.block_workers.worker.Worker.{Worker}
use Rattle.count_workers.specs.block_workers.Dealing.{block_of, round_of}
use Rattle.count_workers.specs.crew.Lines.{TakesBack}
use Rattle.count_workers.specs.block_workers.Working.{in_turn, AreCounts, back_of, GivesCounts, waiting_of, IsIdle, HandsOver, WorkedSoFar, WorkJob}
use Rattle.count_workers.specs.block_workers.Working.AreCounts.{nil, one}
use Rattle.count_workers.proofs.on_gauge_ring.Ends.{same_feeders, same_takers}

pub counts_long : (fs : List FilledValue) (cs : List CountedValue) → AreCounts fs cs → length cs ≡ length fs
counts_long [] [] nil = refl
counts_long [] (c ∷ cs) h = elim h [ ]
counts_long (f ∷ fs) [] h = elim h [ ]
counts_long (f ∷ fs) (c ∷ cs) (one h d) = let e : length cs ≡ length fs = counts_long fs cs d in omega (arith, e)

counts_both : (fs gs : List FilledValue) (cs ds : List CountedValue) → AreCounts fs cs → AreCounts gs ds
    → AreCounts (fs ++ gs) (cs ++ ds)
counts_both [] gs [] ds nil k = k
counts_both [] gs (c ∷ cs) ds h k = elim h [ ]
counts_both (f ∷ fs) gs [] ds h k = elim h [ ]
counts_both (f ∷ fs) gs (c ∷ cs) ds (one h d) k = one h (counts_both fs gs cs ds d k)

gave_none : (f : Feeder Back) → GivesCounts f f []
gave_none f = record { units = []; counts = nil; fed = sym (append-nil (fed f)); same = search rules }

gave_one : (a b : Feeder Back) (f : FilledValue) (x : CountedValue) → fed b ≡ fed a ++ back_of x ∷ [] → IsCountOf f x
    → IsSameFeeder a b → GivesCounts a b (f ∷ [])
gave_one a b f x e i t = record { units = x ∷ []; counts = one i nil; fed = e; same = t }

gave_both : (a b c : Feeder Back) (fs gs : List FilledValue) → GivesCounts a b fs → GivesCounts b c gs → GivesCounts a c (fs ++ gs)
gave_both a b c fs gs h k = record {
  units = h.units ++ k.units;
  counts = counts_both fs gs h.units k.units h.counts k.counts;
  fed = k.fed ∙ ap (λ l. l ++ map back_of k.units) h.fed ∙ append_assoc (fed a) (map back_of h.units) (map back_of k.units)
      ∙ ap (λ l. fed a ++ l) (sym (map-append back_of h.units k.units));
  same = same_feeders a b c h.same k.same;
}

-- what holds of each answer of a kind leads to another fact of it
pub ok_leads : {A B : Type 0} {P Q : Type 0} → (r : Result A B) → (P → Q) → OnOk r P → OnOk r Q
ok_leads (Ok x) f h = f h
ok_leads (Err e) f h = tt

pub err_leads : {A B : Type 0} {P Q : B → Type 0} → (r : Result A B) → ((e : B) → P e → Q e) → IfErr r P → IfErr r Q
err_leads (Ok x) f h = tt
err_leads (Err e) f h = f e h

-- nothing was handed over and nothing came back; or its helper has one more
pub hands_none : (w now : Worker) → now.number ≡ w.number → now.takers ≡ w.takers → now.gauge ≡ w.gauge → now.back ≡ w.back
    → waiting_of now ≡ waiting_of w → HandsOver w now []
hands_none w now number takers gauge back still = record {
  number = number;
  takers = takers;
  gauge = gauge;
  given = [];
  gave = subst (λ f. GivesCounts w.back f []) (sym back) (gave_none w.back);
  all = append-nil (waiting_of w) ∙ sym still;
}

pub hands_one : (w now : Worker) (f : FilledValue) → now.number ≡ w.number → now.takers ≡ w.takers → now.gauge ≡ w.gauge
    → now.back ≡ w.back → waiting_of now ≡ waiting_of w ++ f ∷ [] → HandsOver w now (f ∷ [])
hands_one w now f number takers gauge back more = record {
  number = number;
  takers = takers;
  gauge = gauge;
  given = [];
  gave = subst (λ k. GivesCounts w.back k []) (sym back) (gave_none w.back);
  all = sym more;
}

-- the oldest came back and was fed back
pub hands_back : (w now : Worker) (x : CountedValue) → now.number ≡ w.number → now.takers ≡ w.takers → now.gauge ≡ w.gauge
    → TakesBack (waiting_of w) (waiting_of now) x → fed now.back ≡ fed w.back ++ back_of x ∷ [] → IsSameFeeder w.back now.back
    → HandsOver w now []
hands_back w now x number takers gauge came back same = record {
  number = number;
  takers = takers;
  gauge = gauge;
  given = came.oldest ∷ [];
  gave = gave_one w.back now.back came.oldest x back came.counts same;
  all = append-nil (waiting_of w) ∙ came.came;
}

-- its helper had nothing, and the worker counted it itself
pub hands_counted : (w now : Worker) (f : FilledValue) (x : CountedValue) → now.number ≡ w.number → now.takers ≡ w.takers
    → now.gauge ≡ w.gauge → IsIdle w → waiting_of now ≡ waiting_of w → IsCountOf f x → fed now.back ≡ fed w.back ++ back_of x ∷ []
    → IsSameFeeder w.back now.back → HandsOver w now (f ∷ [])
hands_counted w now f x number takers gauge idle still count back same = record {
  number = number;
  takers = takers;
  gauge = gauge;
  given = f ∷ [];
  gave = gave_one w.back now.back f x back count same;
  all = ap (λ l. l ++ f ∷ []) idle ∙ ap (λ l. f ∷ l) (sym (still ∙ idle));
}

pub hands_both : (a b c : Worker) (fs gs : List FilledValue) → HandsOver a b fs → HandsOver b c gs → HandsOver a c (fs ++ gs)
hands_both a b c fs gs h k = record {
  number = k.number ∙ h.number;
  takers = k.takers ∙ h.takers;
  gauge = k.gauge ∙ h.gauge;
  given = h.given ++ k.given;
  gave = gave_both a.back b.back c.back h.given k.given h.gave k.gave;
  all = sym (append_assoc (waiting_of a) fs gs) ∙ ap (λ l. l ++ gs) h.all ∙ append_assoc h.given (waiting_of b) gs
      ∙ ap (λ l. h.given ++ l) k.all ∙ sym (append_assoc h.given k.given (waiting_of c));
}

pub turn_same : {A : Type 0} → (n : ℕ) (f h : ℕ → List A) → ((g : ℕ) → g < n → f g ≡ h g) → in_turn n f ≡ in_turn n h
turn_same zero f h e = refl
turn_same (suc n) f h e = ap (λ l. l ++ f n) (turn_same n f h (λ g l. e g (omega arith))) ∙ ap (λ l. in_turn n h ++ l) (e n (omega arith))

-- the worker has begun a round
pub begun : (w now : Worker) → now.number ≡ w.number → now.takers ≡ w.takers → now.back ≡ w.back → now.gauge ≡ 0
    → waiting_of now ≡ waiting_of w → IsIdle w → WorkedSoFar w now
begun w now number takers back at still idle = record {
  number = number;
  takers = ap (λ t. vec_len t) takers;
  ends = λ g d. subst (λ t. IsSameTaker (get_or w.takers.items g d) (get_or t.items g d)) (sym takers) (search rules);
  blocks = λ g. [];
  marked = λ g d m. absurd (omega (arith, m, at));
  unmarked = λ g d m. ap (λ t. taken (get_or t.items g d)) takers ∙ sym (append-nil (taken (get_or w.takers.items g d)));
  later = λ g m. refl;
  within = omega (arith, at);
  ended = λ e. refl;
  given = [];
  gave = subst (λ f. GivesCounts w.back f []) (sym back) (gave_none w.back);
  all = subst (λ k. in_turn k (λ g. []) ++ [] ≡ waiting_of now) (sym at) (sym (still ∙ idle));
}

-- what its helper had came back, or some of it
pub worked_hands : (first w now : Worker) → WorkedSoFar first w → HandsOver w now [] → WorkedSoFar first now
worked_hands first w now h o = record {
  number = o.number ∙ h.number;
  takers = ap (λ t. vec_len t) o.takers ∙ h.takers;
  ends = λ g d. subst (λ t. IsSameTaker (get_or first.takers.items g d) (get_or t.items g d)) (sym o.takers) (h.ends g d);
  blocks = h.blocks;
  marked = λ g d m. ap (λ t. taken (get_or t.items g d)) o.takers ∙ h.marked g d (omega (arith, m, o.gauge));
  unmarked = λ g d m. ap (λ t. taken (get_or t.items g d)) o.takers ∙ h.unmarked g d (omega (arith, m, o.gauge));
  later = λ g m. h.later g (omega (arith, m, o.gauge));
  within = omega (arith, o.gauge, h.within);
  ended = λ e. ap h.blocks o.gauge ∙ h.ended (sym o.gauge ∙ e);
  given = h.given ++ o.given;
  gave = gave_both first.back w.back now.back h.given o.given h.gave o.gave;
  all = subst (λ i. in_turn i h.blocks ++ h.blocks i ≡ (h.given ++ o.given) ++ waiting_of now) (sym o.gauge)
      (h.all ∙ ap (λ l. h.given ++ l) (sym (append-nil (waiting_of w)) ∙ o.all) ∙ sym (append_assoc h.given o.given (waiting_of now)));
}

-- an item was taken from the ring that the worker is at, whose end is now t
module _ (first w : Worker) (t : Taker Item) (h : WorkedSoFar first w) (l : w.gauge < length w.takers.items)
    (same : (d : Taker Item) → IsSameTaker (get_or w.takers.items w.gauge d) t) where
  abbrev items : List (Taker Item)
  items = set w.takers.items w.gauge t

  here : (d : Taker Item) → get_or items w.gauge d ≡ t
  here d = get_or-set_same w.takers.items w.gauge t d l

  there : (g : ℕ) (d : Taker Item) → g ≢ w.gauge → get_or items g d ≡ get_or w.takers.items g d
  there g d o = get_or-set_other w.takers.items w.gauge g t d o

  ends_by : (g : ℕ) (d : Taker Item) → ((g ≡ w.gauge) ⊎ (g ≡ w.gauge → ⊥))
      → IsSameTaker (get_or first.takers.items g d) (get_or items g d)
  ends_by g d (inl e) = subst (λ i. IsSameTaker (get_or first.takers.items i d) (get_or items i d)) (sym e)
      (subst (IsSameTaker (get_or first.takers.items w.gauge d)) (sym (here d))
      (same_takers (get_or first.takers.items w.gauge d) (get_or w.takers.items w.gauge d) t (h.ends w.gauge d) (same d)))
  ends_by g d (inr o) = subst (IsSameTaker (get_or first.takers.items g d)) (sym (there g d o)) (h.ends g d)

  -- nothing came
  pub none_taken : (now : Worker) → now.number ≡ w.number → vec_len now.takers ≡ vec_len w.takers → now.takers.items ≡ items
      → now.back ≡ w.back → now.gauge ≡ w.gauge → waiting_of now ≡ waiting_of w
      → ((d : Taker Item) → taken t ≡ taken (get_or w.takers.items w.gauge d)) → WorkedSoFar first now
  none_taken now number wide are back at waits came = record {
    number = number ∙ h.number;
    takers = wide ∙ h.takers;
    ends = λ g d. subst (λ x. IsSameTaker (get_or first.takers.items g d) (get_or x g d)) (sym are) (ends_by g d (cases_eq g w.gauge));
    blocks = h.blocks;
    marked = λ g d m. ap (λ x. taken (get_or x g d)) are ∙ still g d (cases_eq g w.gauge) ∙ h.marked g d (omega (arith, m, at));
    unmarked = λ g d m. ap (λ x. taken (get_or x g d)) are ∙ still g d (cases_eq g w.gauge) ∙ h.unmarked g d (omega (arith, m, at));
    later = λ g m. h.later g (omega (arith, m, at));
    within = omega (arith, at, h.within);
    ended = λ e. ap h.blocks at ∙ h.ended (sym at ∙ e);
    given = h.given;
    gave = subst (λ f. GivesCounts first.back f h.given) (sym back) h.gave;
    all = subst (λ i. in_turn i h.blocks ++ h.blocks i ≡ h.given ++ waiting_of now) (sym at)
        (h.all ∙ ap (λ l. h.given ++ l) (sym waits));
  }
    where
      still : (g : ℕ) (d : Taker Item) → ((g ≡ w.gauge) ⊎ (g ≡ w.gauge → ⊥)) → taken (get_or items g d) ≡ taken (get_or w.takers.items g d)
      still g d (inl e) = ap (λ i. taken (get_or items i d)) e ∙ ap (λ x. taken x) (here d) ∙ came d
          ∙ ap (λ i. taken (get_or w.takers.items i d)) (sym e)
      still g d (inr o) = ap (λ x. taken x) (there g d o)

  -- the mark came
  pub mark_taken : (now : Worker) → now.number ≡ w.number → vec_len now.takers ≡ vec_len w.takers → now.takers.items ≡ items
      → now.back ≡ w.back → now.gauge ≡ w.gauge + 1 → waiting_of now ≡ waiting_of w
      → ((d : Taker Item) → taken t ≡ taken (get_or w.takers.items w.gauge d) ++ Mark ∷ []) → WorkedSoFar first now
  mark_taken now number wide are back at waits came =
      let one_more : w.gauge + 1 ≡ suc w.gauge = omega arith in
      let next : h.blocks (w.gauge + 1) ≡ [] = h.later (w.gauge + 1) (omega arith) in
      let turn : in_turn (w.gauge + 1) h.blocks ++ h.blocks (w.gauge + 1) ≡ in_turn w.gauge h.blocks ++ h.blocks w.gauge =
      ap (λ l. in_turn (w.gauge + 1) h.blocks ++ l) next ∙ append-nil (in_turn (w.gauge + 1) h.blocks)
      ∙ ap (λ i. in_turn i h.blocks) one_more in
      record {
        number = number ∙ h.number;
        takers = wide ∙ h.takers;
        ends = λ g d. subst (λ x. IsSameTaker (get_or first.takers.items g d) (get_or x g d)) (sym are) (ends_by g d (cases_eq g w.gauge));
        blocks = h.blocks;
        marked = λ g d m. ap (λ x. taken (get_or x g d)) are ∙ up_to g d (omega (arith, m, at)) (cases_eq g w.gauge);
        unmarked = λ g d m. ap (λ x. taken (get_or x g d)) are ∙ ap (λ x. taken x) (there g d (λ e. omega (arith, m, at, e)))
            ∙ h.unmarked g d (omega (arith, m, at));
        later = λ g m. h.later g (omega (arith, m, at));
        within = let n = w.takers.ok.0 in omega (arith, at, l, n, h.takers);
        ended = λ e. ap h.blocks at ∙ next;
        given = h.given;
        gave = subst (λ f. GivesCounts first.back f h.given) (sym back) h.gave;
        all = subst (λ i. in_turn i h.blocks ++ h.blocks i ≡ h.given ++ waiting_of now) (sym at)
            (turn ∙ h.all ∙ ap (λ l. h.given ++ l) (sym waits));
      }
    where
      up_to : (g : ℕ) (d : Taker Item) → g ≤ w.gauge → ((g ≡ w.gauge) ⊎ (g ≡ w.gauge → ⊥))
          → taken (get_or items g d) ≡ taken (get_or first.takers.items g d) ++ round_of (h.blocks g)
      up_to g d m (inl e) = subst (λ i. taken (get_or items i d) ≡ taken (get_or first.takers.items i d) ++ round_of (h.blocks i)) (sym e)
          (ap (λ x. taken x) (here d) ∙ came d ∙ ap (λ x. x ++ Mark ∷ []) (h.unmarked w.gauge d (omega arith))
          ∙ append_assoc (taken (get_or first.takers.items w.gauge d)) (map block_of (h.blocks w.gauge)) (Mark ∷ []))
      up_to g d m (inr o) = ap (λ x. taken x) (there g d o) ∙ h.marked g d (omega (arith, m, o))

  -- a block came, and was handed over
  pub block_taken : (mid now : Worker) (f : FilledValue) → HandsOver mid now (f ∷ []) → mid.number ≡ w.number
      → vec_len mid.takers ≡ vec_len w.takers → mid.takers.items ≡ items → mid.back ≡ w.back → mid.gauge ≡ w.gauge
      → waiting_of mid ≡ waiting_of w → ((d : Taker Item) → taken t ≡ taken (get_or w.takers.items w.gauge d) ++ block_of f ∷ [])
      → WorkedSoFar first now
  block_taken mid now f o mid_number mid_wide mid_are mid_back mid_at waits came =
      let number : now.number ≡ w.number = o.number ∙ mid_number in
      let wide : vec_len now.takers ≡ vec_len w.takers = ap (λ x. vec_len x) o.takers ∙ mid_wide in
      let are : now.takers.items ≡ items = ap (λ x. x.items) o.takers ∙ mid_are in
      let at : now.gauge ≡ w.gauge = o.gauge ∙ mid_at in
      let old = h.blocks w.gauge in
      let new = with_value h.blocks w.gauge (old ++ f ∷ []) in
      let at_same : new w.gauge ≡ old ++ f ∷ [] = changed_same h.blocks w.gauge (old ++ f ∷ []) in
      let turn : in_turn w.gauge new ++ new w.gauge ≡ (in_turn w.gauge h.blocks ++ old) ++ f ∷ [] =
      ap (λ l. in_turn w.gauge new ++ l) at_same
      ∙ ap (λ l. l ++ (old ++ f ∷ [])) (turn_same w.gauge new h.blocks
      (λ g m. changed_other h.blocks w.gauge (old ++ f ∷ []) g (λ e. omega (arith, m, e))))
      ∙ sym (append_assoc (in_turn w.gauge h.blocks) old (f ∷ [])) in
      record {
        number = number ∙ h.number;
        takers = wide ∙ h.takers;
        ends = λ g d. subst (λ y. IsSameTaker (get_or first.takers.items g d) (get_or y g d)) (sym are) (ends_by g d (cases_eq g w.gauge));
        blocks = new;
        marked = λ g d m. (
            let o : g ≢ w.gauge = λ e. omega (arith, m, at, e) in
            ap (λ y. taken (get_or y g d)) are ∙ ap (λ y. taken y) (there g d o) ∙ h.marked g d (omega (arith, m, at))
            ∙ ap (λ us. taken (get_or first.takers.items g d) ++ round_of us)
            (sym (changed_other h.blocks w.gauge (old ++ f ∷ []) g o)));
        unmarked = λ g d m. ap (λ y. taken (get_or y g d)) are ∙ from g d (omega (arith, m, at)) (cases_eq g w.gauge);
        later = λ g m. changed_other h.blocks w.gauge (old ++ f ∷ []) g (λ e. omega (arith, m, at, e))
            ∙ h.later g (omega (arith, m, at));
        within = omega (arith, at, h.within);
        ended = λ e. absurd (let n = w.takers.ok.0 in omega (arith, e, at, l, n, h.takers));
        given = h.given ++ o.given;
        gave = gave_both first.back mid.back now.back h.given o.given
            (subst (λ k. GivesCounts first.back k h.given) (sym mid_back) h.gave) o.gave;
        all = subst (λ i. in_turn i new ++ new i ≡ (h.given ++ o.given) ++ waiting_of now) (sym at)
            (turn ∙ ap (λ l. l ++ f ∷ []) h.all ∙ append_assoc h.given (waiting_of w) (f ∷ [])
            ∙ ap (λ l. h.given ++ (l ++ f ∷ [])) (sym waits) ∙ ap (λ l. h.given ++ l) o.all
            ∙ sym (append_assoc h.given o.given (waiting_of now)));
      }
    where
      from : (g : ℕ) (d : Taker Item) → w.gauge ≤ g → ((g ≡ w.gauge) ⊎ (g ≡ w.gauge → ⊥))
          → taken (get_or items g d)
          ≡ taken (get_or first.takers.items g d) ++ map block_of (with_value h.blocks w.gauge (h.blocks w.gauge ++ f ∷ []) g)
      from g d m (inl e) = subst (λ i. taken (get_or items i d)
          ≡ taken (get_or first.takers.items i d) ++ map block_of (with_value h.blocks w.gauge (h.blocks w.gauge ++ f ∷ []) i)) (sym e)
          (ap (λ y. taken y) (here d) ∙ came d ∙ ap (λ y. y ++ block_of f ∷ []) (h.unmarked w.gauge d (omega arith))
          ∙ append_assoc (taken (get_or first.takers.items w.gauge d)) (map block_of (h.blocks w.gauge)) (block_of f ∷ [])
          ∙ ap (λ y. taken (get_or first.takers.items w.gauge d) ++ y)
          (sym (map-append block_of (h.blocks w.gauge) (f ∷ []))
          ∙ ap (map block_of) (sym (changed_same h.blocks w.gauge (h.blocks w.gauge ++ f ∷ [])))))
      from g d m (inr o) = ap (λ y. taken y) (there g d o) ∙ h.unmarked g d m
          ∙ ap (λ us. taken (get_or first.takers.items g d) ++ map block_of us)
          (sym (changed_other h.blocks w.gauge (h.blocks w.gauge ++ f ∷ []) g o))

-- each ring was taken to its mark, its helper has nothing, and the mark of the return ring was fed
pub work_ended : (first w now : Worker) → WorkedSoFar first w → vec_len w.takers ≤ w.gauge → IsIdle w → now.number ≡ w.number
    → now.takers ≡ w.takers → waiting_of now ≡ waiting_of w → fed now.back ≡ fed w.back ++ Over ∷ [] → IsSameFeeder w.back now.back
    → WorkJob first now
work_ended first w now h past idle number takers still back end =
    let at : w.gauge ≡ vec_len first.takers = omega (arith, past, h.within, h.takers) in
    let turn : in_turn w.gauge h.blocks ++ h.blocks w.gauge ≡ in_turn (vec_len first.takers) h.blocks =
    ap (λ l. in_turn w.gauge h.blocks ++ l) (h.ended at) ∙ append-nil (in_turn w.gauge h.blocks) ∙ ap (λ i. in_turn i h.blocks) at in
    let all : h.given ≡ in_turn (vec_len first.takers) h.blocks =
    sym (append-nil h.given) ∙ ap (λ l. h.given ++ l) (sym idle) ∙ sym h.all ∙ turn in
    record {
      number = number ∙ h.number;
      takers = ap (λ t. vec_len t) takers ∙ h.takers;
      ends = λ g d. subst (λ t. IsSameTaker (get_or first.takers.items g d) (get_or t.items g d)) (sym takers) (h.ends g d);
      blocks = h.blocks;
      took = λ g d m. ap (λ t. taken (get_or t.items g d)) takers ∙ h.marked g d (omega (arith, m, at));
      units = h.gave.units;
      counts = subst (λ fs. AreCounts fs h.gave.units) all h.gave.counts;
      fed = back ∙ ap (λ l. l ++ Over ∷ []) h.gave.fed ∙ append_assoc (fed first.back) (map back_of h.gave.units) (Over ∷ []);
      same = same_feeders first.back w.back now.back h.gave.same end;
      idle = still ∙ idle;
    }
