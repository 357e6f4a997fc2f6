-- What is known of both ends of the rings, once they are in one thread.
use Rattle.std.proofs.Common.{◌≡◌, ◌⊎◌, inl, inr, ◌<◌, ℕ, List, ◌++◌, length, get_or, set, refl, sym, ap, ◌∙◌, subst, rules}
use Rattle.std.proofs.lemmas.List.{get_or-set_same, get_or-set_other}
use Rattle.std.proofs.lemmas.Bool.{cases_eq}
use Rattle.count_workers.proofs.on_gauge_ring.Ends.{same_feeders, same_takers, still_one}
use Rattle.count_workers.specs.declared.block_workers.worker.Worker.{Worker}
use Rattle.count_workers.specs.declared.block_workers.jobs.Reader.{Reader}
use Rattle.count_workers.specs.block_workers.Jobs.{SameRead, SameWork, RingAt, Fifo}

set_or : {A : Type 0} → (R : A → A → Type 0) (xs ys : List A) (k : ℕ) (y : A) (i : ℕ) (d : A) → k < length ys
    → R (get_or xs i d) (get_or ys i d) → R (get_or xs k d) y → ((i ≡ k) ⊎ (i ≡ k → ⊥)) → R (get_or xs i d) (get_or (set ys k y) i d)
set_or R xs ys k y i d l h new (inl e) = subst (λ j. R (get_or xs j d) (get_or (set ys k y) j d)) (sym e)
    (subst (R (get_or xs k d)) (sym (get_or-set_same ys k y d l)) new)
set_or R xs ys k y i d l h new (inr e) = subst (R (get_or xs i d)) (sym (get_or-set_other ys k i y d e)) h

-- each is as it was to the first, and so is the new one
pub set_related : {A : Type 0} → (R : A → A → Type 0) (xs ys : List A) (k : ℕ) (y : A) → k < length ys
    → ((i : ℕ) (d : A) → R (get_or xs i d) (get_or ys i d)) → ((d : A) → R (get_or xs k d) y) → (i : ℕ) (d : A)
    → R (get_or xs i d) (get_or (set ys k y) i d)
set_related R xs ys k y l h new i d = set_or R xs ys k y i d l (h i d) (new d) (cases_eq i k)

pub work_on : (a b c : Worker) → SameWork a b → SameWork b c → SameWork a c
work_on a b c h k = record {
  number = k.number ∙ h.number;
  back = (k.back.0 ∙ h.back.0, same_feeders a.back b.back c.back h.back.1 k.back.1);
  line = k.line ∙ h.line;
  takers = k.takers ∙ h.takers;
  taken = λ g d. k.taken g d ∙ h.taken g d;
  ends = λ g d. same_takers (get_or a.takers.items g d) (get_or b.takers.items g d) (get_or c.takers.items g d) (h.ends g d) (k.ends g d);
}

pub work_same : (a : Worker) → SameWork a a
work_same a = record { number = refl; back = (refl, search rules); line = refl; takers = refl; taken = λ g d. refl; ends = λ g d. search rules }

pub read_on : {C : Type 0} → (a b c : Reader C) → SameRead a b → SameRead b c → SameRead a c
read_on a b c h k = record {
  src = k.src ∙ h.src;
  gauge = k.gauge ∙ h.gauge;
  gain = k.gain ∙ h.gain;
  at = k.at ∙ h.at;
  end = k.end ∙ h.end;
  block = k.block ∙ h.block;
  grid = k.grid ∙ h.grid;
  blanks = k.blanks ∙ h.blanks;
  feeders = k.feeders ∙ h.feeders;
  fed = λ v d. k.fed v d ∙ h.fed v d;
  ends = λ v d. same_feeders (get_or a.desk.feeders.items v d) (get_or b.desk.feeders.items v d) (get_or c.desk.feeders.items v d)
      (h.ends v d) (k.ends v d);
}

pub read_same : {C : Type 0} → (a : Reader C) → SameRead a a
read_same a = record {
  src = refl;
  gauge = refl;
  gain = refl;
  at = refl;
  end = refl;
  block = refl;
  grid = refl;
  blanks = refl;
  feeders =
      refl;
  fed = λ v d. refl;
  ends = λ v d. search rules;
}

pub ring_still : {C : Type 0} → (w w' : Worker) (r r' : Reader C) (g v : ℕ) → SameWork w w' → SameRead r r' → RingAt w r g v
    → RingAt w' r' g v
ring_still w w' r r' g v a b h = record {
  one =
      λ d e. still_one (get_or r.desk.feeders.items v e) (get_or r'.desk.feeders.items v e) (get_or w.takers.items g d)
      (get_or w'.takers.items g d) (h.one d e) (b.ends v e) (a.ends g d);
}

pub fifo_back : {C : Type 0} → (w w' : Worker) (r r' : Reader C) (g v : ℕ) → SameWork w w' → SameRead r r' → Fifo w' r' g v → Fifo w r g v
fifo_back w w' r r' g v a b h = record { left = h.left; fifo = λ d e. sym (b.fed v e) ∙ h.fifo d e ∙ ap (λ l. l ++ h.left) (a.taken g d) }
