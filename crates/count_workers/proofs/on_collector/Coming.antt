-- What one look more tells of the units that came.
use Rattle.std.proofs.Common.{◌≡◌, ◌≢◌, ◌⊎◌, inl, inr, ◌<◌, ℕ, List, [], ◌∷◌, ◌++◌, length, map, get_or, set, refl, sym, ap, ◌∙◌, subst, rules, append_assoc, arith, false}
use Rattle.std.proofs.lemmas.List.{append-nil, get_or-set_same, get_or-set_other, map-append}
use Rattle.std.proofs.lemmas.Bool.{cases_eq}
use Rattle.std.proofs.Math.ListN.{length-set}
use Rattle.count_workers.specs.declared.gauge_ring.taker.Taker.{Taker}
use Rattle.count_workers.specs.gauge_ring.Ends.{taken, IsSameTaker}
use Rattle.count_workers.proofs.on_gauge_ring.Ends.{same_takers}
use Rattle.board.specs.block_pool.Units.{CountedValue, PoolValue}
use Rattle.board.specs.Board.{BoardValue}
use Rattle.board.specs.flow.Flow.{with_value}
use Rattle.board.proofs.on_flow.Counting.{changed_same, changed_other}
use Rattle.board.specs.deposits.Deposited.{DepositsUnits}
use Rattle.board.specs.deposits.Mixed.IsMixOf.{nothing}
use Rattle.board.proofs.on_deposits.Going.{deposited_none, deposited_more}
use Rattle.board.proofs.on_deposits.Mixing.{mixed_next}
use Rattle.count_workers.specs.declared.block_workers.item.Back.{Back}
use Rattle.count_workers.specs.declared.block_workers.item.Back.TheVariants.{Over}
use Rattle.count_workers.specs.block_workers.Working.{back_of}
use Rattle.count_workers.proofs.on_block_workers.Blocks.{no_both}
use Rattle.count_workers.specs.declared.collector.collecting.Return.{Return}
use Rattle.count_workers.specs.collector.Collecting.{IsAwaited, NoUnit, OneUnit, LooksAtRing, UnitsCameSoFar, IsCollectedSoFar, IsCollected}

same_return : (a : Taker Back) → IsSameTaker a a
same_return a = search rules

-- no unit came from the ring
still_coming : (old now new : Return) (us : List CountedValue) → UnitsCameSoFar old now us → IsSameTaker now.taker new.taker
    → (((new.awaited ≡ now.awaited) × (taken new.taker ≡ taken now.taker)) ⊎
    (IsAwaited now × (new.awaited ≡ false) × (taken new.taker ≡ taken now.taker ++ Over ∷ []))) → UnitsCameSoFar old new us
still_coming old now new us h s (inl e) = record {
  same = same_takers old.taker now.taker new.taker h.same s;
  awaited = λ o. e.1 ∙ h.awaited (sym e.0 ∙ o);
  marked = λ o. e.1 ∙ h.marked (sym e.0 ∙ o);
}
still_coming old now new us h s (inr e) = record {
  same = same_takers old.taker now.taker new.taker h.same s;
  awaited = λ o. absurd (no_both new.awaited o e.1);
  marked = λ o. e.2 ∙ ap (λ l. l ++ Over ∷ []) (h.awaited e.0) ∙ append_assoc (taken old.taker) (map back_of us) (Over ∷ []);
}

-- a unit came from it
more_coming : (old now new : Return) (us : List CountedValue) (u : CountedValue) → UnitsCameSoFar old now us →
    IsSameTaker now.taker new.taker
    → IsAwaited now × IsAwaited new → taken new.taker ≡ taken now.taker ++ back_of u ∷ [] → UnitsCameSoFar old new (us ++ u ∷ [])
more_coming old now new us u h s o t = record {
  same = same_takers old.taker now.taker new.taker h.same s;
  awaited = λ k. t ∙ ap (λ l. l ++ back_of u ∷ []) (h.awaited o.0) ∙ append_assoc (taken old.taker) (map back_of us) (back_of u ∷ [])
      ∙ ap (λ l. taken old.taker ++ l) (sym (map-append back_of us (u ∷ [])));
  marked = λ k. absurd (no_both new.awaited o.1 k);
}

-- one of the rings was looked at
each_coming : (olds nows : List Return) (f h : ℕ → List CountedValue) (v : ℕ) (y : Return) → v < length nows
    → ((u : ℕ) (d : Return) → u < length olds → UnitsCameSoFar (get_or olds u d) (get_or nows u d) (f u))
    → ((d : Return) → UnitsCameSoFar (get_or olds v d) y (h v)) → ((u : ℕ) → u ≢ v → h u ≡ f u)
    → (u : ℕ) (d : Return) → u < length olds → UnitsCameSoFar (get_or olds u d) (get_or (set nows v y) u d) (h u)
each_coming olds nows f h v y l each new others u d m = by (cases_eq u v)
  where
    by : ((u ≡ v) ⊎ (u ≡ v → ⊥)) → UnitsCameSoFar (get_or olds u d) (get_or (set nows v y) u d) (h u)
    by (inl e) = subst (λ i. UnitsCameSoFar (get_or olds i d) (get_or (set nows v y) i d) (h i)) (sym e)
        (subst (λ x. UnitsCameSoFar (get_or olds v d) x (h v)) (sym (get_or-set_same nows v y d l)) (new d))
    by (inr o) = subst (λ x. UnitsCameSoFar (get_or olds u d) x (h u)) (sym (get_or-set_other nows v u y d o))
        (subst (UnitsCameSoFar (get_or olds u d) (get_or nows u d)) (sym (others u o)) (each u d m))

pub none_came : (b : BoardValue) (p : PoolValue) (rs : List Return) → ((v : ℕ) (d : Return) → v < length rs → IsAwaited (get_or rs v d))
    → IsCollectedSoFar b b p p rs rs
none_came b p rs all = record {
  long = refl;
  lists = λ v. [];
  each = λ v d l. record {
    same = same_return (get_or rs v d).taker;
    awaited = λ o. sym (append-nil (taken (get_or rs v d).taker));
    marked =
        λ o. absurd (no_both (get_or rs v d).awaited (all v d l) o);
  };
  units = [];
  mixed = nothing (λ v. refl);
  deposited = deposited_none b p;
}

pub looked_more : (b c d : BoardValue) (p q r : PoolValue) (olds nows : List Return) (v : ℕ) (x y : Return) → v < length nows
    → ((e : Return) → get_or nows v e ≡ x) → IsCollectedSoFar b c p q olds nows → LooksAtRing c d q r x y →
    IsCollectedSoFar b d p r olds (set nows v y)
looked_more b c d p q r olds nows v x y l at h k = by k.came
  where
    was : (e : Return) → UnitsCameSoFar (get_or olds v e) x (h.lists v)
    was e = subst (λ z. UnitsCameSoFar (get_or olds v e) z (h.lists v)) (at e) (h.each v e (omega (arith, l, h.long)))

    by : (NoUnit c d q r x y ⊎ OneUnit c d q r x y) → IsCollectedSoFar b d p r olds (set nows v y)
    by (inl n) = record {
      long = length-set nows v y ∙ h.long;
      lists = h.lists;
      each = each_coming olds nows h.lists h.lists v y l h.each (λ e. still_coming (get_or olds v e) x y (h.lists v) (was e) k.same n.ring)
          (λ u o. refl);
      units = h.units;
      mixed = h.mixed;
      deposited = subst (λ z. DepositsUnits b z p r h.units) (sym n.board)
          (subst (λ z. DepositsUnits b c p z h.units) (sym n.pool) h.deposited);
    }
    by (inr n) = record {
      long = length-set nows v y ∙ h.long;
      lists = with_value h.lists v (h.lists v ++ n.unit ∷ []);
      each = each_coming olds nows h.lists (with_value h.lists v (h.lists v ++ n.unit ∷ [])) v y l h.each
          (λ e. subst (UnitsCameSoFar (get_or olds v e) y) (sym (changed_same h.lists v (h.lists v ++ n.unit ∷ [])))
          (more_coming (get_or olds v e) x y (h.lists v) n.unit (was e) k.same n.awaited n.taken))
          (λ u o. changed_other h.lists v (h.lists v ++ n.unit ∷ []) u o);
      units = h.units ++ n.unit ∷ [];
      mixed = mixed_next (length olds) h.lists h.units n.unit v (omega (arith, l, h.long)) h.mixed;
      deposited = deposited_more b c d p q r h.units n.unit h.deposited n.stepped;
    }

-- the board and the pool have one grid still
pub looked_grid : (c d : BoardValue) (q r : PoolValue) (x y : Return) → LooksAtRing c d q r x y → c.grid ≡ q.grid → d.grid ≡ r.grid
looked_grid c d q r x y k e = by k.came
  where
    by : (NoUnit c d q r x y ⊎ OneUnit c d q r x y) → d.grid ≡ r.grid
    by (inl n) = ap (λ (z : BoardValue). z.grid) n.board ∙ e ∙ sym (ap (λ (z : PoolValue). z.grid) n.pool)
    by (inr n) = n.stepped.board.grid ∙ e ∙ sym n.stepped.pool.grid

pub all_came : (b c : BoardValue) (p q : PoolValue) (olds news : List Return) → IsCollectedSoFar b c p q olds news
    → ((v : ℕ) (d : Return) → v < length news → (get_or news v d).awaited ≡ false) → IsCollected b c p q olds news
all_came b c p q olds news h all = record {
  long = h.long;
  lists = h.lists;
  taken = λ v d l. (h.each v d l).marked (all v d (omega (arith, l, h.long)));
  same = λ v d l. (h.each v d l).same;
  units = h.units;
  mixed = h.mixed;
  deposited = h.deposited;
}
