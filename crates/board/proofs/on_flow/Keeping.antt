-- Each event keeps the flow's invariant.
use Rattle.std.proofs.Common.{◌≡◌, ◌≢◌, ◌⊎◌, inl, inr, ◌+◌, ◌-◌, ◌*◌, ◌<◌, ◌≤◌, ℕ, ℤ, List, [], ◌∷◌, ◌++◌, length, take, drop, min, true, refl, sym, ap, ◌∙◌, subst, arith, length-append}
use Rattle.std.proofs.lemmas.Bool.Decides.{nat_tests}
use Rattle.std.proofs.lemmas.Bool.{cases_eq, cases_lt}
use Rattle.std.proofs.Math.Nat.{mul-le-mul_right}
use Rattle.segment.specs.declared.segment_rules.name.Name.{Name}
use Rattle.board.specs.flow.Flow.{Flow, Event, hits_of_name, hits, with_value, with_value_at, NamesCover, EndsAt, is_left_over, next, worker_of_next, IsAllowed, AllAllowed, IsStart, after, run}
use Rattle.board.specs.flow.Flow.Event.{Feed, Count, Deposit, Commit, Stop}
use Rattle.board.specs.flow.Kept.{Each, NamesAscend, over, between, everywhere, IsBlock, IsDealt, IsLine, MeetsInvariant, IsThrough}
use Rattle.board.specs.flow.Kept.Each.{none, both}
use Rattle.board.specs.flow.Kept.NamesAscend.{empty}
use Rattle.board.proofs.on_flow.Counting.{hits-append, hits-split, each_append, each_map, each_drop, each_take, each_in, ascends_drop, ascends_push, hits_other, hits_past, hits_of_name_inside, found, hits_filter, each_filter, each_both, over_same, over_one, over_at, over_none, changed_same, changed_other, changed_at_same, changed_at_gauge, changed_at_worker, changed_all, changed_at_all, between_parts, hits_of_name_between, between_one, nothing_between}

module _ (block workers : ℕ) where
  -- a block stays one where nothing is stored and no less is read
  grown : (s t : Flow) (g : ℕ) (n : Name) → t.stored g ≡ s.stored g → t.samples g ≡ s.samples g → s.read g ≤ t.read g
      → IsBlock block s g n → IsBlock block t g n
  grown s t g n a b c h = record {
    gauge = h.gauge;
    number = h.number;
    from = omega (arith, h.from, a);
    to = h.to ∙ ap (λ l. min (n.from + block) (length l)) (sym b);
    some = h.some;
    read = omega (arith, h.read, c);
  }

  -- what the number of blocks fed tells is kept where none is fed
  line_kept : (s t : Flow) (i : ℕ) (h : IsLine block workers s i) → s.stored i ≤ t.stored i → t.read i ≡ s.read i
      → t.samples i ≡ s.samples i → t.fed i ≡ s.fed i
      → ((v : ℕ) → v < workers → Each (IsDealt block workers h.start (s.fed i) v) (t.rings i v)) → IsLine block workers t i
  line_kept s t i h a b c d rings = record {
    start = h.start;
    stored = omega (arith, h.stored, a);
    read = b ∙ h.read ∙ ap (λ l. min (h.start + s.fed i * block) (length l)) (sym c)
        ∙ ap (λ k. min (h.start + k * block) (length (t.samples i))) (sym d);
    rings = λ v w. subst (λ k. Each (IsDealt block workers h.start k v) (t.rings i v)) (sym d) (rings v w);
  }

  line_fed : (s : Flow) (g : ℕ) → IsLine block workers s g → s.read g < length (s.samples g)
      → IsLine block workers (after block workers s (Feed g)) g
  line_fed s g h l =
      let m = next block workers s g in
      let v = worker_of_next block workers s g in
      let t = after block workers s (Feed g) in
      let ring = s.rings g v ++ m ∷ [] in
      let one_more : t.fed g ≡ s.fed g + 1 = changed_same s.fed g (s.fed g + 1) in
      let at : s.read g ≡ h.start + s.fed g * block = omega (arith, h.read, l) in
      let end : m.to ≡ min (s.read g + block) (length (s.samples g)) = refl in
      let longer : (s.fed g + 1) * block ≡ s.fed g * block + block = omega arith in
      let dealt : (u : ℕ) (n : Name) → IsDealt block workers h.start (s.fed g) u n → IsDealt block workers h.start (t.fed g) u n =
      λ u n d. record { number = d.number; from = d.from; before = omega (arith, d.before, one_more); worker = d.worker } in
      let new : IsDealt block workers h.start (t.fed g) v m =
      record { number = s.fed g; from = at; before = omega (arith, one_more); worker = refl } in
      record {
        start = h.start;
        stored = h.stored;
        read = changed_same s.read g m.to ∙ omega (arith, end, at, longer)
            ∙ ap (λ k. min (h.start + k * block) (length (s.samples g))) (sym one_more);
        rings = λ u w. changed_at_all
            (λ i j x. i ≡ g → j < workers → Each (IsDealt block workers h.start (t.fed g) j) x) s.rings g v ring
            (λ i j e k. subst
            (λ y. Each (IsDealt block workers h.start (t.fed g) j) (s.rings y j)) (sym e)
            (each_map (s.rings g j) (dealt j) (h.rings j k)))
            (λ e k. each_append (s.rings g v) (m ∷ []) (each_map (s.rings g v) (dealt v) (h.rings v k)) (both new none)) g u refl w;
      }

  line_or : (s : Flow) (g i : ℕ) → ((i : ℕ) → IsLine block workers s i) → s.read g < length (s.samples g) → ((i ≡ g) ⊎ (i ≡ g → ⊥))
      → IsLine block workers (after block workers s (Feed g)) i
  line_or s g i h l (inl q) = subst (λ j. IsLine block workers (after block workers s (Feed g)) j) (sym q) (line_fed s g (h g) l)
  line_or s g i h l (inr q) =
      let m = next block workers s g in
      let v = worker_of_next block workers s g in
      let ring = s.rings g v ++ m ∷ [] in
      line_kept s (after block workers s (Feed g)) i (h i) (omega arith) (changed_other s.read g m.to i q) refl
      (changed_other s.fed g (s.fed g + 1) i q)
      (λ u w. subst (Each (IsDealt block workers (h i).start (s.fed i) u)) (sym (changed_at_gauge s.rings g v ring i u q))
      ((h i).rings u w))

  -- one block more is fed
  fed_once : (s : Flow) (g i v : ℕ) (m : Name) → MeetsInvariant block workers s → v < workers → m.gauge ≡ g → m.from ≡ s.read g →
      m.from ≤ m.to →
      over workers
      (λ u. hits g i (with_value_at s.rings g v (s.rings g v ++ m ∷ []) g u) + hits g i (s.counted u)) + hits g i s.placed
      ≡ between (s.stored g) m.to i
  fed_once s g i v m h w a b c =
      let f : ℕ → ℕ = λ u. hits g i (with_value_at s.rings g v (s.rings g v ++ m ∷ []) g u) + hits g i (s.counted u) in
      let k : ℕ → ℕ = λ u. hits g i (s.rings g u) + hits g i (s.counted u) in
      let one : over workers f + k v ≡ over workers k + f v =
      over_one workers v f k w
      (λ u d. ap (λ l. hits g i l + hits g i (s.counted u)) (changed_at_worker s.rings g v (s.rings g v ++ m ∷ []) g u d)) in
      let new : f v ≡ hits g i (s.rings g v) + hits_of_name g i m + hits g i (s.counted v) =
      ap (λ l. hits g i l + hits g i (s.counted v)) (changed_at_same s.rings g v (s.rings g v ++ m ∷ []))
      ∙ omega (arith, hits-append g i (s.rings g v) (m ∷ [])) in
      let was : over workers k + hits g i s.placed ≡ between (s.stored g) (s.read g) i = h.once g i in
      let more : hits_of_name g i m ≡ between m.from m.to i = hits_of_name_between g i m a in
      let both_ways : between (s.stored g) m.from i + between m.from m.to i ≡ between (s.stored g) m.to i =
      between_parts (s.stored g) m.from m.to i (omega (arith, h.stored g, b)) c in
      let at : between (s.stored g) (s.read g) i ≡ between (s.stored g) m.from i = ap (λ r. between (s.stored g) r i) (sym b) in
      omega (arith, one, new, was, more, both_ways, at)

  fed_elsewhere : (s : Flow) (g i v : ℕ) (l : List Name) (h : ℕ) → h ≢ g →
      over workers (λ u. hits h i (with_value_at s.rings g v l h u) + hits h i (s.counted u)) ≡ over workers
      (λ u. hits h i (s.rings h u) + hits h i (s.counted u))
  fed_elsewhere s g i v l h d =
      over_same workers _ _ (λ u k. ap (λ x. hits h i x + hits h i (s.counted u)) (changed_at_gauge s.rings g v l h u d))

  fed_or : (s : Flow) (g i v : ℕ) (m : Name) (h : ℕ) → MeetsInvariant block workers s → v < workers → m.gauge ≡ g → m.from ≡ s.read g
      → m.from ≤ m.to → ((h ≡ g) ⊎ (h ≡ g → ⊥)) →
      over workers
      (λ u. hits h i (with_value_at s.rings g v (s.rings g v ++ m ∷ []) h u) + hits h i (s.counted u)) + hits h i s.placed
      ≡ between (s.stored h) (with_value s.read g m.to h) i
  fed_or s g i v m h is w a b c (inl e) =
      subst (λ k. over workers
      (λ u. hits k i (with_value_at s.rings g v (s.rings g v ++ m ∷ []) k u) + hits k i (s.counted u)) + hits k i s.placed
      ≡ between (s.stored k) (with_value s.read g m.to k) i) (sym e)
      (fed_once s g i v m is w a b c ∙ ap (λ r. between (s.stored g) r i) (sym (changed_same s.read g m.to)))
  fed_or s g i v m h is w a b c (inr e) =
      ap (λ x. x + hits h i s.placed) (fed_elsewhere s g i v (s.rings g v ++ m ∷ []) h e) ∙ is.once h i
      ∙ ap (λ r. between (s.stored h) r i) (sym (changed_other s.read g m.to h e))

  whole_or : (s : Flow) (g r : ℕ) → ((s.read g ≡ length (s.samples g)) ⊎ ((k : ℕ) × (s.read g ≡ s.stored g + k * block)))
      → s.read g < length (s.samples g) → (k : ℕ) × (s.read g ≡ s.stored g + k * block)
  whole_or s g r (inl e) l = absurd (omega (arith, e, l))
  whole_or s g r (inr e) l = e

  end_or : (a b n k st rd : ℕ) → rd ≡ st + k * b → a ≡ min (rd + b) n → ((rd + b ≤ n) ⊎ (n ≤ rd + b)) → (a ≡ n)
      ⊎ ((j : ℕ) × (a ≡ st + j * b))
  end_or a b n k st rd e f (inl l) = inr (k + 1, omega (arith, e, f, l))
  end_or a b n k st rd e f (inr l) = inl (omega (arith, f, l))

  le_or : (a b : ℕ) → (a ≤ b) ⊎ (b ≤ a)
  le_or a b = grind arith

  pub feed : (s : Flow) (g : ℕ) → 0 < block → 0 < workers → MeetsInvariant block workers s → s.read g < length (s.samples g)
      → worker_of_next block workers s g < workers → MeetsInvariant block workers (after block workers s (Feed g))
  feed s g pos many h l w =
      let m = next block workers s g in
      let v = worker_of_next block workers s g in
      let t = after block workers s (Feed g) in
      let k = whole_or s g 0 (h.whole g) l in
      let end : m.to ≡ min (s.read g + block) (length (s.samples g)) = refl in
      let long : s.read g < m.to = omega (arith, end, l, pos) in
      let within : m.to ≤ length (s.samples g) = omega (arith, end) in
      let more : (i : ℕ) → s.read i ≤ t.read i =
      changed_all (λ i r. s.read i ≤ r) s.read g m.to (λ i. omega arith) (omega (arith, long)) in
      let up : (i : ℕ) (n : Name) → IsBlock block s i n → IsBlock block t i n = λ i n b. grown s t i n refl refl (more i) b in
      record {
        once = λ i j. fed_or s g j v m i h w refl refl (omega (arith, long)) (cases_eq i g);
        rings = changed_at_all
            (λ i j x. j < workers
            → Each (IsBlock block t i) x) s.rings g v (s.rings g v ++ m ∷ []) (λ i j q. each_map (s.rings i j) (up i) (h.rings i j q))
            (λ q. each_append (s.rings g v) (m ∷ []) (each_map (s.rings g v) (up g) (h.rings g v w))
            (both (record {
              gauge = refl;
              number = k.0;
              from = k.1;
              to = refl;
              some = long;
              read =
                  omega (arith, changed_same s.read g m.to);
            }) none));
        ascend = changed_at_all (λ i j x. NamesAscend x) s.rings g v (s.rings g v ++ m ∷ []) h.ascend
            (ascends_push (s.rings g v) m (h.ascend g v) (each_map (s.rings g v)
            (λ n b. omega (arith, b.some, b.read)) (h.rings g v w)));
        counted = λ j q. each_map (s.counted j) (λ n b. up n.gauge n b) (h.counted j q);
        placed = each_map s.placed (λ n b. up n.gauge n b) h.placed;
        stored = λ i. omega (arith, h.stored i, more i);
        read = changed_all (λ i r. r ≤ length (s.samples i)) s.read g m.to h.read within;
        whole = changed_all (λ i r. (r ≡ length (s.samples i)) ⊎ ((k : ℕ) × (r ≡ s.stored i + k * block))) s.read g m.to h.whole
            (end_or m.to block (length (s.samples g)) k.0 (s.stored g) (s.read g) k.1 end
            (le_or (s.read g + block) (length (s.samples g))));
        line = λ i. line_or s g i h.line l (cases_eq i g);
      }

  -- a block goes from a ring to the counted ones
  count_same : (s : Flow) (g v : ℕ) (h i u : ℕ) → v < workers → MeetsInvariant block workers s → ((h ≡ g) ⊎ (h ≡ g → ⊥))
      → ((u ≡ v) ⊎ (u ≡ v → ⊥)) →
      hits h i (with_value_at s.rings g v (drop 1 (s.rings g v)) h u)
      + hits h i (with_value s.counted v (s.counted v ++ take 1 (s.rings g v)) u) ≡ hits h i (s.rings h u) + hits h i (s.counted u)
  count_same s g v h i u w is (inl e) (inl f) =
      let claim : ℕ → ℕ → Type 0 =
      λ a b. hits a i (with_value_at s.rings g v (drop 1 (s.rings g v)) a b)
      + hits a i (with_value s.counted v (s.counted v ++ take 1 (s.rings g v)) b) ≡ hits a i (s.rings a b) + hits a i (s.counted b) in
      let r : hits g i (with_value_at s.rings g v (drop 1 (s.rings g v)) g v) ≡ hits g i (drop 1 (s.rings g v)) =
      ap (hits g i) (changed_at_same s.rings g v (drop 1 (s.rings g v))) in
      let c : hits g i (with_value s.counted v (s.counted v ++ take 1 (s.rings g v)) v) ≡ hits g i (s.counted v)
      + hits g i (take 1 (s.rings g v)) = ap (hits g i) (changed_same s.counted v (s.counted v ++ take 1 (s.rings g v)))
      ∙ hits-append g i (s.counted v) (take 1 (s.rings g v)) in
      subst (λ a. claim a u) (sym e) (subst (λ b. claim g b) (sym f) (omega (arith, r, c, hits-split g i (s.rings g v))))
  count_same s g v h i u w is (inr e) (inl f) =
      let claim : ℕ → Type 0 =
      λ b. hits h i (with_value_at s.rings g v (drop 1 (s.rings g v)) h b)
      + hits h i (with_value s.counted v (s.counted v ++ take 1 (s.rings g v)) b) ≡ hits h i (s.rings h b) + hits h i (s.counted b) in
      let r : hits h i (with_value_at s.rings g v (drop 1 (s.rings g v)) h v) ≡ hits h i (s.rings h v) =
      ap (hits h i) (changed_at_gauge s.rings g v (drop 1 (s.rings g v)) h v e) in
      let c : hits h i (with_value s.counted v (s.counted v ++ take 1 (s.rings g v)) v) ≡ hits h i (s.counted v)
      + hits h i (take 1 (s.rings g v)) = ap (hits h i) (changed_same s.counted v (s.counted v ++ take 1 (s.rings g v)))
      ∙ hits-append h i (s.counted v) (take 1 (s.rings g v)) in
      let z : hits h i (take 1 (s.rings g v)) ≡ 0 =
      hits_other h i (take 1 (s.rings g v)) (each_take (s.rings g v) (each_map (s.rings g v)
      (λ n b q. e (sym q ∙ b.gauge)) (is.rings g v w))) in
      subst claim (sym f) (omega (arith, r, c, z))
  count_same s g v h i u w is e (inr f) =
      let r : hits h i (with_value_at s.rings g v (drop 1 (s.rings g v)) h u) ≡ hits h i (s.rings h u) =
      ap (hits h i) (changed_at_worker s.rings g v (drop 1 (s.rings g v)) h u f) in
      let c : hits h i (with_value s.counted v (s.counted v ++ take 1 (s.rings g v)) u) ≡ hits h i (s.counted u) =
      ap (hits h i) (changed_other s.counted v (s.counted v ++ take 1 (s.rings g v)) u f) in
      omega (arith, r, c)

  pub count : (s : Flow) (v g : ℕ) → v < workers → MeetsInvariant block workers s →
      MeetsInvariant block workers (after block workers s (Count v g))
  count s v g w h =
      let t = after block workers s (Count v g) in
      let up : (i : ℕ) (n : Name) → IsBlock block s i n → IsBlock block t i n = λ i n b. grown s t i n refl refl (omega arith) b in
      let own : (n : Name) → IsBlock block s g n → IsBlock block t n.gauge n =
      λ n b. subst (λ i. IsBlock block t i n) (sym b.gauge) (up g n b) in
      record {
        once = λ i j. ap
            (λ x. x + hits i j s.placed) (over_same workers _ _ (λ u l. count_same s g v i j u w h (cases_eq i g) (cases_eq u v)))
            ∙ h.once i j;
        rings = changed_at_all
            (λ i j x. j < workers
            → Each (IsBlock block t i) x) s.rings g v (drop 1 (s.rings g v)) (λ i j q. each_map (s.rings i j) (up i) (h.rings i j q))
            (λ q. each_drop (s.rings g v) (each_map (s.rings g v) (up g) (h.rings g v w)));
        ascend = changed_at_all
            (λ i j x. NamesAscend x) s.rings g v (drop 1 (s.rings g v)) h.ascend (ascends_drop (s.rings g v) (h.ascend g v));
        counted =
            changed_all
            (λ j x. j < workers
            → Each (λ n. IsBlock block t n.gauge n) x) s.counted v (s.counted v ++ take 1 (s.rings g v))
            (λ j q. each_map (s.counted j) (λ n b. up n.gauge n b) (h.counted j q))
            (λ q. each_append (s.counted v) (take 1 (s.rings g v)) (each_map (s.counted v)
            (λ n b. up n.gauge n b) (h.counted v w)) (each_take (s.rings g v) (each_map (s.rings g v) own (h.rings g v w))));
        placed = each_map s.placed (λ n b. up n.gauge n b) h.placed;
        stored = h.stored;
        read = h.read;
        whole = h.whole;
        line = λ i. line_kept s t i (h.line i) (omega arith) refl refl refl
            (λ u q. changed_at_all
            (λ j k x. k < workers
            → Each (IsDealt block workers (h.line j).start (s.fed j) k) x) s.rings g v (drop 1 (s.rings g v))
            (λ j k r. (h.line j).rings k r)
            (λ r. each_drop (s.rings g v) ((h.line g).rings v r)) i u q);
      }

  pub deposit : (s : Flow) (v : ℕ) → v < workers → MeetsInvariant block workers s →
      MeetsInvariant block workers (after block workers s (Deposit v))
  deposit s v w h =
      let t = after block workers s (Deposit v) in
      let up : (n : Name) → IsBlock block s n.gauge n → IsBlock block t n.gauge n =
      λ n b. grown s t n.gauge n refl refl (omega arith) b in
      record {
        once = λ i j.
            let f : ℕ → ℕ = λ u. hits i j (s.rings i u) + hits i j (t.counted u) in
            let k : ℕ → ℕ = λ u. hits i j (s.rings i u) + hits i j (s.counted u) in
            let one : over workers f + k v ≡ over workers k + f v =
            over_one workers v f k w
            (λ u d. ap (λ l. hits i j (s.rings i u) + hits i j l) (changed_other s.counted v (drop 1 (s.counted v)) u d)) in
            let new : f v ≡ hits i j (s.rings i v) + hits i j (drop 1 (s.counted v)) =
            ap (λ l. hits i j (s.rings i v) + hits i j l) (changed_same s.counted v (drop 1 (s.counted v))) in
            let was : over workers k + hits i j s.placed ≡ between (s.stored i) (s.read i) j = h.once i j in
            let split : hits i j (take 1 (s.counted v)) + hits i j (drop 1 (s.counted v)) ≡ hits i j (s.counted v) =
            hits-split i j (s.counted v) in
            let longer : hits i j (s.placed ++ take 1 (s.counted v)) ≡ hits i j s.placed + hits i j (take 1 (s.counted v)) =
            hits-append i j s.placed (take 1 (s.counted v)) in
            omega (arith, one, new, was, split, longer);
        rings = λ i j q. each_map (s.rings i j) (λ n b. grown s t i n refl refl (omega arith) b) (h.rings i j q);
        ascend = h.ascend;
        counted =
            changed_all
            (λ j x. j < workers
            → Each (λ n. IsBlock block t n.gauge n) x) s.counted v (drop 1 (s.counted v))
            (λ j q. each_map (s.counted j) up (h.counted j q))
            (λ q. each_drop (s.counted v) (each_map (s.counted v) up (h.counted v w)));
        placed = each_append s.placed (take 1 (s.counted v)) (each_map s.placed up h.placed)
            (each_take (s.counted v) (each_map (s.counted v) up (h.counted v w)));
        stored = h.stored;
        read = h.read;
        whole = h.whole;
        line = λ i. line_kept s t i (h.line i) (omega arith) refl refl refl (h.line i).rings;
      }

  -- a later end of blocks is whole blocks on
  steps_or : (st a b c x e : ℕ) → e ≡ st + a * b + b → x ≡ st + c * b → e ≤ x → 0 < b → ((a < c) ⊎ (c ≤ a)) → (k : ℕ) × (x ≡ e + k * b)
  steps_or st a b c x e p q l pos (inl h) =
      let j = c - a - 1 in
      let is : c ≡ a + 1 + j = omega arith in
      let more : c * b ≡ (a + 1 + j) * b = ap (λ n. n * b) is in (j, omega (arith, p, q, more))
  steps_or st a b c x e p q l pos (inr h) = let few : c * b ≤ a * b = mul-le-mul_right b h in absurd (omega (arith, p, q, l, pos, few))

  -- a block that ends behind the end of another begins behind it
  behind : (s : Flow) (g e : ℕ) (m n : Name) → 0 < block → IsBlock block s g m → m.to ≡ e → s.read g ≤ length (s.samples g)
      → IsBlock block s g n → e < n.to → (k : ℕ) × (n.from ≡ e + k * block)
  behind s g e m n pos a is long b l =
      let whole : e ≡ m.from + block = omega (arith, is, a.to, b.read, l, long) in
      let later : m.from < n.from = omega (arith, a.to, b.to, is, l) in
      let apart : a.number < b.number =
      elim (cases_lt a.number b.number) [
        | inl h ↦ h
        | inr h ↦ (let few : b.number * block ≤ a.number * block =
            mul-le-mul_right block h in absurd (omega (arith, later, a.from, b.from, few)))
      ] in
      let j = b.number - a.number - 1 in
      let is_more : b.number ≡ a.number + 1 + j = omega (arith, apart) in
      let more : b.number * block ≡ (a.number + 1 + j) * block = ap (λ n. n * block) is_more in
      (j, omega (arith, whole, a.from, b.from, more))

  moved_or : (s : Flow) (g e : ℕ) (m : Name) → 0 < block → IsBlock block s g m → m.to ≡ e → s.read g ≤ length (s.samples g)
      → (i : ℕ) (n : Name) → IsBlock block s i n → (i ≡ g → e < n.to) → ((i ≡ g) ⊎ (i ≡ g → ⊥))
      → IsBlock block (after block workers s (Commit g e)) i n
  moved_or s g e m pos a is long i n b l (inl q) =
      let own : IsBlock block s g n = subst (λ j. IsBlock block s j n) q b in
      let k = behind s g e m n pos a is long own (l q) in
      let t = after block workers s (Commit g e) in
      let at : t.stored g ≡ e = changed_same s.stored g e in
      let new : IsBlock block t g n =
      record { gauge = own.gauge; number = k.0; from = omega (arith, k.1, at); to = own.to; some = own.some; read = own.read } in
      subst (λ j. IsBlock block t j n) (sym q) new
  moved_or s g e m pos a is long i n b l (inr q) =
      grown s (after block workers s (Commit g e)) i n (changed_other s.stored g e i q) refl (omega arith) b

  -- where no sample before the end is named, each name of the gauge ends behind it
  clear : (s : Flow) (g e : ℕ) (l : List Name) → Each (λ n. IsBlock block s n.gauge n) l
      → ((x : ℕ) → s.stored g ≤ x → x < e → hits g x l ≡ 0) → Each (λ n. IsBlock block s n.gauge n × (n.gauge ≡ g → e < n.to)) l
  clear s g e [] none h = none
  clear s g e (n ∷ l) (both p d) h =
      let begins : n.gauge ≡ g → s.stored g ≤ n.from = λ q. let at : s.stored n.gauge ≡ s.stored g =
      ap s.stored q in omega (arith, p.from, at) in
      both (
        p,
        λ q. elim (cases_lt e n.to) [
          | inl k ↦ k
          | inr k ↦ (let one : hits_of_name g n.from n ≡ 1 =
              hits_of_name_inside g n.from n q (omega arith) p.some in let zero : hits_of_name g n.from n + hits g n.from l ≡ 0 =
              h n.from (begins q) (omega (arith, p.some, k)) in absurd (omega (arith, one, zero)))
        ],
      )
      (clear s g e l d (λ x a b. let zero : hits_of_name g x n + hits g x l ≡ 0 = h x a b in omega (arith, zero)))

  is_left_over_means : (g e : ℕ) (n : Name) → is_left_over g e n ≡ true → n.gauge ≡ g → e < n.to
  is_left_over_means g e n h q = grind (arith, nat_tests)

  between_none : (a b x : ℕ) → x < a → between a b x ≡ 0
  between_none a b x h = grind (arith, nat_tests)

  between_later : (a e b x : ℕ) → a ≤ e → e ≤ x → between a b x ≡ between e b x
  between_later a e b x h k = grind (arith, nat_tests)

  -- the names of a ring, which are all of its gauge
  rings_move : (s t : Flow) (g e i v : ℕ) → ((i : ℕ) (n : Name) → IsBlock block s i n → (i ≡ g → e < n.to) → IsBlock block t i n)
      → Each (IsBlock block s i) (s.rings i v) →
      ((x : ℕ) → s.stored g ≤ x → x < e → hits g x (s.rings g v) + hits g x (s.counted v) ≡ 0) → ((i ≡ g) ⊎ (i ≡ g → ⊥))
      → Each (IsBlock block t i) (s.rings i v)
  rings_move s t g e i v move h zero (inl q) =
      let own : Each (IsBlock block s g) (s.rings g v) = subst (λ j. Each (IsBlock block s j) (s.rings j v)) q h in
      let mixed : Each (λ n. IsBlock block s n.gauge n) (s.rings g v) =
      each_map (s.rings g v) (λ n b. subst (λ j. IsBlock block s j n) (sym b.gauge) b) own in
      let past = clear s g e (s.rings g v) mixed (λ x a b. omega (arith, zero x a b)) in
      subst (λ j. Each (IsBlock block t j) (s.rings j v)) (sym q) (each_both (s.rings g v) (λ n b c. move g n b
      (λ r. c.1 b.gauge)) own past)
  rings_move s t g e i v move h zero (inr q) = each_map (s.rings i v) (λ n b. move i n b (λ r. absurd (q r))) h

  whole_at : (s : Flow) (g e : ℕ) (m : Name) → IsBlock block s g m → m.to ≡ e → e ≤ s.read g → s.read g ≤ length (s.samples g) → 0 < block
      → (k : ℕ) × (s.read g ≡ s.stored g + k * block) → (s.read g ≡ length (s.samples g)) ⊎ ((k : ℕ) × (s.read g ≡ e + k * block))
  whole_at s g e m a is within long pos (c, q) =
      elim (cases_lt (length (s.samples g)) (m.from + block)) [
        | inl l ↦ inl (omega (arith, a.to, is, l, within, long))
        | inr l ↦ inr (steps_or (s.stored g) a.number block c (s.read g) e (omega (
          arith,
          a.to,
          is,
          l,
          a.from,
        )) q within pos (cases_lt a.number c))
      ]

  pub commit : (s : Flow) (g e : ℕ) → 0 < block → MeetsInvariant block workers s → s.stored g < e → EndsAt g e s.placed
      → NamesCover g (s.stored g) e s.placed → MeetsInvariant block workers (after block workers s (Commit g e))
  commit s g e pos h later ends covers =
      let t = after block workers s (Commit g e) in
      let m = ends.name in
      let last : IsBlock block s g m = subst (λ i. IsBlock block s i m) ends.gauge (each_in h.placed ends.among) in
      let within : e ≤ s.read g = omega (arith, last.read, ends.to) in
      let f : ℕ → ℕ → ℕ → ℕ = λ i x u. hits i x (s.rings i u) + hits i x (s.counted u) in
      let was : (i x : ℕ) → over workers (f i x) + hits i x s.placed ≡ between (s.stored i) (s.read i) x = h.once in
      let empty_before : (x : ℕ) → s.stored g ≤ x → x < e → over workers (f g x) ≡ 0 =
      λ x a b. omega (arith, was g x, covers x a b, between_one (s.stored g) (s.read g) x a (omega (arith, within, b))) in
      let none_there : (v : ℕ) → v < workers → (x : ℕ) → s.stored g ≤ x → x < e → f g x v ≡ 0 =
      λ v w x a b. omega (arith, empty_before x a b, over_at workers v (f g x) w) in
      let move : (i : ℕ) (n : Name) → IsBlock block s i n → (i ≡ g → e < n.to) → IsBlock block t i n =
      λ i n b q. moved_or s g e m pos last ends.to (h.read g) i n b q (cases_eq i g) in
      let left : Each (λ n. IsBlock block t n.gauge n) t.placed =
      each_filter (is_left_over g e) s.placed (λ n b q. move n.gauge n b (is_left_over_means g e n q)) h.placed in
      let at : t.stored g ≡ e = changed_same s.stored g e in
      record {
        once = λ i x. elim (cases_eq i g) [
          | inl q ↦ subst (λ j. everywhere workers t j x ≡ between (t.stored j) (t.read j) x) (sym q) (
              elim (cases_lt x e) [
                | inl few ↦ (
                    let gone : hits g x t.placed ≡ 0 =
                    hits_past g x t.placed (each_map t.placed
                    (λ n b r. let k : t.stored n.gauge ≡ t.stored g = ap t.stored r in omega (arith, b.from, k, at, few)) left) in
                    let zero : over workers (f g x) ≡ 0 =
                    elim (cases_lt x (s.stored g)) [
                      | inl a ↦ omega (
                        arith,
                        was g x,
                        between_none (s.stored g) (s.read g) x a,
                      )
                      | inr a ↦ empty_before x a few
                    ] in
                    omega (arith, gone, zero, between_none e (s.read g) x few, ap (λ r. between r (s.read g) x) at))
                | inr more ↦ (
                    let same : hits g x t.placed ≡ hits g x s.placed = hits_filter g e g x s.placed (λ r. more) in
                    omega (
                      arith,
                      same,
                      was g x,
                      between_later (s.stored g) e (s.read g) x (omega (arith, later)) more,
                      ap (λ r. between r (s.read g) x) at,
                    ))
              ])
          | inr q ↦ (
              let same : hits i x t.placed ≡ hits i x s.placed = hits_filter g e i x s.placed (λ r. absurd (q r)) in
              omega (arith, same, was i x, ap (λ r. between r (s.read i) x) (changed_other s.stored g e i q)))
        ];
        rings = λ i v w. rings_move s t g e i v move (h.rings i v w) (none_there v w) (cases_eq i g);
        ascend = h.ascend;
        counted =
            λ v w. each_map (s.counted v)
            (λ n b. move n.gauge n b.0 b.1) (clear s g e (s.counted v) (h.counted v w) (λ x a b. omega (arith, none_there v w x a b)));
        placed = left;
        stored = changed_all (λ i r. r ≤ s.read i) s.stored g e h.stored within;
        read = h.read;
        whole = changed_all (λ i r. (s.read i ≡ length (s.samples i)) ⊎ ((k : ℕ) × (s.read i ≡ r + k * block))) s.stored g e h.whole
            (elim (h.whole g) [ inl q ↦ inl q | inr q ↦ whole_at s g e m last ends.to within (h.read g) pos q ]);
        line = λ i. line_kept s t i (h.line i) (changed_all (λ j r. s.stored j ≤ r) s.stored g e
            (λ j. omega arith) (omega (arith, later)) i) refl refl refl (h.line i).rings;
      }

  pub stop : (s : Flow) (more : ℕ → List ℤ) → MeetsInvariant block workers s →
      MeetsInvariant block workers (after block workers s (Stop more))
  stop s more h = record {
    once = λ i x.
        let zero : over workers (λ v. 0 + 0) ≡ 0 = over_none workers (λ v. 0 + 0) (λ v w. refl) in
        let none_between : between (s.stored i) (s.stored i) x ≡ 0 = nothing_between (s.stored i) x in omega (arith, zero, none_between);
    rings = λ i v w. none;
    ascend = λ i v. empty;
    counted = λ v w. none;
    placed = none;
    stored = λ i. omega arith;
    read = λ i. omega (arith, h.stored i, h.read i, length-append (s.samples i) (more i));
    whole = λ i. inr (0, omega arith);
    line = λ i. record {
      start = s.stored i;
      stored = omega arith;
      read = omega (arith, h.stored i, h.read i, length-append (s.samples i) (more i));
      rings = λ v w. none;
    };
  }

  pub each_event : (s : Flow) (e : Event) → 0 < block → 0 < workers → MeetsInvariant block workers s → IsAllowed block workers s e
      → MeetsInvariant block workers (after block workers s e)
  each_event s (Feed g) pos many h a = feed s g pos many h a (omega (arith, many))
  each_event s (Count v g) pos many h a = count s v g a.0 h
  each_event s (Deposit v) pos many h a = deposit s v a.0 h
  each_event s (Commit g e) pos many h a = commit s g e pos h a.0 a.1 a.2
  each_event s (Stop more) pos many h a = stop s more h

  pub kept : (es : List Event) (s : Flow) → 0 < block → 0 < workers → MeetsInvariant block workers s → AllAllowed block workers es s
      → MeetsInvariant block workers (run block workers es s)
  kept [] s pos many h a = h
  kept (e ∷ es) s pos many h a = kept es (after block workers s e) pos many (each_event s e pos many h a.0) a.1

  at_start : (s : Flow) → IsStart s → MeetsInvariant block workers s
  at_start s h = record {
    once = λ i x.
        let r : (v : ℕ) → hits i x (s.rings i v) ≡ 0 = λ v. ap (hits i x) (h.rings i v) in
        let c : (v : ℕ) → hits i x (s.counted v) ≡ 0 = λ v. ap (hits i x) (h.counted v) in
        let p : hits i x s.placed ≡ 0 = ap (hits i x) h.placed in
        let zero : over workers (λ v. hits i x (s.rings i v) + hits i x (s.counted v)) ≡ 0 =
        over_none workers (λ v. hits i x (s.rings i v) + hits i x (s.counted v)) (λ v w. omega (arith, r v, c v)) in
        let none_between : between (s.stored i) (s.read i) x ≡ 0 = ap (λ r. between (s.stored i) r x) (h.read i)
        ∙ nothing_between (s.stored i) x in
        omega (arith, zero, p, none_between);
    rings = λ i v w. subst (Each (IsBlock block s i)) (sym (h.rings i v)) none;
    ascend = λ i v. subst NamesAscend (sym (h.rings i v)) empty;
    counted = λ v w. subst (Each (λ n. IsBlock block s n.gauge n)) (sym (h.counted v)) none;
    placed = subst (Each (λ n. IsBlock block s n.gauge n)) (sym h.placed) none;
    stored = λ i. omega (arith, h.read i);
    read = λ i. omega (arith, h.read i, h.stored i);
    whole = λ i. inr (0, omega (arith, h.read i));
    line = λ i. record {
      start = s.stored i;
      stored = omega arith;
      read = omega (arith, h.read i, h.stored i, h.fed i) ∙ ap (λ k. min (s.stored i + k * block) (length (s.samples i))) (sym (h.fed i));
      rings = λ v w. subst (Each (IsDealt block workers (s.stored i) (s.fed i) v)) (sym (h.rings i v)) none;
    };
  }

  pub each_schedule : (es : List Event) (s : Flow) → 0 < block → 0 < workers → IsStart s → AllAllowed block workers es s
      → MeetsInvariant block workers (run block workers es s)
  each_schedule es s pos many h a = kept es s pos many (at_start s h) a

  rises : (s : Flow) (e : Event) (g : ℕ) → IsAllowed block workers s e → s.stored g ≤ (after block workers s e).stored g
  rises s (Feed h) g a = omega arith
  rises s (Count v h) g a = omega arith
  rises s (Deposit v) g a = omega arith
  rises s (Commit h e) g a = changed_all (λ i r. s.stored i ≤ r) s.stored h e (λ i. omega arith) (omega (arith, a.0)) g
  rises s (Stop more) g a = omega arith

  pub never_falls : (es : List Event) (s : Flow) (g : ℕ) → AllAllowed block workers es s → s.stored g ≤ (run block workers es s).stored g
  never_falls [] s g a = omega arith
  never_falls (e ∷ es) s g a = omega (arith, rises s e g a.0, never_falls es (after block workers s e) g a.1)

  -- where nothing of a gauge is on its way, all of it is stored or one commit stores it
  pub through : (s : Flow) (g : ℕ) → MeetsInvariant block workers s → IsThrough workers s g → (s.stored g ≡ length (s.samples g))
      ⊎ IsAllowed block workers s (Commit g (length (s.samples g)))
  through s g h done =
      let n = length (s.samples g) in
      let zero : (x : ℕ) → over workers (λ v. hits g x (s.rings g v) + hits g x (s.counted v)) ≡ 0 =
      λ x. over_none workers (λ v. hits g x (s.rings g v) + hits g x (s.counted v)) (λ v w.
      let r : hits g x (s.rings g v) ≡ 0 =
      ap (hits g x) (done.rings v w) in omega (arith, r, hits_other g x (s.counted v) (done.counted v w))) in
      let covers : NamesCover g (s.stored g) n s.placed =
      λ x a b. omega (arith, zero x, h.once g x, between_one (s.stored g) (s.read g) x a (omega (arith, b, done.read))) in
      elim (cases_lt (s.stored g) n) [
        | inl l ↦ inr (
          l,
          (
              let f = found g (n - 1) s.placed (covers (n - 1) (omega (arith, l)) (omega (arith, l))) in
              let b : IsBlock block s g f.name = subst (λ i. IsBlock block s i f.name) f.gauge (each_in h.placed f.among) in
              record { name = f.name; among = f.among; gauge = f.gauge; to = omega (arith, f.to, b.read, done.read, l) }),
          covers,
        )
        | inr l ↦ inl (omega (arith, l, h.stored g, h.read g))
      ]
