-- One unit more was deposited.
use Rattle.std.proofs.Common.{◌≡◌, ◌≤◌, ◌+◌, ◌*◌, ℕ, List, [], ◌∷◌, ◌++◌, length, refl, sym, ap, ◌∙◌, subst, arith, append_assoc, length-append}
use Rattle.std.specs.Prelude.{ℤ}
use Rattle.std.proofs.lemmas.List.{append-nil}
use Rattle.calibration.specs.Gain.{GainValue}
use Rattle.segment.specs.declared.segment_rules.name.Name.{Name}
use Rattle.segment.specs.Segment.{SegmentValue}
use Rattle.segment.specs.Name.{name_of}
use Rattle.board.specs.declared.windows.Deposit.{Deposit}
use Rattle.board.specs.declared.windows.Deposit.TheVariants.{Placed, Stranger, Double}
use Rattle.board.specs.DepositAnswers.{IsDepositAnswer}
use Rattle.board.specs.block_pool.Units.{CountedValue, PoolValue}
use Rattle.board.specs.flow.Flow.{hits_of_name, hits}
use Rattle.board.proofs.on_flow.Counting.{hits-append, hits_of_name_inside}
use Rattle.board.specs.Board.{BoardValue, CarriesSamples, StandsIn, SameBoard, Fits}
use Rattle.board.specs.deposits.Deposited.{unit_name, unit_names, IsOfPool, IsGood, SamePool, UnitStands, UnitsArePlaced, DepositsUnit, DepositsUnits}
use Rattle.board.specs.flow.Kept.Each.{none, both}
use Rattle.board.specs.flow.Kept.{Each}

-- the front of a list, and its last item
pub each_before : {A : Type 0} {P : A → Type 0} → (l : List A) (x : A) → Each P (l ++ x ∷ []) → Each P l × P x
each_before [] x (both p d) = (none, p)
each_before (y ∷ l) x (both q d) = let (front, p) = each_before l x d in (both q front, p)

pub unit_names-push : (us : List CountedValue) (u : CountedValue) → unit_names (us ++ u ∷ []) ≡ unit_names us ++ unit_name u ∷ []
unit_names-push [] u = refl
unit_names-push (v ∷ us) u = ap (λ l. unit_name v ∷ l) (unit_names-push us u)

same_board : (a b c : BoardValue) → SameBoard a b → SameBoard b c → SameBoard a c
same_board a b c h k = record {
  grid = k.grid ∙ h.grid;
  block = k.block ∙ h.block;
  gauges = k.gauges ∙ h.gauges;
  starts = λ g. k.starts g
      ∙ h.starts g;
}

pub same_pool : (a b c : PoolValue) → SamePool a b → SamePool b c → SamePool a c
same_pool a b c h k = record { units = k.units ∙ h.units; block = k.block ∙ h.block; grid = k.grid ∙ h.grid }

fits_still : (b c : BoardValue) (n : Name) → SameBoard b c → Fits b n → Fits c n
fits_still b c n s f =
    let e : f.number * c.block ≡ f.number * b.block = ap (λ k. f.number * k) s.block in
    record {
      known = omega (arith, f.known, s.gauges);
      some = f.some;
      short = omega (arith, f.short, s.block);
      number = f.number;
      at = let a = f.at in let t = s.starts n.gauge in omega (arith, a, t, e);
      window = let w = f.window in let t = s.starts n.gauge in let k = s.block in omega (arith, w, t, k);
    }

-- a prefix of good units is good
good_front : (b : BoardValue) (p : PoolValue) (us : List CountedValue) (u : CountedValue) → IsGood b p (us ++ u ∷ []) → IsGood b p us
good_front b p us u h = record {
  blocks = (each_before us u h.blocks).0;
  units = (each_before us u h.units).0;
  once = λ g i. (
      let all : hits g i (b.arrivals ++ unit_names (us ++ u ∷ [])) ≡ hits g i (b.arrivals ++ unit_names us) + hits g i (unit_name u ∷ []) =
      ap (λ l. hits g i (b.arrivals ++ l)) (unit_names-push us u)
      ∙ ap (hits g i) (sym (append_assoc b.arrivals (unit_names us) (unit_name u ∷ [])))
      ∙ hits-append g i (b.arrivals ++ unit_names us) (unit_name u ∷ []) in
      let most = h.once g i in omega (arith, all, most));
  room = let r = h.room in let n = length-append us (u ∷ []) in omega (arith, r, n);
}

-- the first sample of the last of good units was not named before
free_last : (b : BoardValue) (p : PoolValue) (us : List CountedValue) (u : CountedValue) → IsGood b p (us ++ u ∷ [])
    → hits u.segment.gauge u.segment.from (b.arrivals ++ unit_names us) ≡ 0
free_last b p us u h =
    let g = u.segment.gauge in let i = u.segment.from in
    let f = (each_before us u h.blocks).1 in
    let all : hits g i (b.arrivals ++ unit_names (us ++ u ∷ []))
    ≡ hits g i (b.arrivals ++ unit_names us) + (hits_of_name g i (unit_name u) + 0) =
    ap (λ l. hits g i (b.arrivals ++ l)) (unit_names-push us u)
    ∙ ap (hits g i) (sym (append_assoc b.arrivals (unit_names us) (unit_name u ∷ [])))
    ∙ hits-append g i (b.arrivals ++ unit_names us) (unit_name u ∷ []) in
    let here : hits_of_name g i (unit_name u) ≡ 1 = hits_of_name_inside g i (unit_name u) refl (omega arith) f.some in
    let most = h.once g i in omega (arith, all, here, most)

pub deposited_none : (b : BoardValue) (p : PoolValue) → DepositsUnits b b p p []
deposited_none b p = record {
  board = record { grid = refl; block = refl; gauges = refl; starts = λ g. refl };
  pool = record { units = refl; block = refl; grid = refl };
  came = λ h. record { arrivals = sym (append-nil b.arrivals); inside = omega arith; carries = λ gain w a e. a };
}

pub deposited_more : (b c d : BoardValue) (p q r : PoolValue) (us : List CountedValue) (u : CountedValue) → DepositsUnits b c p q us
    → DepositsUnit c d q r u → DepositsUnits b d p r (us ++ u ∷ [])
deposited_more b c d p q r us u h s = record {
  board = same_board b c d h.board s.board;
  pool = same_pool p q r h.pool s.pool;
  came = λ k. (
      let before = h.came (good_front b p us u k) in
      let unit = (each_before us u k.units).1 in
      let n : length (us ++ u ∷ []) ≡ length us + 1 = length-append us (u ∷ []) in
      let step = s.came (fits_still b c (unit_name u) h.board (each_before us u k.blocks).1)
      (ap (hits u.segment.gauge u.segment.from) before.arrivals ∙ free_last b p us u k)
      (unit.0 ∙ sym h.pool.block, unit.1 ∙ sym h.pool.grid) (let e = before.inside in let m = h.pool.units in let t = k.room in
      omega (arith, e, m, t, n)) in
      record {
        arrivals = step.arrivals ∙ ap (λ l. l ++ unit_name u ∷ []) before.arrivals
            ∙ append_assoc b.arrivals (unit_names us) (unit_name u ∷ []) ∙ ap (λ l. b.arrivals ++ l) (sym (unit_names-push us u));
        inside = let e = before.inside in let f = step.inside in omega (arith, e, f, n);
        carries = λ gain w a e. step.carries gain w (before.carries gain w a (each_before us u e).0) (both (each_before us u e).1 none);
      });
}

-- what one deposit answers
pub stepped : (b c : BoardValue) (p q : PoolValue) (u : CountedValue) (segment : SegmentValue) (answer : Deposit) → segment ≡ u.segment
    → IsDepositAnswer b c segment answer → SameBoard b c
    → ((gain : ℕ → GainValue) (w : ℕ → List ℤ) → CarriesSamples b gain w → StandsIn segment (gain segment.gauge) (w segment.gauge) →
    CarriesSamples c gain w)
    → q ≡ record { units = p.units; block = p.block; grid = p.grid; inside = p.inside + 1 } → DepositsUnit b c p q u
stepped b c p q u segment answer e a s carries g = record {
  board = s;
  pool = record {
    units = ap (λ (v : PoolValue). v.units) g;
    block = ap (λ (v : PoolValue). v.block) g;
    grid =
        ap (λ (v : PoolValue). v.grid) g;
  };
  came = λ fits free unit room. came_by b c p q u segment answer e a fits free
      (λ gain w h k. carries gain w h (subst (λ x. StandsIn x (gain x.gauge) (w x.gauge)) (sym e) k)) (ap (λ (v : PoolValue). v.inside) g);
}
  where
    one : {P : CountedValue → Type 0} (u : CountedValue) → Each P (u ∷ []) → P u
    one u (both p d) = p

    came_by : (b c : BoardValue) (p q : PoolValue) (u : CountedValue) (segment : SegmentValue) (answer : Deposit) → segment ≡ u.segment
        → IsDepositAnswer b c segment answer → Fits b (unit_name u) → hits u.segment.gauge u.segment.from b.arrivals ≡ 0
        → ((gain : ℕ → GainValue) (w : ℕ → List ℤ) → CarriesSamples b gain w → UnitStands gain w u → CarriesSamples c gain w) → q.inside
        ≡ p.inside + 1
        → UnitsArePlaced b c p q (u ∷ [])
    came_by b c p q u segment Placed e a fits free carries inside =
        record {
          arrivals = a.2 ∙ ap (λ x. b.arrivals ++ name_of x ∷ []) e;
          inside = inside;
          carries =
              λ gain w h k. carries gain w h (one u k);
        }
    came_by b c p q u segment (Stranger n) e a fits free carries inside = absurd (a.0 (subst (λ x. Fits b (name_of x)) (sym e) fits))
    came_by b c p q u segment (Double n) e a fits free carries inside =
        absurd (let held = a.1 in let none_there : hits segment.gauge segment.from b.arrivals ≡ 0 =
        ap (λ x. hits x.gauge x.from b.arrivals) e
        ∙ free in omega (arith, held, none_there))

-- with nothing placed before, units that name no sample twice are good
pub good_at_first : (b : BoardValue) (p : PoolValue) (us : List CountedValue) → b.arrivals ≡ [] → Each (λ u. Fits b (unit_name u)) us
    → Each (IsOfPool p) us → ((g i : ℕ) → hits g i (unit_names us) ≤ 1) → p.inside + length us ≤ p.units → IsGood b p us
good_at_first b p us none_yet f u o r = record {
  blocks = f;
  units = u;
  once =
      λ g i. (let e : hits g i (b.arrivals ++ unit_names us) ≡ hits g i (unit_names us) =
      ap (λ l. hits g i (l ++ unit_names us)) none_yet in
      let m = o g i in omega (arith, e, m));
  room = r;
}
