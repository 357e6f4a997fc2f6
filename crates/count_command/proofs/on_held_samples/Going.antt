-- How a run goes on: a put, a line, a callee.
--   at_most_same, at_most_trans   of EachAtMost
--   holds_as, stored_beginning    what a store has keeps what it must
--   going_starts                  over a store that is on its station
--   going_then                    a run after a run
--   put_going, put_going_on       a put, whatever it answers, and one with Ok
--   line_going                    a line that acknowledges no more than is held
--   safe_quiet, safe_going        a run that only read; a run over a resumed store
--   runs_quiet, runs_then         the same of any property of moments
--   cause_since, cause_of         the cause of a failure, from an earlier count on
use Rattle.std.proofs.Common.{◌≡◌, ◌⊎◌, inl, inr, ⊎_elim, ◌≤◌, ◌<◌, ℕ, zero, suc, ◌+◌, List, [], ◌∷◌, ◌++◌, length, get_or, set, append_assoc, refl, sym, ◌∙◌, ap, subst, arith}
use Rattle.std.specs.Prelude.{Result, Ok, Err, OnOk}
use Rattle.std.proofs.lemmas.Result.{on_err_weaker}
use Rattle.lemmas.proofs.Outcomes.{on_err}
use Rattle.std.specs.List.{AllByRecursion}
use Rattle.std.proofs.lemmas.Bool.{cases_eq, cases_lt}
use Rattle.std.proofs.lemmas.List.{append-nil, get_or-set_same, get_or-set_other, get_or_past, length-map}
use Rattle.outside.specs.Fault.{CountRose, HasCause}
use Rattle.outside.specs.station.Station.{Image, Lines, IsMoment, MomentsSince, Elapses, Since, SameImages, NoNew, Tells}
use Rattle.outside.proofs.on_station.Moments.{started, goes_on, continues, entails}
use Rattle.segment.specs.segment_rules.Parts.{PartsValue}
use Rattle.segment.specs.Segment.{SegmentValue}
use Rattle.calibration.specs.declared.setup.Setup.{Setup}
use Rattle.segment_store.specs.Image.{Reads, IsNext, ends_after}
use Rattle.segment_store.specs.Held.{ends_of}
use Rattle.segment_store.specs.Moments.{StoreValue, IsOn, InPut, InNoWrite}
use Rattle.segment_store.specs.Quiet.{IsQuiet}
use Rattle.store_bytes.specs.store_head.Head.{HeadValue}
use Rattle.site_config.specs.recorded.Recorded.{Recorded}
use Rattle.count_command.specs.held_samples.Told.{IsBelow, AreBelow, EachAtMost, held_line, gauge_lines, round_lines}
use Rattle.std.proofs.lemmas.Bool.Decides.{nat_tests}
use Rattle.count_command.specs.held_samples.Fronts.{IsHeldTo}
use Rattle.count_command.specs.held_samples.Kept.{Kept, standing, beginning, recorded, Meets, HoldsAs}
use Rattle.count_command.specs.held_samples.Going.{HoldsAtLeast, KeepsAs, KeepsTold, HoldsSince, RunsBy, Safe, IsStoredAs}

pub all_more : {A : Type 0} (P : A → Type 0) (xs : List A) (x : A) → AllByRecursion P xs → P x → AllByRecursion P (xs ++ x ∷ [])
all_more P [] x all here = (here, tt)
all_more P (y ∷ ys) x all here = (all.0, all_more P ys x all.1 here)

pub all_both : {A : Type 0} (P : A → Type 0) (xs ys : List A) → AllByRecursion P xs → AllByRecursion P ys → AllByRecursion P (xs ++ ys)
all_both P [] ys all more = more
all_both P (x ∷ xs) ys all more = (all.0, all_both P xs ys all.1 more)

pub at_most_same : (a : List ℕ) → EachAtMost a a
at_most_same a g = omega arith

pub at_most_trans : (a b c : List ℕ) → EachAtMost a b → EachAtMost b c → EachAtMost a c
at_most_trans a b c p q g = omega (arith, p g, q g)

grows : (setup : Setup) (ends : List ℕ) (p : PartsValue) → IsNext setup ends p → EachAtMost ends (ends_after ends p)
grows setup ends p next g = elim (cases_eq g p.name.gauge) [
  | inr other ↦ omega (arith, get_or-set_other ends p.name.gauge g p.name.to 0 other)
  | inl same ↦ elim (cases_lt g (length ends)) [
    | inl within ↦ let e : get_or (set ends p.name.gauge p.name.to) g 0 ≡ p.name.to = ap
        (λ (k : ℕ). get_or (set ends p.name.gauge p.name.to) k 0) same ∙ get_or-set_same ends p.name.gauge p.name.to 0
        (omega (arith, within, same)) in
        omega (arith, e, next.body.some, next.joins, ap (λ (k : ℕ). get_or ends k 0) same)
    | inr past ↦ omega (arith, get_or_past ends g 0 past)
  ]
]

pub below_grows : (r : Recorded) (m n : List ℕ) → EachAtMost m n → (lines : Lines) → AreBelow r m lines → AreBelow r n lines
below_grows r m n le [] all = tt
below_grows r m n le (line ∷ lines) all =
    ((λ g k lt small is. omega (arith, all.0 g k lt small is, le g)), below_grows r m n le lines all.1)

pub same_lines : (told : Lines) → told ≡ told ++ []
same_lines [] = refl
same_lines (line ∷ lines) = ap (λ (l : Lines). line ∷ l) (same_lines lines)

holds_as : (kept : Kept) (head : HeadValue) (bodies : List PartsValue) (n : List ℕ) (c : Image) → Reads head bodies n c →
    Meets kept head bodies → HoldsAs kept n c
holds_as (standing setup w) head bodies n c reads meets =
    record { head = head; of_setup = meets.0; bodies = bodies; reads = reads; stand = meets.1 }
holds_as (beginning first front) head bodies n c reads meets = record {
  more = meets.1.0;
  reads = subst (λ (h : HeadValue). Reads h (front ++ meets.1.0) n c) meets.0
      (subst (λ (b : List PartsValue). Reads head b n c) meets.1.1 reads);
}

pub stored_holds : (kept : Kept) (s : StoreValue) (seen : Image) (leaves : Image → Type 0) → IsStoredAs kept s seen leaves → (c : Image) →
    leaves c → HoldsAs kept (ends_of s.held) c
stored_holds kept s seen leaves stored c has =
    holds_as kept s.head stored.bodies (ends_of s.held) c
    (subst (λ (d : Image). Reads s.head stored.bodies (ends_of s.held) d) (sym (stored.on.durable c has)) stored.on.reads) stored.meets

-- with the bodies that it has
pub stored_beginning : (s : StoreValue) (front : List PartsValue) (seen : Image) (leaves : Image → Type 0) → IsOn s front seen leaves →
    IsStoredAs (beginning s.head front) s seen leaves
stored_beginning s front seen leaves on = record { bodies = front; on = on; meets = (refl, ([], sym (append-nil front))) }

pub going_starts : {kept : Kept} (r : Recorded) (s : StoreValue) (start : ℕ) (past : MomentsSince) (told : Lines) (seen : Image)
    (leaves : Image → Type 0) → IsStoredAs kept s seen leaves
    → ((lines : Lines) (c : Image) → past start lines c → (lines ≡ told) × leaves c) →
    HoldsSince kept r (ends_of s.held) start past told start past told leaves (ends_of s.held)
going_starts {kept} r s start past told seen leaves stored only = record {
  run = started start past (KeepsAs kept r (ends_of s.held) told) (λ lines c was. record {
    held = ends_of s.held;
    holds = stored_holds kept s seen leaves stored c (only lines c was).1;
    least = at_most_same (ends_of s.held);
    new = [];
    grew = (only lines c was).0 ∙ same_lines told;
    below = tt;
  });
  new = [];
  grew = same_lines told;
  below = tt;
  least = at_most_same (ends_of s.held);
  held = λ c has. record {
    held = ends_of s.held;
    holds = stored_holds kept s seen leaves stored c has;
    least = at_most_same (ends_of s.held);
  };
}

-- where what holds of a moment of the later run has the lines of the earlier one before it
kept_then : (kept : Kept) (r : Recorded) (a n : List ℕ) (told told2 lines : Lines) (c : Image) (new : Lines) → told2 ≡ told ++ new →
    AreBelow r n new → EachAtMost a n → KeepsAs kept r n told2 lines c → KeepsAs kept r a told lines c
kept_then kept r a n told told2 lines c new grew below least k = record {
  held = k.held;
  holds = k.holds;
  least = at_most_trans a n k.held least k.least;
  new = new ++ k.new;
  grew = k.grew ∙ ap (λ (l : Lines). l ++ k.new) grew ∙ append_assoc told new k.new;
  below = all_both (IsBelow r k.held) new k.new (below_grows r n k.held k.least new below) k.below;
}

pub going_then : {kept : Kept} {r : Recorded} {a n m : List ℕ} {start mid now : ℕ} {past between since : MomentsSince}
    {told told2 told3 : Lines} {leaves2 leaves3 : Image → Type 0}
    → HoldsSince kept r a start past told mid between told2 leaves2 n → HoldsSince kept r n mid between told2 now since told3 leaves3 m →
    HoldsSince kept r a start past told now since told3 leaves3 m
going_then {kept} {r} {a} {n} {m} {start} {mid} {now} {past} {between} {since} {told} {told2} {told3} {leaves2} {leaves3} x y = record {
  run = continues start mid now past between since (KeepsAs kept r a told) (KeepsAs kept r n told2) x.run y.run
      (λ lines c k. kept_then kept r a n told told2 lines c x.new x.grew x.below x.least k);
  new = x.new ++ y.new;
  grew = y.grew ∙ ap (λ (l : Lines). l ++ y.new) x.grew ∙ append_assoc told x.new y.new;
  below = all_both (IsBelow r m) x.new y.new (below_grows r n m y.least x.new x.below) y.below;
  least = at_most_trans a n m x.least y.least;
  held = y.held;
}

-- after a put with Ok
pub put_stored : (kept : Kept) (head : HeadValue) (s2 : StoreValue) (bodies : List PartsValue) (seen2 : Image) (leaves2 : Image → Type 0)
    → Meets kept head bodies → s2.head ≡ head → IsOn s2 bodies seen2 leaves2 → IsStoredAs kept s2 seen2 leaves2
put_stored kept head s2 bodies seen2 leaves2 meets same on =
    record { bodies = bodies; on = on; meets = subst (λ (h : HeadValue). Meets kept h bodies) (sym same) meets }

-- a put of a segment that may follow
module _ (kept : Kept) (r : Recorded) (s : StoreValue) (seen : Image) (leaves : Image → Type 0) (stored : IsStoredAs kept s seen leaves)
    (p : PartsValue) (meets : Meets kept s.head (stored.bodies ++ p ∷ []))
    (start now : ℕ) (past since : MomentsSince) (told told2 : Lines) (leaves2 : Image → Type 0)
    (run : Since start past now since (InPut told s.head stored.bodies (ends_of s.held) p)) (same : told2 ≡ told)
    (counts : (c : Image) → leaves2 c → since start told2 c) where
  in_put : (lines : Lines) (c : Image) → InPut told s.head stored.bodies (ends_of s.held) p lines c → HoldsAtLeast kept (ends_of s.held) c
  in_put lines c i = ⊎_elim
      (λ old. record {
        held = ends_of s.held;
        holds = holds_as kept s.head stored.bodies (ends_of s.held) c old stored.meets;
        least = at_most_same (ends_of s.held);
      })
      (λ new. record {
        held = ends_after (ends_of s.held) p;
        holds = holds_as kept s.head (stored.bodies ++ p ∷ []) (ends_after (ends_of s.held) p) c new.1 meets;
        least = grows s.head.setup
            (ends_of s.held) p new.0;
      }) i.1

  put_kept : (lines : Lines) (c : Image) → InPut told s.head stored.bodies (ends_of s.held) p lines c →
      KeepsAs kept r (ends_of s.held) told lines c
  put_kept lines c i = let h = in_put lines c i in record {
    held = h.held;
    holds = h.holds;
    least = h.least;
    new = [];
    grew = i.0 ∙ same_lines told;
    below = tt;
  }

  -- whatever it answers
  pub put_going : HoldsSince kept r (ends_of s.held) start past told now since told2 leaves2 (ends_of s.held)
  put_going = record {
    run = entails start now past since (KeepsAs kept r (ends_of s.held) told)
        (InPut told s.head stored.bodies (ends_of s.held) p) run put_kept;
    new = [];
    grew = same ∙ same_lines told;
    below = tt;
    least = at_most_same (ends_of s.held);
    held = λ c has. in_put told2 c (run.each told2 c (counts c has));
  }

  -- with Ok
  module _ (s2 : StoreValue) (seen2 : Image) (held2 : ends_of s2.held ≡ ends_after (ends_of s.held) p) (head2 : s2.head ≡ s.head)
      (next : IsNext s.head.setup (ends_of s.held) p) (on : IsOn s2 (stored.bodies ++ p ∷ []) seen2 leaves2) where
    more : EachAtMost (ends_of s.held) (ends_of s2.held)
    more = subst (EachAtMost (ends_of s.held)) (sym held2) (grows s.head.setup (ends_of s.held) p next)

    pub put_going_on : HoldsSince kept r (ends_of s.held) start past told now since told2 leaves2 (ends_of s2.held)
    put_going_on = record {
      run = put_going.run;
      new = [];
      grew = same ∙ same_lines told;
      below = tt;
      least = more;
      held = λ c has. record {
        held = ends_of s2.held;
        holds = stored_holds kept s2 seen2 leaves2 (put_stored kept s.head s2 (stored.bodies ++ p ∷ []) seen2 leaves2 meets head2 on) c has;
        least = at_most_same (ends_of s2.held);
      };
    }

-- a line that acknowledges no more than is held, told or not
pub line_going : {kept : Kept} (r : Recorded) (a m : List ℕ) (start now next : ℕ) (past since later : MomentsSince)
    (told told2 told3 : Lines)
    (leaves leaves2 : Image → Type 0) → HoldsSince kept r a start past told now since told2 leaves m
    → (line : List ℕ) → IsBelow r m line → Elapses now next since later told3 leaves2 → SameImages leaves leaves2 →
    (told3 ≡ told2 ++ line ∷ []) ⊎ (told3 ≡ told2) → HoldsSince kept r a start past told next later told3 leaves2 m
line_going {kept} r a m start now next past since later told told2 told3 leaves leaves2 g line is_below time images lines =
    let new : (l : Lines) × (told3 ≡ told ++ l) × AreBelow r m l = ⊎_elim
    (λ more. (
      g.new ++ line ∷ [],
      more ∙ ap (λ (l : Lines). l ++ line ∷ []) g.grew ∙ append_assoc told g.new (line ∷ []),
      all_more (IsBelow r m) g.new line g.below is_below,
    ))
    (λ none. (g.new, none ∙ g.grew, g.below)) lines in
    record {
      run = goes_on start now next past since later (KeepsAs kept r a told) told3 leaves2 g.run time
          (λ c has. let h = g.held c (images.none_new c has) in
          record {
            held = h.held;
            holds = h.holds;
            least = at_most_trans a m h.held g.least h.least;
            new = new.0;
            grew = new.1;
            below = below_grows r m h.held h.least new.0 new.2;
          });
      new = new.0;
      grew = new.1;
      below = new.2;
      least = g.least;
      held = λ c has. g.held c (images.none_new c has);
    }

-- the store stays on its station where nothing is written
pub on_still : (s : StoreValue) (bodies : List PartsValue) (seen seen2 : Image) (leaves leaves2 : Image → Type 0) →
    IsOn s bodies seen leaves → seen2 ≡ seen → NoNew leaves leaves2 → IsOn s bodies seen2 leaves2
on_still s bodies seen seen2 leaves leaves2 on same none = record {
  reads = subst (λ (d : Image). Reads s.head bodies (ends_of s.held) d)
      (sym same) on.reads;
  held = on.held;
  count_is = on.count_is;
  place_is = on.place_is;
  durable = λ c has.
      on.durable c (none c has) ∙ sym same;
}

pub stored_still : (kept : Kept) (s : StoreValue) (seen seen2 : Image) (leaves leaves2 : Image → Type 0) → IsStoredAs kept s seen leaves →
    seen2 ≡ seen → NoNew leaves leaves2 → IsStoredAs kept s seen2 leaves2
stored_still kept s seen seen2 leaves leaves2 stored same none = record {
  bodies = stored.bodies;
  on = on_still s stored.bodies seen seen2 leaves leaves2 stored.on same none;
  meets = stored.meets;
}

some : (name : List ℕ) (from to : ℕ) → from < to → held_line name to ∷ [] ≡ gauge_lines name from to
some name from to lt = grind (arith, nat_tests)

none : (name : List ℕ) (from to : ℕ) → from ≡ to → [] ≡ gauge_lines name from to
none name from to same = grind (arith, nat_tests)

-- what is held of a gauge after its put
pub end_held : (held held2 : List SegmentValue) (p : PartsValue) → p.name.gauge < length held → ends_of held2 ≡ ends_after (ends_of held) p
    →
    p.name.to ≤ get_or (ends_of held2) p.name.gauge 0
end_held held held2 p lt is = omega (
  arith,
  ap (λ (e : List ℕ). get_or e p.name.gauge 0) is,
  get_or-set_same (ends_of held) p.name.gauge
      p.name.to 0 (omega (arith, lt, length-map held (λ (s : SegmentValue). s.to))),
)

pub held_to : (held held2 : List SegmentValue) (p : PartsValue) → p.name.gauge < length held → ends_of held2 ≡ ends_after (ends_of held) p →
    IsHeldTo (ends_of held) p.name.gauge p.name.to (ends_of held2)
held_to held held2 p lt is = record {
  here = ap (λ (e : List ℕ). get_or e p.name.gauge 0) is ∙ get_or-set_same (ends_of held) p.name.gauge p.name.to 0
      (omega (arith, lt, length-map held (λ (s : SegmentValue). s.to)));
  others = λ g other. ap (λ (e : List ℕ). get_or e g 0) is ∙ get_or-set_other (ends_of held) p.name.gauge g p.name.to 0 other;
}

-- a fact whatever the answer is, and what telling does to the lines
pub on_any : {A E : Type 0} {P : Type 0} (r : Result A E) → P → OnOk r P
on_any (Ok x) p = p
on_any (Err e) p = tt

pub on_both : {A E : Type 0} {P Q R : Type 0} (r : Result A E) → (P → Q → R) → OnOk r P → OnOk r Q → OnOk r R
on_both (Ok x) f p q = f p q
on_both (Err e) f p q = tt

-- the count that rose had not fallen before
pub rose_since : (a b c : ℕ) → a ≤ b → CountRose b c → CountRose a c
rose_since a b c le rose = omega (arith, le, rose)

pub cause_since : {T E : Type 0} {a b c : ℕ} (r : Result T E) → a ≤ b → HasCause b c r → HasCause a c r
cause_since {a = a} {b = b} {c = c} r le is =
    record { later = omega (arith, le, is.later); failed = on_err_weaker r (rose_since a b c le) is.failed }

pub cause_of : {T E : Type 0} {a b c : ℕ} (r : Result T E) → a ≤ b → b ≤ c → CountRose b c → HasCause a c r
cause_of {a = a} {b = b} {c = c} r le later rose = record { later = omega (arith, le, later); failed = on_err r (rose_since a b c le rose) }

pub told_either : {E : Type 0} (r : Result (Unit {0}) E) (old new : Lines) (line : List ℕ) → Tells old line new r →
    (new ≡ old ++ line ∷ []) ⊎ (new ≡ old)
told_either (Ok u) old new line t = inl t.0
told_either (Err e) old new line t = t.1

-- a run that only read, and then one with a statement of its own
pub runs_quiet : (P : IsMoment) {start now : ℕ} {past since : MomentsSince} {told told2 : Lines} {seen seen2 : Image}
    {leaves leaves2 : Image → Type 0} → ((c : Image) → leaves c → P told c)
    → IsQuiet start past now since told told2 seen seen2 leaves leaves2 → RunsBy P start past now since told2 leaves2
runs_quiet P {start} {now} {past} {since} {told} {told2} {seen} {seen2} {leaves} {leaves2} has quiet = record {
  run = entails start now past since P (InNoWrite told leaves) quiet.run
      (λ lines c was. subst (λ (l : Lines). P l c) (sym was.0) (has c was.1));
  kept = λ c is. subst (λ (l : Lines). P l c) (sym quiet.told_same) (has c (quiet.none_new c is));
}

pub runs_then : (P Q : IsMoment) {start mid now : ℕ} {past between since : MomentsSince} {told2 told3 : Lines}
    {leaves2 leaves3 : Image → Type 0} → RunsBy P start past mid between told2 leaves2 → Since mid between now since Q
    → ((lines : Lines) (c : Image) → Q lines c → P lines c) → ((c : Image) → leaves3 c → P told3 c)
    → RunsBy P start past now since told3 leaves3
runs_then P Q {start} {mid} {now} {past} {between} {since} before run here kept =
    record { run = continues start mid now past between since P Q before.run run here; kept = kept }

-- a run that only read, of bodies that stand for recordings
pub safe_quiet : (r : Recorded) (a : List ℕ) (start now : ℕ) (past since : MomentsSince) (told told2 : Lines) (seen seen2 : Image)
    (leaves leaves2 : Image → Type 0) → ((c : Image) → leaves c → HoldsAtLeast (recorded r) a c)
    → IsQuiet start past now since told told2 seen seen2 leaves leaves2 → Safe r a start past told now since told2 leaves2
safe_quiet r a start now past since told told2 seen seen2 leaves leaves2 holds quiet =
    let kept : (lines : Lines) (c : Image) → (lines ≡ told) × leaves c →
    KeepsTold r a told lines c = λ lines c was. let h = holds c was.1 in record
    { held = h.held; holds = h.holds; least = h.least; new = []; grew = was.0 ∙ same_lines told; below = tt } in
    record {
      run = entails start now past since (KeepsTold r a told) (λ lines c. (lines ≡ told) × leaves c) quiet.run kept;
      kept = λ c has.
          kept told2 c (quiet.told_same, quiet.none_new c has);
    }

-- and then one over the resumed store
pub safe_going : (r : Recorded) (a n m : List ℕ) (start mid now : ℕ) (past between since : MomentsSince) (told told2 told3 : Lines)
    (leaves2 leaves3 : Image → Type 0) → Safe r a start past told mid between told2 leaves2 → told2 ≡ told → EachAtMost a n
    → HoldsSince (recorded r) r n mid between told2 now since told3 leaves3 m → Safe r a start past told now since told3 leaves3
safe_going r a n m start mid now past between since told told2 told3 leaves2 leaves3 safe same least g =
    let none : told2 ≡ told ++ [] = same ∙ same_lines told in
    record {
      run = continues start mid now past between since (KeepsTold r a told) (KeepsTold r n told2) safe.run g.run
          (λ lines c k. kept_then (recorded r) r a n told told2 lines c [] none tt least k);
      kept = λ c has. let h = g.held c has in record {
        held = h.held;
        holds = h.holds;
        least = at_most_trans a n h.held least
            (at_most_trans n m h.held g.least h.least);
        new = g.new;
        grew = g.grew ∙ ap (λ (l : Lines). l ++ g.new) same;
        below = below_grows r m h.held h.least g.new g.below;
      };
    }

-- the lines of a round are the same where the numbers are
pub round_same : (names : ℕ → List ℕ) (from to to2 : ℕ → ℕ) (k : ℕ) → ((g : ℕ) → g < k → to g ≡ to2 g) →
    round_lines names from to k ≡ round_lines names from to2 k
round_same names from to to2 zero same = refl
round_same names from to to2 (suc k) same =
    ap (λ (l : Lines). l ++ gauge_lines (names k) (from k) (to k)) (round_same names from to to2 k (λ g lt. same g (omega (arith, lt))))
    ∙ ap (λ (n : ℕ). round_lines names from to2 k ++ gauge_lines (names k) (from k) n) (same k (omega arith))

pub round_both : (names : ℕ → List ℕ) (from from2 to to2 : ℕ → ℕ) (k : ℕ) → ((g : ℕ) → g < k → from g ≡ from2 g) →
    ((g : ℕ) → g < k → to g ≡ to2 g) → round_lines names from to k ≡ round_lines names from2 to2 k
round_both names from from2 to to2 zero same also = refl
round_both names from from2 to to2 (suc k) same also =
    ap (λ (l : Lines). l ++ gauge_lines (names k) (from k) (to k)) (round_both names from from2 to to2 k
    (λ g lt. same g (omega (arith, lt))) (λ g lt. also g (omega (arith, lt))))
    ∙ ap (λ (n : ℕ). round_lines names from2 to2 k ++ gauge_lines (names k) n (to k)) (same k (omega arith))
    ∙ ap (λ (n : ℕ). round_lines names from2 to2 k ++ gauge_lines (names k) (from2 k) n) (also k (omega arith))

-- the lines of the gauges up to k, and those of k, where its numbers are from and to
pub round_more : (names : ℕ → List ℕ) (from to to2 : ℕ → ℕ) (k a b : ℕ) (told told2 told3 : Lines) →
    told2 ≡ told ++ round_lines names from to k → told3 ≡ told2 ++ gauge_lines (names k) a b → from k ≡ a → to2 k ≡ b →
    ((g : ℕ) → g < k → to g ≡ to2 g)
    → told3 ≡ told ++ round_lines names from to2 (k + 1)
round_more names from to to2 k a b told told2 told3 so_far here is_from is_to same =
    here ∙ ap (λ (l : Lines). l ++ gauge_lines (names k) a b) (so_far ∙ ap (λ (l : Lines). told ++ l) (round_same names from to to2 k same))
    ∙ append_assoc told (round_lines names from to2 k) (gauge_lines (names k) a b)
    ∙ ap (λ (n : ℕ). told ++ (round_lines names from to2 k ++ gauge_lines (names k) n b)) (sym is_from)
    ∙ ap (λ (n : ℕ). told ++ (round_lines names from to2 k ++ gauge_lines (names k) (from k) n)) (sym is_to)
    ∙ ap (λ (n : ℕ). told ++ round_lines names from to2 n) (let e : suc k ≡ k + 1 = omega arith in e)
