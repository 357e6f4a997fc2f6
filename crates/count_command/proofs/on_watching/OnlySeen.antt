-- A run that tells lines of a kind and does nothing else.
--   only_starts, only_tells, only_then   before the first line; one line more; a run after a run
--   seen_not_held                        a seen line is no line that acknowledges
--   going_seen                           what is true at every moment stays so behind seen lines
--   told_where                           a fact of the lines told, where the line was
use Rattle.std.proofs.Common.{◌≡◌, ◌⊎◌, ⊎_elim, ℕ, List, [], ◌∷◌, ◌++◌, get_or, append_assoc, refl, sym, ◌∙◌, ap, arith}
use Rattle.std.specs.Prelude.{Result, Ok, Err, OnOk}
use Rattle.std.specs.List.{AllByRecursion}
use Rattle.outside.specs.station.Station.{Image, Lines, MomentsSince, Elapses, NoNew, Tells}
use Rattle.outside.specs.declared.station.station.Station as station
use Rattle.outside.proofs.on_station.Moments.{started, goes_on, continues}
use Rattle.site_config.specs.declared.config.Config.{Config}
use Rattle.site_config.specs.recorded.Recorded.{Recorded}
use Rattle.count_command.specs.held_samples.Told.{IsBelow, AreBelow}
use Rattle.count_command.specs.held_samples.Kept.{Kept}
use Rattle.count_command.specs.held_samples.Going.{KeepsAs, HoldsSince}
use Rattle.count_command.proofs.on_held_samples.Going.{all_more, all_both, at_most_trans, below_grows, same_lines}
use Rattle.count_command.specs.watching.Seen.{IsSeenLine, BehindTold, TellsOnlySeen}

all_as : {P Q : List ℕ → Type 0} → ((line : List ℕ) → P line → Q line) → (lines : Lines) → AllByRecursion P lines → AllByRecursion Q lines
all_as f [] all = tt
all_as f (line ∷ lines) all = (f line all.0, all_as f lines all.1)

module _ {K : Type 0} (v : station.Ghosts K) (P : List ℕ → Type 0) where
  pub only_starts : (s : K) → ((lines : Lines) (c : Image) → v.moments s (v.clock s) lines c → (lines ≡ v.told s) × v.leaves s c)
      → TellsOnlySeen v P s s
  only_starts s only = record {
    run = started (v.clock s) (v.moments s) (BehindTold P (v.told s) (v.leaves s)) (λ lines c was.
        record { seen = []; are = (only lines c was).0 ∙ same_lines (v.told s); each = tt; has = (only lines c was).1 });
    new = [];
    grew = same_lines (v.told s);
    each = tt;
    seen_same = refl;
    none_new = λ c has. has;
  }

  -- told or not
  pub only_tells : (s s2 s3 : K) (line : List ℕ) → TellsOnlySeen v P s s2 → P line
      → Elapses (v.clock s2) (v.clock s3) (v.moments s2) (v.moments s3) (v.told s3) (v.leaves s3)
      → v.seen s3 ≡ v.seen s2 → NoNew (v.leaves s2) (v.leaves s3)
      → (v.told s3 ≡ v.told s2 ++ line ∷ []) ⊎ (v.told s3 ≡ v.told s2) → TellsOnlySeen v P s s3
  only_tells s s2 s3 line x is time same none lines =
      let new : (l : Lines) × (v.told s3 ≡ v.told s ++ l) × AllByRecursion P l = ⊎_elim
      (λ more. (
        x.new ++ line ∷ [],
        more ∙ ap (λ (l : Lines). l ++ line ∷ []) x.grew ∙ append_assoc (v.told s) x.new (line ∷ []),
        all_more P x.new line x.each is,
      ))
      (λ untold. (x.new, untold ∙ x.grew, x.each)) lines in
      record {
        run = goes_on (v.clock s) (v.clock s2) (v.clock s3) (v.moments s) (v.moments s2) (v.moments s3)
            (BehindTold P (v.told s) (v.leaves s)) (v.told s3) (v.leaves s3) x.run time (λ c has.
            record { seen = new.0; are = new.1; each = new.2; has = x.none_new c (none c has) });
        new = new.0;
        grew = new.1;
        each = new.2;
        seen_same = same ∙ x.seen_same;
        none_new = λ c has. x.none_new c (none c has);
      }

  -- whose lines are of a narrower kind
  pub only_then : (Q : List ℕ → Type 0) (s s2 s3 : K) → ((line : List ℕ) → Q line → P line) → TellsOnlySeen v P s s2
      → TellsOnlySeen v Q s2 s3 → TellsOnlySeen v P s s3
  only_then Q s s2 s3 f x y =
      let grew : (l : Lines) (more : Lines) → l ≡ v.told s2 ++ more → l ≡ v.told s ++ (x.new ++ more) =
      λ l more is. is ∙ ap (λ (k : Lines). k ++ more) x.grew ∙ append_assoc (v.told s) x.new more in
      let each : (more : Lines) → AllByRecursion Q more → AllByRecursion P (x.new ++ more) =
      λ more all. all_both P x.new more x.each (all_as f more all) in
      record {
        run = continues (v.clock s) (v.clock s2) (v.clock s3) (v.moments s) (v.moments s2) (v.moments s3)
            (BehindTold P (v.told s) (v.leaves s)) (BehindTold Q (v.told s2) (v.leaves s2)) x.run y.run
            (λ lines c b. record {
              seen = x.new ++ b.seen;
              are = grew lines b.seen b.are;
              each = each b.seen b.each;
              has = x.none_new c b.has;
            });
        new = x.new ++ y.new;
        grew = grew (v.told s3) y.new y.grew;
        each = each y.new y.each;
        seen_same = y.seen_same ∙ x.seen_same;
        none_new = λ c has. x.none_new c (y.none_new c has);
      }

-- by its first letter
pub seen_not_held : (r : Recorded) (held : List ℕ) {c : Config} {starts ends : List ℕ} (line : List ℕ) → IsSeenLine c starts ends line →
    IsBelow r held line
seen_not_held r held line is g n lt small held_is =
    let first : ◌≡◌ {A = ℕ} 115 104 = ap (λ (l : List ℕ). get_or l 0 0) (sym is.of.is ∙ held_is) in
    absurd (omega (arith, first))

pub going_seen : {K : Type 0} (v : station.Ghosts K) {s s2 : K} {config : Config} {starts ends : List ℕ}
    → TellsOnlySeen v (IsSeenLine config starts ends) s s2
    → {kept : Kept} {r : Recorded} {a m : List ℕ} {start : ℕ} {past : MomentsSince} {told : Lines}
    → HoldsSince kept r a start past told (v.clock s) (v.moments s) (v.told s) (v.leaves s) m
    → HoldsSince kept r a start past told (v.clock s2) (v.moments s2) (v.told s2) (v.leaves s2) m
going_seen v {s} {s2} {config} {starts} {ends} t {kept} {r} {a} {m} {start} {past} {told} g =
    let kind = IsSeenLine config starts ends in
    let grew : (l : Lines) (more : Lines) → l ≡ v.told s ++ more → l ≡ told ++ (g.new ++ more) =
    λ l more is. is ∙ ap (λ (k : Lines). k ++ more) g.grew ∙ append_assoc told g.new more in
    let below : (held : List ℕ) (more : Lines) → AreBelow r held g.new → AllByRecursion kind more → AreBelow r held (g.new ++ more) =
    λ held more are seen. all_both (IsBelow r held) g.new more are (all_as (seen_not_held r held) more seen) in
    record {
      run = continues start (v.clock s) (v.clock s2) past (v.moments s) (v.moments s2) (KeepsAs kept r a told)
          (BehindTold kind (v.told s) (v.leaves s)) g.run t.run
          (λ lines c b. let h = g.held c b.has in
          record {
            held = h.held;
            holds = h.holds;
            least = at_most_trans a m h.held g.least h.least;
            new = g.new ++ b.seen;
            grew = grew lines b.seen b.are;
            below = below h.held b.seen (below_grows r m h.held h.least g.new g.below) b.each;
          });
      new = g.new ++ t.new;
      grew = grew (v.told s2) t.new t.grew;
      below = below m t.new g.below t.each;
      least = g.least;
      held = λ c has. g.held c (t.none_new c has);
    }

-- a fact of the lines told, where the line was
pub told_where : {E P : Type 0} (r : Result (Unit {0}) E) (old new : Lines) (line : List ℕ) → Tells old line new r
    → (new ≡ old ++ line ∷ [] → P) → OnOk r P
told_where (Ok u) old new line t f = f t.0
told_where (Err e) old new line t f = tt
