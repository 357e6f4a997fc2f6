-- The units of a lane hold the samples of its recording, and their counts stand for them.
use Rattle.std.proofs.Common.{◌≡◌, ◌+◌, ◌-◌, ◌%◌, ℕ, List, [], ◌∷◌, ◌++◌, length, take, drop, refl, sym, ap, ◌∙◌, subst, arith, append_assoc, eqb}
use Rattle.std.specs.Prelude.{ℤ, slice_range}
use Rattle.std.proofs.lemmas.List.{drop-drop, append-nil, drop_at, take_at}
use Rattle.calibration.specs.Gain.{GainValue}
use Rattle.segment.specs.declared.segment_rules.name.Name.{Name}
use Rattle.segment.specs.Segment.{Stands}
use Rattle.board.specs.block_pool.Units.{FilledValue, CountedValue, IsCountOf}
use Rattle.board.specs.deposits.Deposited.{UnitStands, unit_names}
use Rattle.board.specs.flow.Kept.Each.{none as no_item, both}
use Rattle.board.specs.arrivals.Arrivals.{names_of}
use Rattle.count_workers.specs.declared.block_workers.desk.Desk.{Desk}
use Rattle.count_workers.specs.block_workers.Dealing.{blocks_of_worker}
use Rattle.count_workers.specs.block_workers.Reading.{IsUnit, AreBlocks, samples_of}
use Rattle.count_workers.specs.block_workers.Reading.AreBlocks.{none, last, more}
use Rattle.count_workers.specs.block_workers.Working.{AreCounts}
use Rattle.count_workers.specs.block_workers.Working.AreCounts.{nil, one}
use Rattle.board.specs.flow.Kept.{Each}
use Rattle.board.proofs.on_flow.Counting.{each_cond}

-- the unit has the gain of its gauge, and the samples that its name names
pub record FromLanes (gain : ℕ → GainValue) (w : ℕ → List ℤ) (u : FilledValue) : Type 0 where
  pub gained : u.gain ≡ gain u.name.gauge
  pub holds : u.samples ≡ slice_range (w u.name.gauge) u.name.from u.name.to

slice_front : (w l rest : List ℤ) (a b : ℕ) → drop a w ≡ l ++ rest → a + length l ≡ b → slice_range w a b ≡ l
slice_front w l rest a b e n =
    let size : length l ≡ b - a = omega (arith, n) in
    ap (take (b - a)) e ∙ take_at l rest (b - a) size

from_unit : (d : Desk) (gain : ℕ → GainValue) (w : ℕ → List ℤ) (a b : ℕ) (u : FilledValue) (rest : List ℤ) → IsUnit d a b u
    → d.gain ≡ gain d.gauge → drop a (w d.gauge) ≡ u.samples ++ rest → FromLanes gain w u
from_unit d gain w a b u rest i g e =
    let gauge : u.name.gauge ≡ d.gauge = ap (λ n. n.gauge) i.name in
    record {
      gained = i.gain ∙ g ∙ ap gain (sym gauge);
      holds = sym (ap (λ n. slice_range (w n.gauge) n.from n.to) i.name ∙ slice_front (w d.gauge) u.samples rest a b e i.long);
    }

-- the blocks of a lane, whose samples stand behind those that were read before
pub from_lane : (d : Desk) (gain : ℕ → GainValue) (w : ℕ → List ℤ) (a b : ℕ) (us : List FilledValue) (rest : List ℤ) → AreBlocks d a us b
    → d.gain ≡ gain d.gauge → drop a (w d.gauge) ≡ samples_of us ++ rest → Each (FromLanes gain w) us
from_lane d gain w a b [] rest none g e = no_item
from_lane d gain w a b (u ∷ []) rest (last i) g e =
    both (from_unit d gain w a b u rest i g (e ∙ ap (λ l. l ++ rest) (append-nil u.samples))) no_item
from_lane d gain w a b (u ∷ us) rest (more i r) g e =
    let split : drop a (w d.gauge) ≡ u.samples ++ (samples_of us ++ rest) = e ∙ append_assoc u.samples (samples_of us) rest in
    let size : length u.samples ≡ d.block = let l = i.long in omega (arith, l) in
    let sum : a + d.block ≡ a + d.block = refl in
    let next : drop (a + d.block) (w d.gauge) ≡ samples_of us ++ rest = sym (drop-drop d.block a (w d.gauge)) ∙ ap (drop d.block) split
    ∙ drop_at u.samples (samples_of us ++ rest) d.block size in
    both (from_unit d gain w a (a + d.block) u (samples_of us ++ rest) i g split) (from_lane d gain w (a + d.block) b us rest r g next)

pub each_dealt : {P : FilledValue → Type 0} → (n v k : ℕ) (us : List FilledValue) → Each P us → Each P (blocks_of_worker n v k us)
each_dealt n v k [] no_item = no_item
each_dealt n v k (u ∷ us) (both p d) = each_cond u (blocks_of_worker n v (k + 1) us) (eqb (k % n) v) (λ t. p) (each_dealt n v (k + 1) us d)

-- what was counted of a unit stands for the samples of its gauge that its name names
pub count_stands : (gain : ℕ → GainValue) (w : ℕ → List ℤ) (f : FilledValue) (c : CountedValue) → IsCountOf f c → FromLanes gain w f
    → UnitStands gain w c
count_stands gain w f c h p =
    let by_name : Stands c.segment (gain f.name.gauge) (slice_range (w f.name.gauge) f.name.from f.name.to) =
    subst (λ l. Stands c.segment (gain f.name.gauge) l) p.holds (subst (λ x. Stands c.segment x f.samples) p.gained h.stands) in
    subst (λ (n : Name). Stands c.segment (gain n.gauge) (slice_range (w n.gauge) n.from n.to)) (sym h.name) by_name

-- a fact of each unit, and so of each count
pub each_count : {P : FilledValue → Type 0} {Q : CountedValue → Type 0} → (fs : List FilledValue) (cs : List CountedValue)
    → ((f : FilledValue) (c : CountedValue) → IsCountOf f c → P f → Q c) → AreCounts fs cs → Each P fs → Each Q cs
each_count [] [] k nil no_item = no_item
each_count [] (c ∷ cs) k h e = elim h [ ]
each_count (f ∷ fs) [] k h e = elim h [ ]
each_count (f ∷ fs) (c ∷ cs) k (one h d) (both p e) = both (k f c h p) (each_count fs cs k d e)

pub counts_names : (fs : List FilledValue) (cs : List CountedValue) → AreCounts fs cs → unit_names cs ≡ names_of fs
counts_names [] [] nil = refl
counts_names [] (c ∷ cs) h = elim h [ ]
counts_names (f ∷ fs) [] h = elim h [ ]
counts_names (f ∷ fs) (c ∷ cs) (one h d) = ap (λ n. n ∷ unit_names cs) h.name ∙ ap (λ l. f.name ∷ l) (counts_names fs cs d)
