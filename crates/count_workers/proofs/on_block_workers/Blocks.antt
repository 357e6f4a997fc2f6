-- What a reader keeps while it reads.
use Rattle.std.proofs.Common.{◌≡◌, ◌⊎◌, inl, inr, ◌≤◌, ◌<◌, ◌+◌, ◌-◌, ◌*◌, ◌%◌, ℕ, zero, suc, List, [], ◌∷◌, ◌++◌, take, drop, map, length, get_or, refl, sym, ap, ◌∙◌, subst, arith, Some, append_assoc, length-append, length-take, rules, vec_len, Bool, true, false, cond, eqb}
use Rattle.std.proofs.lemmas.List.{append-nil, map-append}
use Rattle.std.proofs.lemmas.Bool.{cases_eq, eq-eqb, ne_eqb}
use Rattle.std.proofs.Math.Nat.{mul-le-mul_right}
use Rattle.std.proofs.Math.Seq.{take-add}
use Rattle.std.specs.List.{All}
use Rattle.std.specs.Prelude.{ℤ}
use Rattle.calibration.specs.Gain.{GainValue}
use Rattle.calibration.specs.Grid.{GridValue}
use Rattle.calibration.specs.declared.limits.TheConstants.{MAX_SAMPLES}
use Rattle.recording.specs.Samples.{samples}
use Rattle.recording.proofs.SampleLists.{samples-drop}
use Rattle.recording.specs.declared.lane_ends.end.End.{End}
use Rattle.recording.specs.declared.lane_ends.end.End.TheVariants.{More}
use Rattle.recording.specs.lane_ends.Ends.{IsRead}
use Rattle.recording.proofs.on_lane_ends.Giving.{gives_more, gives_wider, gives_none}
use Rattle.board.specs.flow.Flow.{name_of_samples}
use Rattle.count_workers.specs.declared.gauge_ring.feeder.Feeder.{Feeder}
use Rattle.count_workers.specs.gauge_ring.Ends.{fed, IsSameFeeder}
use Rattle.board.specs.block_pool.Units.{FilledValue, BlankValue, IsBlank, buffer_after_loan}
use Rattle.count_workers.specs.declared.block_workers.item.Item.{Item}
use Rattle.count_workers.specs.declared.block_workers.item.Item.TheVariants.{Mark}
use Rattle.count_workers.specs.declared.block_workers.desk.Desk.{Desk}
use Rattle.count_workers.specs.block_workers.Dealing.{block_of, blocks_of_worker, FeedsOneRing, MarksAll}
use Rattle.count_workers.specs.block_workers.Reading.{IsUnit, AreBlocks, samples_of, SameDesk, IsReady, NoBlock, OneBlock, OneRead, IsReadSoFar, most, BlocksOfRound, ReadDone}
use Rattle.count_workers.specs.block_workers.Reading.AreBlocks.{none, last, more}
use Rattle.count_workers.specs.block_workers.Jobs.{NotRead}
use Rattle.count_workers.proofs.on_gauge_ring.Ends.{same_feeders}
use Rattle.lemmas.proofs.Lists.{all_written}
use Rattle.board.specs.declared.flow.TheConstants.{BLOCKS_PER_WINDOW}

-- whole blocks one after another
pub data AreWhole (d : Desk) : ℕ → List FilledValue → ℕ → Type 0 where
  empty : {a : ℕ} → AreWhole d a [] a
  whole : {a b : ℕ} {u : FilledValue} {us : List FilledValue} → IsUnit d a (a + d.block) u → AreWhole d (a + d.block) us b
      → AreWhole d a (u ∷ us) b

-- so many of them were read, and more may follow
abbrev pub WholeSoFar : Desk → Desk → ℕ → List FilledValue → Type 0
WholeSoFar old new n us = (length us ≡ n) × AreWhole old old.at us new.at × (new.end ≡ More)

pub unit_is : (d : Desk) (n : ℕ) (kind : GridValue) (buf out : List ℤ) (u : FilledValue)
    → u ≡ record {
      block = length (buffer_after_loan buf out);
      grid = kind;
      name = name_of_samples d.gauge d.at (d.at + n);
      samples =
          take n (buffer_after_loan buf out);
      gain = d.gain;
    }
    → length out ≡ length buf → length buf ≡ d.block → kind ≡ d.grid → n ≤ length out → 0 < n → IsUnit d d.at (d.at + n) u
unit_is d n kind buf out u e l b k few some =
    let same : buffer_after_loan buf out ≡ out = all_written buf out (length buf) refl l in
    record {
      name = ap (λ (v : FilledValue). v.name) e;
      gain = ap (λ (v : FilledValue). v.gain) e;
      block = ap (λ (v : FilledValue). v.block) e ∙ ap length same ∙ l ∙ b;
      grid = ap (λ (v : FilledValue). v.grid) e ∙ k;
      long = let s : length u.samples ≡ length (take n out) = ap (λ (v : FilledValue). length v.samples) e
          ∙ ap (λ s. length (take n s)) same in omega (arith, s, length-take n out, few);
      some = omega (arith, some);
      short = omega (arith, few, l, b);
    }

pub samples_are : (n : ℕ) (kind : GridValue) (block gauge at : ℕ) (gain : GainValue) (buf out : List ℤ) (u : FilledValue)
    → u ≡ record {
      block = block;
      grid = kind;
      name = name_of_samples gauge at (at + n);
      samples = take n (buffer_after_loan buf out);
      gain = gain;
    }
    → length out ≡ length buf → u.samples ≡ take n out
samples_are n kind block gauge at gain buf out u e l = ap (λ (v : FilledValue). v.samples) e
    ∙ ap (take n) (all_written buf out (length buf) refl l)

pub feeds_through : (old was new : List (Feeder Item)) (n v w : ℕ) (items : List Item) → was ≡ old → n ≡ length old → v ≡ w
    → FeedsOneRing was new v items → FeedsOneRing old (take n (new ++ drop (length new) old)) w items
feeds_through old was new n v w items e l q h =
    let first : FeedsOneRing old new v items = subst (λ o. FeedsOneRing o new v items) e h in
    let same : take n (new ++ drop (length new) old) ≡ new = all_written old new n l first.long in
    subst (λ m. FeedsOneRing old m w items) (sym same) (subst (λ k. FeedsOneRing old new k items) q first)

pub marks_through : (old was new : List (Feeder Item)) (n : ℕ) → was ≡ old → n ≡ length old → MarksAll was new
    → MarksAll old (take n (new ++ drop (length new) old))
marks_through old was new n e l h =
    let first : MarksAll old new = subst (λ o. MarksAll o new) e h in
    subst (MarksAll old) (sym (all_written old new n l first.long)) first

-- a whole block more, a last one, and none
whole_more : (d : Desk) (a b : ℕ) (us : List FilledValue) (u : FilledValue) → AreWhole d a us b → IsUnit d b (b + d.block) u
    → AreWhole d a (us ++ u ∷ []) (b + d.block)
whole_more d a b [] u empty i = whole i empty
whole_more d a b (v ∷ us) u (whole j r) i = whole j (whole_more d (a + d.block) b us u r i)

whole_last : (d : Desk) (a b c : ℕ) (us : List FilledValue) (u : FilledValue) → AreWhole d a us b → IsUnit d b c u
    → AreBlocks d a (us ++ u ∷ []) c
whole_last d a b c [] u empty i = last i
whole_last d a b c (v ∷ us) u (whole j r) i = more j (whole_last d (a + d.block) b c us u r i)

whole_are : (d : Desk) (a b : ℕ) (us : List FilledValue) → AreWhole d a us b → AreBlocks d a us b
whole_are d a b [] empty = none
whole_are d a b (v ∷ us) (whole j r) = more j (whole_are d (a + d.block) b us r)

whole_long : (d : Desk) (a b : ℕ) (us : List FilledValue) → AreWhole d a us b → b ≡ a + length us * d.block
whole_long d a b [] empty = omega arith
whole_long d a b (v ∷ us) (whole j r) = let e : b ≡ a + d.block + length us * d.block = whole_long d (a + d.block) b us r in
    omega (arith, e)

blocks_of_worker_cons : (b : Bool) (w : FilledValue) (l m k : List FilledValue) → l ≡ m ++ k → cond b (w ∷ l) l ≡ cond b (w ∷ m) m ++ k
blocks_of_worker_cons true w l m k e = ap (λ s. w ∷ s) e
blocks_of_worker_cons false w l m k e = e

blocks_of_worker_push : (n v k : ℕ) (us : List FilledValue) (u : FilledValue)
    → blocks_of_worker n v k (us ++ u ∷ []) ≡ blocks_of_worker n v k us ++ cond (eqb ((k + length us) % n) v) (u ∷ []) []
blocks_of_worker_push n v k [] u = ap (λ i. cond (eqb (i % n) v) (u ∷ []) []) (omega arith)
blocks_of_worker_push n v k (w ∷ us) u =
    let at : k + 1 + length us ≡ k + length (w ∷ us) = omega arith in
    blocks_of_worker_cons (eqb (k % n) v) w (blocks_of_worker n v (k + 1) (us ++ u ∷ [])) (blocks_of_worker n v (k + 1) us)
    (cond (eqb ((k + length (w ∷ us)) % n) v) (u ∷ []) [])
    (blocks_of_worker_push n v (k + 1) us u ∙ ap (λ i. blocks_of_worker n v (k + 1) us ++ cond (eqb (i % n) v) (u ∷ []) []) at)

samples_push : (us : List FilledValue) (u : FilledValue) → samples_of (us ++ u ∷ []) ≡ samples_of us ++ u.samples
samples_push [] u = append-nil u.samples
samples_push (w ∷ us) u = ap (λ l. w.samples ++ l) (samples_push us u) ∙ sym (append_assoc w.samples (samples_of us) u.samples)

-- what a ring was fed, with one block more
fed_or : (n v w : ℕ) (us : List FilledValue) (u : FilledValue) (a b c : List Item) → b ≡ a ++ map block_of (blocks_of_worker n v 0 us)
    → length us % n ≡ w → (w ≡ v → c ≡ b ++ block_of u ∷ []) → ((v ≡ w → ⊥) → c ≡ b) → ((v ≡ w) ⊎ (v ≡ w → ⊥))
    → c ≡ a ++ map block_of (blocks_of_worker n v 0 (us ++ u ∷ []))
fed_or n v w us u a b c e at here there (inl q) =
    let test : eqb ((0 + length us) % n) v ≡ true = ap (λ i. eqb (i % n) v) (omega arith) ∙ eq-eqb (length us % n) v (at ∙ sym q) in
    let deal : blocks_of_worker n v 0 (us ++ u ∷ []) ≡ blocks_of_worker n v 0 us ++ u ∷ [] = blocks_of_worker_push n v 0 us u
    ∙ ap (λ b. blocks_of_worker n v 0 us ++ cond b (u ∷ []) []) test in
    here (sym q) ∙ ap (λ l. l ++ block_of u ∷ []) e ∙ append_assoc a (map block_of (blocks_of_worker n v 0 us)) (block_of u ∷ [])
    ∙ ap (λ l. a ++ l) (sym (ap (map block_of) deal ∙ map-append block_of (blocks_of_worker n v 0 us) (u ∷ [])))
fed_or n v w us u a b c e at here there (inr q) =
    let test : eqb ((0 + length us) % n) v ≡ false = ap (λ i. eqb (i % n) v) (omega arith)
    ∙ ne_eqb (length us % n) v (λ r. q (sym r ∙ at)) in
    let deal : blocks_of_worker n v 0 (us ++ u ∷ []) ≡ blocks_of_worker n v 0 us = blocks_of_worker_push n v 0 us u
    ∙ ap (λ b. blocks_of_worker n v 0 us ++ cond b (u ∷ []) []) test
    ∙ append-nil (blocks_of_worker n v 0 us) in
    there q ∙ e ∙ ap (λ l. a ++ map block_of l) (sym deal)

same_desk : (a b c : Desk) → SameDesk a b → SameDesk b c → SameDesk a c
same_desk a b c h k = record {
  gauge = k.gauge ∙ h.gauge;
  gain = k.gain ∙ h.gain;
  block = k.block ∙ h.block;
  grid = k.grid
      ∙ h.grid;
  feeders = k.feeders ∙ h.feeders;
  room = k.room ∙ h.room;
}

-- the unit as the first desk sees it
unit_from : (a b : Desk) (x y : ℕ) (u : FilledValue) → SameDesk a b → IsUnit b x y u → IsUnit a x y u
unit_from a b x y u h i = record {
  name = i.name ∙ ap (λ g. name_of_samples g x y) h.gauge;
  gain = i.gain ∙ h.gain;
  block = i.block ∙ h.block;
  grid = i.grid ∙ h.grid;
  long = i.long;
  some = i.some;
  short = omega (arith, i.short, h.block);
}

fits_from : (a b : Desk) (l : List BlankValue) → SameDesk a b → All (IsBlank b.block b.grid) l → All (IsBlank a.block a.grid) l
fits_from a b l h f = subst (λ k. All (IsBlank k a.grid) l) h.block (subst (λ k. All (IsBlank b.block k) l) h.grid f)

-- what was given so far, and then for one block
extend_gives : (left_old left_mid left_new : List ℕ) (old mid new : Desk) (number : ℕ) → SameDesk old mid
    → mid.at ≡ old.at + number * old.block → mid.end ≡ More → mid.at ≤ new.at
    → IsRead (number * old.block) (most old) left_old (mid.at - old.at) mid.end left_mid
    → IsRead mid.block (most mid) left_mid (new.at - mid.at) new.end left_new
    → IsRead (number * old.block + old.block) (most old) left_old (new.at - old.at) new.end left_new
extend_gives left_old left_mid left_new old mid new number s at still up g k =
    let m = number * old.block in
    let same : mid.at - old.at ≡ m = omega (arith, at) in
    let left_most : most mid ≡ most old - m = omega (arith, at) in
    let here : IsRead old.block (most old - m) left_mid (new.at - mid.at) new.end left_new =
    subst (λ l. IsRead old.block l left_mid (new.at - mid.at) new.end left_new) left_most
    (subst (λ b. IsRead b (most mid) left_mid (new.at - mid.at) new.end left_new) s.block k) in
    let sum : m + (new.at - mid.at) ≡ new.at - old.at = omega (arith, at, up) in
    let few = g.few in
    subst (λ n. IsRead (m + old.block) (most old) left_old n new.end left_new) sum
    (gives_more m old.block (most old) (new.at - mid.at) left_old left_mid left_new new.end (let a = few.2 in
    omega (arith, a, same)) (let a = few.1 in omega (arith, a, same)) (g.left still) here)

-- the samples of one block behind those before it
samples_more : (left_old left_mid : List ℕ) (us : List FilledValue) (u : FilledValue) (m n k : ℕ)
    → samples_of us ≡ take m (samples left_old) → m ≤ length (samples left_old) → left_mid ≡ drop (4 * m) left_old
    → u.samples ≡ take (length u.samples) (samples left_mid) → length u.samples ≡ k → m + k ≡ n
    → samples_of (us ++ u ∷ []) ≡ take n (samples left_old)
samples_more left_old left_mid us u m n k e few is f long sum =
    samples_push us u ∙ ap (λ l. l ++ u.samples) e
    ∙ ap (λ l. take m (samples left_old) ++ l) (f ∙ ap (λ i. take i (samples left_mid)) long ∙ ap (λ l. take k (samples l)) is
    ∙ ap (take k) (samples-drop m left_old))
    ∙ sym (take-add m k (samples left_old)) ∙ ap (λ i. take i (samples left_old)) sum

whole_at : (old mid : Desk) (number : ℕ) (us : List FilledValue) → WholeSoFar old mid number us → mid.at ≡ old.at + number * old.block
whole_at old mid number us h = let e : mid.at ≡ old.at + length us * old.block = whole_long old old.at mid.at us h.1 in
    let n : length us * old.block ≡ number * old.block = ap (λ k. k * old.block) h.0 in omega (arith, e, n)

-- one block more
pub one_more : (tells : Type 0) (left_old left_mid left_new : List ℕ) (old mid new : Desk) (number : ℕ) (P : List FilledValue → Type 0) →
    (r : IsReadSoFar tells left_old left_mid old mid (number * old.block) (WholeSoFar old mid number)) → SameDesk mid new
    → new.at ≤ MAX_SAMPLES → (tells → IsRead mid.block (most mid) left_mid (new.at - mid.at) new.end left_new)
    → (o : OneBlock tells left_mid mid new number) → P (r.units ++ o.unit ∷ [])
    → IsReadSoFar tells left_old left_new old new (number * old.block + old.block) P
one_more tells left_old left_mid left_new old mid new number P r s limit k o p =
    let at : mid.at ≡ old.at + number * old.block = whole_at old mid number r.units r.are in
    let up : mid.at < new.at = o.is.some in
    record {
      same = same_desk old mid new r.same s;
      limit = limit;
      later = omega (arith, r.later, up);
      units = r.units ++ o.unit ∷ [];
      are = p;
      samples = λ t. (
          let g = r.gives t in let few = g.few in let m : mid.at - old.at ≡ number * old.block = omega (arith, at) in
          samples_more left_old left_mid r.units o.unit (number * old.block) (new.at - old.at) (new.at - mid.at) (r.samples t
          ∙ ap (λ i. take i (samples left_old)) m) (let a = few.2 in
          omega (arith, a, m)) (g.left r.are.2) (o.samples t) (let l = o.is.long in omega (arith, l)) (omega (arith, at, up)));
      gives = λ t. extend_gives left_old left_mid left_new old mid new number r.same at r.are.2 (omega (arith, up)) (r.gives t) (k t);
      fed = λ v d h. fed_or (vec_len old.feeders) v (number % vec_len mid.feeders) r.units o.unit _ _ _ (r.fed v d h)
          (ap (λ k. k % vec_len old.feeders) r.are.0 ∙ ap (λ k. number % k) (sym r.same.feeders))
          (λ q. subst (λ k. fed (get_or new.feeders.items k d) ≡ fed (get_or mid.feeders.items k d) ++ block_of o.unit ∷ []) q
          (o.feeds.here d)) (o.feeds.there v d) (cases_eq v (number % vec_len mid.feeders));
      ends = λ v d h. same_feeders (get_or old.feeders.items v d) (get_or mid.feeders.items v d) (get_or new.feeders.items v d)
          (r.ends v d h)
          (o.feeds.same v d);
      blanks = omega (arith, r.blanks, o.blanks, length-append r.units (o.unit ∷ []));
      fit = fits_from old mid new.blanks.items r.same o.fit;
    }

-- nothing more
pub no_more : (tells : Type 0) (left_old left_mid left_new : List ℕ) (old mid new : Desk) (number : ℕ) (Q : List FilledValue → Type 0) →
    (r : IsReadSoFar tells left_old left_mid old mid (number * old.block) (WholeSoFar old mid number)) → SameDesk mid new
    → new.at ≤ MAX_SAMPLES → (tells → IsRead mid.block (most mid) left_mid (new.at - mid.at) new.end left_new) → NoBlock mid new → Q r.units
    → IsReadSoFar tells left_old left_new old new (number * old.block + old.block) Q
no_more tells left_old left_mid left_new old mid new number Q r s limit k o q = record {
  same = same_desk old mid new r.same s;
  limit = limit;
  later = omega (arith, r.later, o.at);
  units = r.units;
  are = q;
  samples = λ t. r.samples t ∙ ap (λ a. take (a - old.at) (samples left_old)) (sym o.at);
  gives = λ t. extend_gives left_old left_mid left_new old mid new number r.same (whole_at old mid number r.units r.are) r.are.2
      (omega (arith, o.at)) (r.gives t) (k t);
  fed = λ v d h. ap (λ l. fed (get_or l v d)) o.feeders ∙ r.fed v d h;
  ends = λ v d h. subst (λ l. IsSameFeeder (get_or old.feeders.items v d) (get_or l v d)) (sym o.feeders) (r.ends v d h);
  blanks = omega (arith, r.blanks, o.blanks);
  fit = fits_from old mid new.blanks.items r.same o.fit;
}

-- the same reading, of which as many samples were wanted
wanting : (tells : Type 0) (left_old left_new : List ℕ) (old new : Desk) (a b : ℕ) (P : List FilledValue → Type 0)
    → IsReadSoFar tells left_old left_new old new a P → (tells → IsRead b (most old) left_old (new.at - old.at) new.end left_new)
    → IsReadSoFar tells left_old left_new old new b P
wanting tells left_old left_new old new a b P r g =
    record {
      same = r.same;
      limit = r.limit;
      later = r.later;
      units = r.units;
      are = r.are;
      samples = r.samples;
      gives = g;
      fed =
          r.fed;
      ends = r.ends;
      blanks = r.blanks;
      fit = r.fit;
    }

pub whole_step : (tells : Type 0) (left_old left_mid left_new : List ℕ) (old mid new : Desk) (number : ℕ) (answer : Bool) → answer ≡ true
    → IsReadSoFar tells left_old left_mid old mid (number * old.block) (WholeSoFar old mid number)
    → OneRead tells left_mid left_new mid new number answer
    → IsReadSoFar tells left_old left_new old new ((number + 1) * old.block) (WholeSoFar old new (number + 1))
whole_step tells left_old left_mid left_new old mid new number answer sure r o =
    let (b, at, end) = o.whole sure in
    let unit : IsUnit old mid.at (mid.at + old.block) b.unit =
    subst (λ k. IsUnit old mid.at (mid.at + k) b.unit) r.same.block
    (subst (λ k. IsUnit old mid.at k b.unit) at (unit_from old mid mid.at new.at b.unit r.same b.is)) in
    let to : mid.at + old.block ≡ new.at = omega (arith, at, r.same.block) in
    let sum : number * old.block + old.block ≡ (number + 1) * old.block = omega arith in
    subst (λ w. IsReadSoFar tells left_old left_new old new w (WholeSoFar old new (number + 1))) sum
    (one_more tells left_old left_mid left_new old mid new number (WholeSoFar old new (number + 1)) r o.same o.limit o.gives b (
      omega (arith, length-append r.units (b.unit ∷ []), r.are.0),
      subst (AreWhole old old.at (r.units ++ b.unit ∷ [])) to (whole_more old old.at mid.at r.units b.unit r.are.1 unit),
      end,
    ))

done_or : (tells : Type 0) (left_old left_mid left_new : List ℕ) (old mid new : Desk) (number : ℕ) → number < BLOCKS_PER_WINDOW
    → IsReadSoFar tells left_old left_mid old mid (number * old.block) (WholeSoFar old mid number) → SameDesk mid new → new.at ≤ MAX_SAMPLES
    → (tells → IsRead mid.block (most mid) left_mid (new.at - mid.at) new.end left_new)
    → (NoBlock mid new ⊎ OneBlock tells left_mid mid new number)
    → IsReadSoFar tells left_old left_new old new (number * old.block + old.block) (BlocksOfRound old new)
done_or tells left_old left_mid left_new old mid new number few r s limit k (inl n) =
    no_more tells left_old left_mid left_new old mid new number (BlocksOfRound old new) r s limit k n
    (omega (arith, r.are.0, few), subst (AreBlocks old old.at r.units) (sym n.at) (whole_are old old.at mid.at r.units r.are.1))
done_or tells left_old left_mid left_new old mid new number few r s limit k (inr b) =
    one_more tells left_old left_mid left_new old mid new number (BlocksOfRound old new) r s limit k b (
      omega (arith, length-append r.units (b.unit ∷ []), r.are.0, few),
      whole_last old old.at mid.at new.at r.units b.unit r.are.1 (unit_from old mid mid.at new.at b.unit r.same b.is),
    )

pub done_with : (tells : Type 0) (left_old left_mid left_new : List ℕ) (old mid new : Desk) (number : ℕ) (answer : Bool)
    → number < BLOCKS_PER_WINDOW → answer ≡ false →
    IsReadSoFar tells left_old left_mid old mid (number * old.block) (WholeSoFar old mid number)
    → OneRead tells left_mid left_new mid new number answer
    → IsReadSoFar tells left_old left_new old new (BLOCKS_PER_WINDOW * old.block) (BlocksOfRound old new)
done_with tells left_old left_mid left_new old mid new number answer few over r o =
    let d = done_or tells left_old left_mid left_new old mid new number few r o.same o.limit o.gives o.did in
    let up : (number + 1) * old.block ≤ BLOCKS_PER_WINDOW * old.block = mul-le-mul_right old.block (omega (arith, few)) in
    let sum : number * old.block + old.block ≡ (number + 1) * old.block = omega arith in
    wanting tells left_old left_new old new (number * old.block + old.block) (BLOCKS_PER_WINDOW * old.block) (BlocksOfRound old new) d
    (λ t. gives_wider (number * old.block + old.block) (BLOCKS_PER_WINDOW * old.block) (most old) (new.at - old.at) left_old left_new
    new.end (o.ended over) (omega (arith, up, sum)) (d.gives t))

pub done_all : (tells : Type 0) (left_old left_new : List ℕ) (old new : Desk) (number : ℕ) → number ≡ BLOCKS_PER_WINDOW
    → IsReadSoFar tells left_old left_new old new (number * old.block) (WholeSoFar old new number)
    → IsReadSoFar tells left_old left_new old new (BLOCKS_PER_WINDOW * old.block) (BlocksOfRound old new)
done_all tells left_old left_new old new number few r = record {
  same = r.same;
  limit = r.limit;
  later = r.later;
  units = r.units;
  samples = r.samples;
  gives = λ t. subst (λ n. IsRead (n * old.block) (most old) left_old (new.at - old.at) new.end left_new) few (r.gives t);
  fed = r.fed;
  ends = r.ends;
  blanks = r.blanks;
  fit = r.fit;
  are = (omega (arith, r.are.0, few), whole_are old old.at new.at r.units r.are.1);
}

pub none_yet : (tells : Type 0) (l : List ℕ) (d : Desk) → IsReady d BLOCKS_PER_WINDOW
    → IsReadSoFar tells l l d d (0 * d.block) (WholeSoFar d d 0)
none_yet tells l d h =
    let zero_at : d.at - d.at ≡ 0 = omega arith in
    let none_wanted : 0 ≡ 0 * d.block = omega arith in
    record {
      same = record { gauge = refl; gain = refl; block = refl; grid = refl; feeders = refl; room = refl };
      limit = h.limit;
      later = omega arith;
      units = [];
      are = (refl, empty, h.end);
      samples = λ t. sym (ap (λ n. take n (samples l)) zero_at);
      gives = λ t. subst (λ w. IsRead w (most d) l (d.at - d.at) d.end l) none_wanted
          (subst (λ e. IsRead 0 (most d) l (d.at - d.at) e l) (sym h.end)
          (subst (λ n. IsRead 0 (most d) l n More l) (sym zero_at) (gives_none (most d) l)));
      fed = λ v e m. sym (append-nil (fed (get_or d.feeders.items v e)));
      ends = λ v e m. search rules;
      blanks = omega arith;
      fit = h.fit;
    }

pub still_ready : (tells : Type 0) (l m : List ℕ) (old new : Desk) (number : ℕ) → IsReady old BLOCKS_PER_WINDOW → number < BLOCKS_PER_WINDOW
    → IsReadSoFar tells l m old new (number * old.block) (WholeSoFar old new number) → IsReady new (BLOCKS_PER_WINDOW - number)
still_ready tells l m old new number h few r = record {
  blanks = omega (arith, r.blanks, r.are.0, h.blanks, few);
  fit = subst (λ k. All (IsBlank k new.grid) new.blanks.items) (sym r.same.block)
      (subst (λ k. All (IsBlank old.block k) new.blanks.items) (sym r.same.grid) r.fit);
  limit = r.limit;
  end = r.are.2;
  some = omega (arith, h.some, r.same.block);
  workers = omega (arith, h.workers, r.same.feeders);
}

pub marked : (tells : Type 0) (left_old left_new : List ℕ) (old mid new : Desk)
    → IsReadSoFar tells left_old left_new old mid (BLOCKS_PER_WINDOW * old.block) (BlocksOfRound old mid) → NotRead mid new
    → ReadDone tells left_old left_new old new
marked tells left_old left_new old mid new r m = record {
  same = same_desk old mid new r.same m.same;
  limit = omega (arith, m.at, r.limit);
  units = r.units;
  few = r.are.0;
  blocks = subst (AreBlocks old old.at r.units) (sym m.at) r.are.1;
  samples = λ t. r.samples t ∙ ap (λ a. take (a - old.at) (samples left_old)) (sym m.at);
  gives = λ t. subst (λ e. IsRead (BLOCKS_PER_WINDOW * old.block) (most old) left_old (new.at - old.at) e left_new) (sym m.end)
      (subst (λ a. IsRead (BLOCKS_PER_WINDOW * old.block) (most old) left_old (a - old.at) mid.end left_new) (sym m.at) (r.gives t));
  fed = λ v d h. m.fed v d (omega (arith, h, r.same.feeders)) ∙ ap (λ l. l ++ Mark ∷ []) (r.fed v d h)
      ∙ append_assoc (fed (get_or old.feeders.items v d)) (map block_of (blocks_of_worker (vec_len old.feeders) v 0 r.units)) (Mark ∷ []);
  ends = λ v d h. same_feeders (get_or old.feeders.items v d) (get_or mid.feeders.items v d) (get_or new.feeders.items v d) (r.ends v d h)
      (m.ends v d (omega (arith, h, r.same.feeders)));
  blanks = ap (λ l. vec_len l + length r.units) m.blanks ∙ r.blanks;
  fit = subst (λ l. All (IsBlank old.block old.grid) l) (sym (ap (λ l. l.items) m.blanks)) r.fit;
}

-- the last of the blanks, and those that are left
pub popped : (b : ℕ) (g : GridValue) (n : ℕ) (xs : List BlankValue) (u : BlankValue) → All (IsBlank b g) xs → n ≡ length xs → 0 < n
    → ((d : BlankValue) → 0 < n → Some u ≡ Some (get_or xs (n - 1) d)) → IsBlank b g u
popped b g n xs u a l some v =
    let is : Some u ≡ Some (get_or xs (n - 1) u) = v u some in
    let same : get_or xs (n - 1) u ≡ u = cc in
    let at : IsBlank b g (get_or xs (n - 1) u) = a (n - 1) u (omega (arith, l, some)) in subst (IsBlank b g) same at

-- the samples of a unit are the first that were left
pub first_samples : (n : ℕ) (u : FilledValue) (a : ℕ) (out : List ℤ) (w : List ℤ) → a + length u.samples ≡ a + n → u.samples ≡ take n out
    → take n out ≡ take n w → u.samples ≡ take (length u.samples) w
first_samples n u a out w long e f = let l : length u.samples ≡ n = omega (arith, long) in e ∙ f ∙ ap (λ k. take k w) (sym l)

pub no_both : (b : Bool) → b ≡ true → b ≡ false → ⊥
no_both b e f = let x : suc zero ≡ zero = ap (λ t. cond t 1 0) (sym e ∙ f) in omega (arith, x)

-- the same numbers, written otherwise
pub gives_as : (a b m n k : ℕ) (before after : List ℕ) (e : End) → a ≡ b → n ≡ k → IsRead a m before n e after → IsRead b m before k e after
gives_as a b m n k before after e p q g = subst (λ x. IsRead b m before x e after) q (subst (λ x. IsRead x m before n e after) p g)

pub written_blank : (b : ℕ) (g kind : GridValue) (old out : List ℤ) → length out ≡ length old → length old ≡ b → kind ≡ g
    → IsBlank b g (record { buffer = buffer_after_loan old out; grid = kind })
written_blank b g kind old out l e f = record { block = ap length (all_written old out (length old) refl l) ∙ l ∙ e; grid = f }

-- nothing but marks
pub marks_only : (old new : Desk) → SameDesk old new → new.at ≡ old.at → new.end ≡ old.end → new.blanks ≡ old.blanks
    → MarksAll old.feeders.items new.feeders.items → NotRead old new
marks_only old new s at end b m = record {
  same = s;
  at = at;
  end = end;
  fed = λ v d h. m.marked v d (omega (arith, h, old.feeders.ok.0));
  ends = λ v d h. m.same v d;
  blanks = b;
}
