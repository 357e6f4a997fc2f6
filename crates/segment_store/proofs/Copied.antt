-- The copy of a store on its station reads, stands for the same samples and keeps the same.
use Rattle.std.proofs.Common.{◌≡◌, ◌≢◌, inl, inr, ℕ, ℤ, zero, suc, ◌+◌, ◌-◌, ◌<◌, ◌≤◌, ◌==◌, Bool, true, false, cond, List, [], ◌∷◌, ◌++◌, length, get_or, set, take, drop, refl, sym, ap, subst, ◌∙◌, arith, append_assoc, append-nil, length-append}
use Rattle.std.specs.Prelude.{replicate, map, filter, nat_lt}
use Rattle.std.specs.List.{AllByRecursion}
use Rattle.std.proofs.lemmas.Bool.{cases_lt, ltb-true, eq-eqb, ne_eqb}
use Rattle.std.proofs.lemmas.Bool.Decides.{nat_tests}
use Rattle.std.proofs.Math.Seq.{set-append_seam, get_or-append_seam}
use Rattle.outside.specs.station.Station.{Image}
use Rattle.calibration.specs.declared.setup.Setup.{Setup}
use Rattle.turning_points.specs.three_point.Run.{three_point}
use Rattle.segment.specs.segment_rules.Parts.{PartsValue}
use Rattle.segment.specs.segment_rules.Rules.{AreSegmentParts}
use Rattle.segment.specs.Segment.{SegmentValue, IsSegment, Stands}
use Rattle.segment.specs.Parts.{parts_of}
use Rattle.segment.specs.Standing.{PartsStand}
use Rattle.segment.proofs.PartsStanding.{parts_stand}
use Rattle.store_bytes.specs.store_head.Head.{IsHead}
use Rattle.segment_store.specs.Copy.{in_version_two, copies_of, SameKeeping, IsCopy}
use Rattle.segment_store.specs.Held.{AreHeld, ends_of}
use Rattle.segment_store.specs.Holds.{AllStand, StandsIn, gain_at}
use Rattle.segment_store.specs.Image.{ends_after, Tiles, none, one, Reads, nothing_held}
use Rattle.segment_store.specs.Keeps.{Keeps, bodies_of, last_end}
use Rattle.segment_store.specs.Moments.{StoreValue}
use Rattle.segment_store.proofs.HeldKeep.{KeepsBefore, halves_by, keeps_by}
use Rattle.segment_store.proofs.HeldStand.{stands_by}
use Rattle.segment_store.proofs.Holding.{held_is}

-- a held segment, as a body of its own
pub record IsOwnBody (setup : Setup) (g : ℕ) (v : SegmentValue) : Type 0 where
  pub gauge : v.gauge ≡ g
  pub from : v.from ≡ 0
  pub known : g < length setup.gains
  pub parts : AreSegmentParts setup.grid (parts_of v)

abbrev AreOwnBodies : Setup → ℕ → List SegmentValue → Type 0
AreOwnBodies setup g held = (i : ℕ) (d : SegmentValue) → i < length held → IsOwnBody setup (g + i) (get_or held i d)

abbrev pub has_samples : SegmentValue → Bool
has_samples v = nat_lt v.from v.to

later : (setup : Setup) (g h : ℕ) (v : SegmentValue) (held : List SegmentValue) → h ≡ g + 1 → AreOwnBodies setup g (v ∷ held)
    → AreOwnBodies setup h held
later setup g h v held e all i d lt = subst (λ n. IsOwnBody setup n (get_or held i d)) (omega (arith, e)) (all (suc i) d (omega (
  arith,
  lt,
)))

here : (setup : Setup) (g : ℕ) (v : SegmentValue) (held : List SegmentValue) → AreOwnBodies setup g (v ∷ held) → IsOwnBody setup g v
here setup g v held all = subst (λ n. IsOwnBody setup n v) (omega arith) (all 0 v (omega arith))

-- with samples or without them
pub with_it : (v : SegmentValue) (held : List SegmentValue) → has_samples v ≡ true → copies_of (v ∷ held) ≡ parts_of v ∷ copies_of held
with_it v held e = ap (λ b. map parts_of (cond b (v ∷ filter has_samples held) (filter has_samples held))) e

pub without_it : (v : SegmentValue) (held : List SegmentValue) → has_samples v ≡ false → copies_of (v ∷ held) ≡ copies_of held
without_it v held e = ap (λ b. map parts_of (cond b (v ∷ filter has_samples held) (filter has_samples held))) e

pub none_there : (v : SegmentValue) → v.from ≡ 0 → has_samples v ≡ false → v.to ≡ 0
none_there v from e = by v.from v.to from e
  where
    by : (a b : ℕ) → a ≡ 0 → nat_lt a b ≡ false → b ≡ 0
    by a b z e = grind (arith, nat_tests)

some_there : (v : SegmentValue) → has_samples v ≡ true → v.from < v.to
some_there v e = ltb-true v.from v.to e

-- ---- it tiles

-- one more gauge, where the others tile
tiles_one : (setup : Setup) (e : List ℕ) (v : SegmentValue) (held : List SegmentValue) → IsOwnBody setup (length e) v
    → Tiles setup ((e ++ v.to ∷ []) ++ replicate (length held) 0) (copies_of held) ((e ++ v.to ∷ []) ++ ends_of held)
    → Tiles setup (e ++ replicate (length (v ∷ held)) 0) (copies_of (v ∷ held)) (e ++ ends_of (v ∷ held))
tiles_one setup e v held own rest = by (has_samples v) refl
  where
    moved : Tiles setup (e ++ v.to ∷ replicate (length held) 0) (copies_of held) (e ++ ends_of (v ∷ held))
    moved = subst (λ l. Tiles setup l (copies_of held) (e ++ ends_of (v ∷ held))) (append_assoc e (v.to ∷ []) (replicate (length held) 0))
        (subst (λ l. Tiles setup ((e ++ v.to ∷ []) ++ replicate (length held) 0) (copies_of held) l)
        (append_assoc e (v.to ∷ []) (ends_of held)) rest)

    by : (b : Bool) → has_samples v ≡ b
        → Tiles setup (e ++ replicate (length (v ∷ held)) 0) (copies_of (v ∷ held)) (e ++ ends_of (v ∷ held))
    by true is =
        let there : get_or (e ++ 0 ∷ replicate (length held) 0) v.gauge 0 ≡ 0 =
        ap (λ n. get_or (e ++ 0 ∷ replicate (length held) 0) n 0) own.gauge ∙ get_or-append_seam e 0 (replicate (length held) 0) 0 in
        let after : ends_after (e ++ 0 ∷ replicate (length held) 0) (parts_of v) ≡ e ++ v.to ∷ replicate (length held) 0 =
        ap (λ n. set (e ++ 0 ∷ replicate (length held) 0) n v.to) own.gauge
        ∙ set-append_seam e 0 (replicate (length held) 0) v.to in
        subst (λ l. Tiles setup (e ++ 0 ∷ replicate (length held) 0) l (e ++ ends_of (v ∷ held))) (sym (with_it v held is))
        (one (record {
          body = record {
            segment = own.parts;
            gauge = omega (arith, own.gauge, own.known);
            some = some_there v is;
          };
          joins = own.from ∙ sym there;
        }) (subst (λ l. Tiles setup l (copies_of held) (e ++ ends_of (v ∷ held))) (sym after) moved))
    by false is =
        subst (λ l. Tiles setup (e ++ 0 ∷ replicate (length held) 0) l (e ++ ends_of (v ∷ held))) (sym (without_it v held is))
        (subst (λ n. Tiles setup (e ++ n ∷ replicate (length held) 0) (copies_of held) (e ++ ends_of (v ∷ held)))
        (none_there v own.from is) moved)

tiles_from : (setup : Setup) (e : List ℕ) (held : List SegmentValue) → AreOwnBodies setup (length e) held
    → Tiles setup (e ++ replicate (length held) 0) (copies_of held) (e ++ ends_of held)
tiles_from setup e [] all = none
tiles_from setup e (v ∷ held) all = tiles_one setup e v held (here setup (length e) v held all)
    (tiles_from setup (e ++ v.to ∷ []) held
    (later setup (length e) (length (e ++ v.to ∷ [])) v held (length-append e (v.to ∷ [])) all))

-- ---- it stands

stand_one : (setup : Setup) (w : ℕ → List ℤ) (v : SegmentValue) (held : List SegmentValue) → StandsIn setup w (parts_of v)
    → AllStand setup w (copies_of held) → (b : Bool) → has_samples v ≡ b → AllStand setup w (copies_of (v ∷ held))
stand_one setup w v held this rest true is = subst (AllStand setup w) (sym (with_it v held is)) (this, rest)
stand_one setup w v held this rest false is = subst (AllStand setup w) (sym (without_it v held is)) rest

copies_stand : (setup : Setup) (w : ℕ → List ℤ) (held : List SegmentValue)
    → ((i : ℕ) (d : SegmentValue) → i < length held → StandsIn setup w (parts_of (get_or held i d))) → AllStand setup w (copies_of held)
copies_stand setup w [] all = tt
copies_stand setup w (v ∷ held) all = stand_one setup w v held (all 0 v (omega arith))
    (copies_stand setup w held (λ i d lt. all (suc i) d (omega (arith, lt)))) (has_samples v) refl

-- ---- its bodies of a gauge

-- in front of the others, one of this gauge
own_first : (g : ℕ) (v : SegmentValue) (held : List SegmentValue) → v.gauge ≡ g → bodies_of g (copies_of held) ≡ []
    → (b : Bool) → has_samples v ≡ b → bodies_of g (copies_of (v ∷ held)) ≡ copies_of (v ∷ [])
own_first g v held e rest true is = ap (bodies_of g) (with_it v held is) ∙ ap (λ b. cond b (parts_of v ∷ bodies_of g (copies_of held))
    (bodies_of g (copies_of held))) (eq-eqb v.gauge g e) ∙ ap (λ l. parts_of v ∷ l) rest ∙ sym (with_it v [] is)
own_first g v held e rest false is = ap (bodies_of g) (without_it v held is) ∙ rest ∙ sym (without_it v [] is)

-- one of another
other_first : (g : ℕ) (v : SegmentValue) (held : List SegmentValue) (l : List PartsValue) → v.gauge ≢ g
    → bodies_of g (copies_of held) ≡ l → (b : Bool) → has_samples v ≡ b → bodies_of g (copies_of (v ∷ held)) ≡ l
other_first g v held l n rest true is = ap (bodies_of g) (with_it v held is) ∙ ap (λ b. cond b (parts_of v ∷ bodies_of g (copies_of held))
    (bodies_of g (copies_of held))) (ne_eqb v.gauge g n) ∙ rest
other_first g v held l n rest false is = ap (bodies_of g) (without_it v held is) ∙ rest

not_later : (setup : Setup) (k g : ℕ) (held : List SegmentValue) → AreOwnBodies setup k held → g < k → bodies_of g (copies_of held) ≡ []
not_later setup k g [] all lt = refl
not_later setup k g (v ∷ held) all lt =
    let own = (here setup k v held all).gauge in
    other_first g v held [] (λ e. omega (arith, e, lt, own))
    (not_later setup (k + 1) g held (later setup k (k + 1) v held refl all) (omega (arith, lt))) (has_samples v) refl

-- of one that is held
own_copies : (setup : Setup) (k g i : ℕ) (d : SegmentValue) (held : List SegmentValue) → AreOwnBodies setup k held → g ≡ k + i
    → i < length held → bodies_of g (copies_of held) ≡ copies_of (get_or held i d ∷ [])
own_copies setup k g i d [] all e lt = absurd (omega (arith, lt))
own_copies setup k g zero d (v ∷ held) all e lt =
    let own = (here setup k v held all).gauge in
    own_first g v held (omega (arith, own, e))
    (not_later setup (k + 1) g held (later setup k (k + 1) v held refl all) (omega (arith, e))) (has_samples v) refl
own_copies setup k g (suc i) d (v ∷ held) all e lt =
    let own = (here setup k v held all).gauge in
    other_first g v held (copies_of (get_or held i d ∷ [])) (λ f. omega (arith, e, f, own))
    (own_copies setup (k + 1) g i d held (later setup k (k + 1) v held refl all) (omega (arith, e)) (omega (arith, lt)))
    (has_samples v) refl

-- past the last gauge
no_copies : (setup : Setup) (k g : ℕ) (held : List SegmentValue) → AreOwnBodies setup k held → k + length held ≤ g
    → bodies_of g (copies_of held) ≡ []
no_copies setup k g [] all le = refl
no_copies setup k g (v ∷ held) all le =
    let own = (here setup k v held all).gauge in
    other_first g v held [] (λ f. omega (arith, le, f, own))
    (no_copies setup (k + 1) g held (later setup k (k + 1) v held refl all) (omega (arith, le))) (has_samples v) refl

one_at_most : (v : SegmentValue) → length (copies_of (v ∷ [])) ≤ 1
one_at_most v = by (has_samples v) refl
  where
    by : (b : Bool) → has_samples v ≡ b → length (copies_of (v ∷ [])) ≤ 1
    by true is = omega (arith, ap length (with_it v [] is))
    by false is = omega (arith, ap length (without_it v [] is))

-- ---- what the bodies keep

abbrev HasSamples : PartsValue → Type 0
HasSamples p = p.name.from < p.name.to

some_one : (g : ℕ) (p : PartsValue) (ps : List PartsValue) → HasSamples p → AllByRecursion HasSamples (bodies_of g ps)
    → (b : Bool) → (p.name.gauge == g) ≡ b → AllByRecursion HasSamples (bodies_of g (p ∷ ps))
some_one g p ps this rest true is =
    subst (λ b. AllByRecursion HasSamples (cond b (p ∷ bodies_of g ps) (bodies_of g ps))) (sym is) (this, rest)
some_one g p ps this rest false is =
    subst (λ b. AllByRecursion HasSamples (cond b (p ∷ bodies_of g ps) (bodies_of g ps))) (sym is) rest

tiles_some : (setup : Setup) (ends last : List ℕ) (ps : List PartsValue) (g : ℕ) → Tiles setup ends ps last
    → AllByRecursion HasSamples (bodies_of g ps)
tiles_some setup ends last [] g none = tt
tiles_some setup ends last (p ∷ ps) g (one next tiles) =
    some_one g p ps next.body.some (tiles_some setup (ends_after ends p) last ps g tiles) (p.name.gauge == g) refl

ends_above : (ps : List PartsValue) → AllByRecursion HasSamples ps → last_end ps ≡ 0 → ps ≡ []
ends_above [] all e = refl
ends_above (p ∷ []) all e = absurd (omega (arith, e, all.0))
ends_above (p ∷ q ∷ ps) all e = absurd (by (ends_above (q ∷ ps) all.1 e))
  where
    by : q ∷ ps ≡ [] → ⊥
    by f = absurd cc

not_known : (setup : Setup) (ends last : List ℕ) (ps : List PartsValue) (g : ℕ) → Tiles setup ends ps last → length setup.gains ≤ g
    → bodies_of g ps ≡ []
not_known setup ends last [] g none le = refl
not_known setup ends last (p ∷ ps) g (one next tiles) le =
    ap (λ b. cond b (p ∷ bodies_of g ps) (bodies_of g ps)) (ne_eqb p.name.gauge g (λ e. omega (arith, e, le, next.body.gauge)))
    ∙ not_known setup (ends_after ends p) last ps g tiles le

kept_by_one : (v : SegmentValue) → KeepsBefore v (parts_of v ∷ [])
kept_by_one v = record {
  used = omega arith;
  missing = omega arith;
  refused = omega arith;
  halves = λ q lo hi. omega (arith, ap (λ (l : List ℕ). three_point (l ++ q) lo hi) (sym (append-nil v.reducer.residue)));
}

nothing_kept : SameKeeping [] []
nothing_kept = record { last = refl; used = refl; missing = refl; refused = refl; halves = λ lo hi. refl }

same_kept : (v : SegmentValue) (bodies : List PartsValue) → IsSegment v → v.from ≡ 0 → AllByRecursion HasSamples bodies → Keeps v bodies
    → SameKeeping (copies_of (v ∷ [])) bodies
same_kept v bodies rules from some k = by (has_samples v) refl
  where
    by : (b : Bool) → has_samples v ≡ b → SameKeeping (copies_of (v ∷ [])) bodies
    by true is = subst (λ l. SameKeeping l bodies) (sym (with_it v [] is)) (record {
      last = k.last;
      used = omega (arith, k.used);
      missing = omega (arith, k.missing);
      refused = omega (arith, k.refused);
      halves = λ lo hi. sym (halves_by (parts_of v ∷ []) v (kept_by_one v) rules lo hi) ∙ k.halves lo hi;
    })
    by false is =
        let none = ends_above bodies some (sym k.last ∙ none_there v from is) in
        subst (λ l. SameKeeping l bodies) (sym (without_it v [] is)) (subst (SameKeeping []) (sym none) nothing_kept)

-- ---- the copy

module _ (s : StoreValue) (bodies : List PartsValue) (seen : Image) (reads : Reads s.head bodies (ends_of s.held) seen)
    (held : AreHeld s.head.setup.grid bodies s.held)
    (is_head : IsHead (in_version_two s.head)) (many : length s.held ≡ length s.head.setup.gains)
    (rules : (g : ℕ) (d : SegmentValue) → g < length s.held → IsSegment (get_or s.held g d))
    (parts : (g : ℕ) (d : SegmentValue) → g < length s.held
    → AreSegmentParts (get_or s.held g d).grid (parts_of (get_or s.held g d))) where
  abbrev setup : Setup
  setup = s.head.setup

  own : AreOwnBodies setup 0 s.held
  own i d lt =
      let is = held_is setup.grid i bodies (get_or s.held i d) (held i d lt) in
      record {
        gauge = is.gauge ∙ omega arith;
        from = is.from;
        known = omega (arith, lt, many);
        parts = subst (λ k. AreSegmentParts k (parts_of (get_or s.held i d))) is.grid_is (parts i d lt);
      }

  stand_in : (w : ℕ → List ℤ) → AllStand setup w bodies → (i : ℕ) (d : SegmentValue) → i < length s.held
      → StandsIn setup w (parts_of (get_or s.held i d))
  stand_in w all i d lt =
      let v : SegmentValue = get_or s.held i d in
      let is = held_is setup.grid i bodies (get_or s.held i d) (held i d lt) in
      let stands : Stands v (gain_at setup i) (take v.to (w i)) = stands_by setup w i bodies (get_or s.held i d) (held i d lt) all in
      let one : PartsStand v.grid (gain_at setup i) (parts_of v) (take v.to (w i)) =
      parts_stand v (rules i d lt) (gain_at setup i) (take v.to (w i)) stands in
      let two : PartsStand setup.grid (gain_at setup v.gauge) (parts_of v) (take v.to (w v.gauge)) =
      subst (λ k. PartsStand k (gain_at setup v.gauge) (parts_of v) (take v.to (w v.gauge))) is.grid_is
      (subst (λ n. PartsStand v.grid (gain_at setup n) (parts_of v) (take v.to (w n))) (sym is.gauge) one) in
      subst (λ l. PartsStand setup.grid (gain_at setup v.gauge) (parts_of v) l) (sym (whole v.from v.to (w v.gauge) is.from)) two
    where
      whole : (a b : ℕ) (l : List ℤ) → a ≡ 0 → take (b - a) (drop a l) ≡ take b l
      whole a b l e = ap (λ n. take (b - n) (drop n l)) e ∙ ap (λ n. take n l) (omega arith)

  kept_there : (g : ℕ) (d : SegmentValue) → g < length s.held → SameKeeping (bodies_of g (copies_of s.held)) (bodies_of g bodies)
  kept_there g d lt =
      subst (λ l. SameKeeping l (bodies_of g bodies)) (sym (own_copies setup 0 g g d s.held own (omega arith) lt))
      (same_kept (get_or s.held g d) (bodies_of g bodies) (rules g d lt) (own g d lt).from
      (tiles_some setup (nothing_held setup) (ends_of s.held) bodies g reads.tiles)
      (keeps_by setup.grid g bodies (get_or s.held g d) (held g d lt) (rules g d lt)))

  past : (g : ℕ) → length s.held ≤ g → bodies_of g (copies_of s.held) ≡ []
  past g le = no_copies setup 0 g s.held own (omega (arith, le))

  pub is_copy : (d : SegmentValue) → IsCopy s bodies
  is_copy d = record {
    reads = record {
      is_head = is_head;
      gate = 0;
      rest = [];
      whole = refl;
      closed = λ e. omega (arith, e);
      tiles = subst (λ n. Tiles setup (replicate n 0) (copies_of s.held) (ends_of s.held)) many (tiles_from setup [] s.held own);
    };
    stand = λ w all. copies_stand setup w s.held (stand_in w all);
    one_each = λ g. elim (cases_lt g (length s.held)) [
      | inl lt ↦ subst (λ (l : List PartsValue). length l ≤ 1) (sym (own_copies setup 0 g g d s.held own (omega arith) lt))
          (one_at_most (get_or s.held g d))
      | inr le ↦ omega (arith, ap length (past g le))
    ];
    kept = λ g. elim (cases_lt g (length s.held)) [
      | inl lt ↦ kept_there g d lt
      | inr le ↦ subst (λ l. SameKeeping l (bodies_of g bodies)) (sym (past g le)) (subst (SameKeeping [])
          (sym (not_known setup (nothing_held setup) (ends_of s.held) bodies g reads.tiles (omega (arith, le, many)))) nothing_kept)
    ];
  }
