-- A held segment has what the bodies of its gauge keep.
--   keeps_more  a body more
--   halves_by   what that says of a pair
--   keeps_by    by the bodies of a gauge, joined
--   held_keep   of a store on its station
use Rattle.std.proofs.Common.{◌≡◌, ◌≢◌, ℕ, ◌+◌, ◌*◌, ◌<◌, ◌==◌, List, [], ◌∷◌, ◌++◌, length, get_or, refl, sym, ap, subst, ◌∙◌, arith, append_assoc, append-nil}
use Rattle.std.specs.Prelude.{sum_by, if◌then◌else◌}
use Rattle.std.specs.List.{flat_map}
use Rattle.std.proofs.lemmas.Grind.{flat_map-append}
use Rattle.std.proofs.lemmas.List.Elements.{filter-append}
use Rattle.std.proofs.lemmas.List.Sums.{sum_by_push}
use Rattle.std.proofs.lemmas.Bool.{eq-eqb, ne_eqb}
use Rattle.outside.specs.station.Station.{Image}
use Rattle.calibration.specs.Grid.{GridValue}
use Rattle.turning_points.specs.three_point.Run.{three_point}
use Rattle.tally.specs.Counts.{count_of}
use Rattle.four_point.proofs.on_residue_join.HalfUnits.{counts_its_result}
use Rattle.segment.specs.segment_rules.Parts.{PartsValue}
use Rattle.segment.specs.Segment.{SegmentValue, IsSegment}
use Rattle.segment.specs.Parts.{parts_of}
use Rattle.segment.specs.Figures.{halves_of}
use Rattle.segment_store.specs.Held.{IsHeld, JoinsPart, none, other, joined}
use Rattle.segment_store.specs.Keeps.{Keeps, bodies_of, last_end, kept_halves}
use Rattle.segment_store.specs.Moments.{IsOn, StoreValue}

-- in a form that can be joined: whatever residue comes behind
pub record KeepsBefore (v : SegmentValue) (bodies : List PartsValue) : Type 0 where
  pub used : v.used ≡ sum_by (λ b. b.used) bodies
  pub missing : v.missing ≡ sum_by (λ b. b.missing) bodies
  pub refused : v.refused ≡ sum_by (λ b. b.refused) bodies
  pub halves : (q : List ℕ) (lo hi : ℕ) → 2 * count_of v.tally.cells lo hi + three_point (v.reducer.residue ++ q) lo hi
      ≡ 2 * sum_by (λ b. count_of b.cells lo hi) bodies + three_point (flat_map (λ b. b.residue) bodies ++ q) lo hi

last_push : (bodies : List PartsValue) (p : PartsValue) → last_end (bodies ++ p ∷ []) ≡ p.name.to
last_push [] p = refl
last_push (b ∷ []) p = refl
last_push (b ∷ c ∷ bodies) p = last_push (c ∷ bodies) p

-- a segment with this residue and no cycles
abbrev rest : SegmentValue → List ℕ → SegmentValue
rest v q = record v {
  reducer = record { classes = v.reducer.classes; residue = q };
  tally = record { classes = v.tally.classes; room = v.tally.room; cells = [] };
}

residues_push : (bodies : List PartsValue) (p : PartsValue) (q : List ℕ) → flat_map (λ b. b.residue) (bodies ++ p ∷ []) ++ q
    ≡ flat_map (λ b. b.residue) bodies ++ (p.residue ++ q)
residues_push bodies p q =
    ap (λ l. l ++ q) (flat_map-append (λ (b : PartsValue). b.residue) bodies (p ∷ [])
    ∙ ap (λ l. flat_map (λ (b : PartsValue). b.residue) bodies ++ l) (append-nil p.residue))
    ∙ append_assoc (flat_map (λ (b : PartsValue). b.residue) bodies) p.residue q

pub keeps_more : (u right v : SegmentValue) (bodies : List PartsValue) → KeepsBefore u bodies → JoinsPart u right v →
    KeepsBefore v (bodies ++ parts_of right ∷ [])
keeps_more u right v bodies k j = record {
  used = omega (arith, j.readings.0, k.used, sum_by_push (λ (b : PartsValue). b.used) bodies (parts_of right));
  missing = omega (arith, j.readings.1, k.missing, sum_by_push (λ (b : PartsValue). b.missing) bodies (parts_of right));
  refused = omega (arith, j.readings.2, k.refused, sum_by_push (λ (b : PartsValue). b.refused) bodies (parts_of right));
  halves = λ q lo hi.
      let behind = (j.kept (rest u q ∷ [])).halves lo hi in
      omega (
        arith,
        behind,
        k.halves (right.reducer.residue ++ q) lo hi,
        sum_by_push (λ (b : PartsValue). count_of b.cells lo hi) bodies (parts_of right),
        ap (λ l. three_point l lo hi) (residues_push bodies (parts_of right) q),
        ap (λ l. three_point (v.reducer.residue ++ l) lo hi) (append-nil q),
        ap (λ l. three_point (u.reducer.residue ++ (right.reducer.residue ++ l)) lo hi) (append-nil q),
      );
}

pub not_of : (p : PartsValue) (g : ℕ) → p.name.gauge ≢ g → bodies_of g (p ∷ []) ≡ []
not_of p g n = ap (λ b. if b then p ∷ [] else []) (ne_eqb p.name.gauge g n)

pub is_of : (p : PartsValue) (g : ℕ) → p.name.gauge ≡ g → bodies_of g (p ∷ []) ≡ p ∷ []
is_of p g e = ap (λ b. if b then p ∷ [] else []) (eq-eqb p.name.gauge g e)

module _ (grid : GridValue) (g : ℕ) where
  keeps_before : (bodies : List PartsValue) (v : SegmentValue) → IsHeld grid g bodies v → KeepsBefore v (bodies_of g bodies)
  keeps_before bodies v none = record { used = refl; missing = refl; refused = refl; halves = λ q lo hi. refl }
  keeps_before bodies v (other {bodies = before} p n h) =
      let same = filter-append (λ (b : PartsValue). b.name.gauge == g) before (p ∷ []) ∙ ap (λ l. bodies_of g before ++ l) (not_of p g n)
      ∙ append-nil (bodies_of g before) in
      subst (KeepsBefore v) (sym same) (keeps_before before v h)
  keeps_before bodies v (joined {bodies = before} {v = u} right gauge over rules h j) =
      let more = filter-append (λ (b : PartsValue). b.name.gauge == g) before (parts_of right ∷ []) ∙ ap (λ l. bodies_of g before ++ l)
      (is_of (parts_of right) g gauge) in
      subst (KeepsBefore v) (sym more) (keeps_more u right v (bodies_of g before) (keeps_before before u h) j)

  last_is : (bodies : List PartsValue) (v : SegmentValue) → IsHeld grid g bodies v → v.to ≡ last_end (bodies_of g bodies)
  last_is bodies v none = refl
  last_is bodies v (other {bodies = before} p n h) =
      let same = filter-append (λ (b : PartsValue). b.name.gauge == g) before (p ∷ []) ∙ ap (λ l. bodies_of g before ++ l) (not_of p g n)
      ∙ append-nil (bodies_of g before) in
      last_is before v h ∙ ap last_end (sym same)
  last_is bodies v (joined {bodies = before} {v = u} right gauge over rules h j) =
      let more = filter-append (λ (b : PartsValue). b.name.gauge == g) before (parts_of right ∷ []) ∙ ap (λ l. bodies_of g before ++ l)
      (is_of (parts_of right) g gauge) in
      j.end ∙ sym (ap last_end more ∙ last_push (bodies_of g before) (parts_of right))

-- twice the cycles, and what the residue counts by itself
halves_kept : (v : SegmentValue) → IsSegment v → (lo hi : ℕ) →
    halves_of v lo hi ≡ 2 * count_of v.tally.cells lo hi + three_point v.reducer.residue lo hi
halves_kept v i lo hi =
    let r = v.reducer.residue in
    let own = i.residue in
    omega (
      arith,
      counts_its_result r (λ lo hi. 0) r (record {
        pairs = [];
        by = own.own;
        counts = λ lo hi. refl;
        irreducible = own.irreducible;
      }) lo hi,
    )

pub halves_by : (bodies : List PartsValue) (v : SegmentValue) → KeepsBefore v bodies → IsSegment v → (lo hi : ℕ) →
    halves_of v lo hi ≡ kept_halves bodies lo hi
halves_by bodies v k rules lo hi =
    omega (
      arith,
      halves_kept v rules lo hi,
      k.halves [] lo hi,
      ap (λ l. three_point l lo hi) (append-nil v.reducer.residue),
      ap (λ l. three_point l lo hi) (append-nil (flat_map (λ (b : PartsValue). b.residue) bodies)),
    )

pub keeps_by : (grid : GridValue) (g : ℕ) (bodies : List PartsValue) (v : SegmentValue) → IsHeld grid g bodies v → IsSegment v →
    Keeps v (bodies_of g bodies)
keeps_by grid g bodies v h rules =
    let k = keeps_before grid g bodies v h in
    record {
      last = last_is grid g bodies v h;
      used = k.used;
      missing = k.missing;
      refused = k.refused;
      halves = halves_by (bodies_of g bodies) v k rules;
    }

pub held_keep : (s : StoreValue) (bodies : List PartsValue) (seen : Image) (leaves : Image → Type 0) → IsOn s bodies seen leaves
    → (g : ℕ) (d : SegmentValue) → g < length s.held → IsSegment (get_or s.held g d) → Keeps (get_or s.held g d) (bodies_of g bodies)
held_keep s bodies seen leaves on g d lt rules = keeps_by s.head.setup.grid g bodies (get_or s.held g d) (on.held g d lt) rules
