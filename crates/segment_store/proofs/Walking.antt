-- The steps of a walk, as the loop makes them.
use Rattle.std.proofs.Common.{◌≡◌, ℕ, ◌+◌, ◌-◌, ◌<◌, true, false, List, [], ◌∷◌, length, get_or, take, drop, slice_range, ◌∙◌, ap, subst, arith}
use Rattle.std.specs.Prelude.{Result, Ok, Err, OnOk, OnErr}
use Rattle.std.specs.Result.{is_err}
use Rattle.std.proofs.lemmas.List.{drop_more}
use Rattle.outside.specs.station.Station.{Image}
use Rattle.calibration.specs.declared.setup.Setup.{Setup}
use Rattle.store_bytes.specs.declared.segment_bytes.layout.Layout.{Layout}
use Rattle.segment.specs.segment_rules.Parts.{PartsValue}
use Rattle.segment_store.specs.declared.damage.Damage.{Damage}
use Rattle.segment_store.specs.declared.damage.Stop.{Stop}
use Rattle.segment_store.specs.declared.damage.Stop.TheVariants as stops
use Rattle.segment_store.specs.Image.{ends_after}
use Rattle.segment_store.specs.Resuming.{length_at, Finds, TellsAs, Walks, StopsWalkAs, damaged, more}
use Rattle.segment_store.specs.Reading.{NoDamage}
use Rattle.segment_store.specs.declared.filling.TheConstants.{FRAME_LENGTH}

pub on_ok : {E : Type 0} (r : Result (Unit {0}) E) (P : Type 0) → is_err r ≡ false → OnOk r P → P
on_ok (Ok u) P is h = h
on_ok (Err e) P is h = absurd cc

pub on_err : {E : Type 0} (r : Result (Unit {0}) E) (P : Type 0) → is_err r ≡ true → OnErr r P → P
on_err (Ok u) P is h = absurd cc
on_err (Err e) P is h = h

-- the byte of a gate
pub gate_is : (image image2 : Image) (buf : List ℕ) (at : ℕ) → image2 ≡ image → at < length image → buf ≡ slice_range image2 at (at + 1)
    → get_or buf 0 0 ≡ get_or image at 0
gate_is image image2 buf at same lt is =
    let e : at + 1 - at ≡ 1 = omega arith in
    let one_at : slice_range image at (at + 1) ≡ get_or image at 0 ∷ [] = ap (λ d. take (at + 1 - at) d) (drop_more image at 0 lt)
    ∙ ap (λ n. take n (get_or image at 0 ∷ drop (at + 1) image)) e in
    ap (λ (l : List ℕ). get_or l 0 0) (is ∙ ap (λ i. slice_range i at (at + 1)) same ∙ one_at)

module _ (lay : Layout) (setup : Setup) (limit limit2 : ℕ) (image image2 : Image) (ends ends2 : List ℕ) (index at : ℕ)
    (same : image2 ≡ image) (limit_same : limit2 ≡ limit) (ends_same : ends2 ≡ ends) (gate : get_or image at 0 ≡ 1) where
  moved : (r : Result PartsValue Damage) → Finds lay setup limit2 image2 ends2 at r → Finds lay setup limit image ends at r
  moved r f = subst (λ i. Finds lay setup limit i ends at r) same
      (subst (λ l. Finds lay setup l image2 ends at r) limit_same (subst (λ e. Finds lay setup limit2 image2 e at r) ends_same f))

  pub step : (p : PartsValue) (next : ℕ) → Finds lay setup limit2 image2 ends2 at (Ok p) → next ≡ at + length_at image2 at + FRAME_LENGTH
      → (r : Result (ℕ × List ℕ) (ℕ × Damage)) → Walks lay setup limit image (index + 1) next (ends_after ends p) r
      → Walks lay setup limit image index at ends r
  step p next f is r w = more gate (moved (Ok p) f) (subst (λ n. Walks lay setup limit image (index + 1) n (ends_after ends p) r) (is
      ∙ ap (λ i. at + length_at i at + FRAME_LENGTH) same) w)

  pub stops_here : {X : Type 0} (view : X → PartsValue) (W : Result (ℕ × List ℕ) (ℕ × Damage) → Type 0) (stop : Stop)
      → TellsAs view (Finds lay setup limit2 image2 ends2 at) (Err stop)
      → ((r : Result (ℕ × List ℕ) (ℕ × Damage)) → Walks lay setup limit image index at ends r → W r) → StopsWalkAs W index stop
  stops_here view W stops.Memory t go = tt
  stops_here view W stops.Disk t go = tt
  stops_here view W (stops.Damaged d) t go = go (Err (index, d)) (damaged gate (moved (Err d) t))

-- where every way to walk ends well
pub no_damage : (last : List ℕ) (W : Result (ℕ × List ℕ) (ℕ × Damage) → Type 0) (index : ℕ) (stop : Stop) → StopsWalkAs W index stop
    → ((q : Result (ℕ × List ℕ) (ℕ × Damage)) → W q → (place : ℕ) × (q ≡ Ok (place, last))) → NoDamage stop
no_damage last W index stops.Memory e only = tt
no_damage last W index stops.Disk e only = tt
no_damage last W index (stops.Damaged d) e only = let o = only (Err (index, d)) e in let f = o.1 in absurd cc
