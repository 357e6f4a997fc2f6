-- How the answers of resuming are put together.
use Rattle.std.proofs.Common.{◌≡◌, ℕ, ◌+◌, ◌<◌, ◌≤◌, List, [], ◌∷◌, ◌++◌, length, take, drop, Option, Some, None, Result, Ok, Err, sym, ap, subst, ◌∙◌, arith, append_assoc, length-append, take-append-drop}
use Rattle.std.specs.Prelude.{IfOk, IfErr, OnOk}
use Rattle.std.specs.Option.{option_or}
use Rattle.std.proofs.lemmas.List.{length-take}
use Rattle.outside.specs.Fault.{CountRose}
use Rattle.outside.specs.station.Station.{Image}
use Rattle.calibration.specs.Gain.{GainValue}
use Rattle.segment.specs.segment_rules.Parts.{PartsValue}
use Rattle.segment_store.specs.declared.damage.Stop.{Stop}
use Rattle.segment_store.specs.declared.damage.Stop.TheVariants as stops
use Rattle.segment_store.specs.declared.damage.Damage.{Damage}
use Rattle.store_bytes.specs.declared.store_head.fault.HeadFault.{HeadFault}
use Rattle.segment_store.specs.declared.fault.PutFault.{PutFault}
use Rattle.segment_store.specs.declared.fault.ResumeFault.{ResumeFault}
use Rattle.segment_store.specs.declared.fault.ResumeFault.TheVariants.{NotAStore, Version, Differs, Damaged, DiskFault, OutOfMemory}
use Rattle.calibration.specs.declared.setup.Setup.{Setup}
use Rattle.store_bytes.specs.declared.segment_bytes.layout.Layout.{Layout}
use Rattle.store_bytes.specs.store_head.Head.{HeadValue, IsHead, head_of, start_of}
use Rattle.segment_store.specs.Image.{open_bodies, IsNext, Reads, nothing_held}
use Rattle.store_bytes.specs.store_head.HeadFaults.{gauge_fault, gauge_at, gauges_fault, head_fault}
use Rattle.segment_store.specs.Held.{AreHeld, ends_of}
use Rattle.segment_store.specs.Moments.{StoreValue, IsAt, IsOn}
use Rattle.segment_store.specs.Resuming.{Walks, StopsWalkAs}
use Rattle.segment_store.specs.Reading.{IsFound, NoDamage, StartsAt}
use Rattle.segment_store.specs.Opening.{fault_is, IsHeadAnswer, WalksAs, Resumes, IsUnharmed}

-- ---- faults of the head

pub head_answer_first : (X Y : Type 0) (f : ResumeFault) (a b : Option HeadFault) → IsHeadAnswer {X = X} (Err f) a
    → IsHeadAnswer {X = Y} (Err f) (option_or a b)
head_answer_first X Y NotAStore a b e = ap (λ o. option_or o b) e
head_answer_first X Y (Version v) a b e = ap (λ o. option_or o b) e
head_answer_first X Y (Differs field kept found) a b e = ap (λ o. option_or o b) e
head_answer_first X Y (Damaged index damage) a b e = e
head_answer_first X Y DiskFault a b e = tt
head_answer_first X Y OutOfMemory a b e = tt

wider : (a b c d : ℕ) → CountRose b c → a ≤ b → c ≤ d → CountRose a d
wider a b c d r e f = grind arith

-- ---- one gauge after the other

module _ (g : ℕ) (x : GainValue) (gains : List GainValue) (i : ℕ) (image : Image) (here : drop i gains ≡ x ∷ drop (i + 1) gains) where
  pub fault_here : (X Y : Type 0) (f : ResumeFault) (o : Option HeadFault)
      → IsHeadAnswer {X = X} (Err f) (gauge_fault g x (gauge_at g image))
      → gauges_fault g (drop i gains) image ≡ o → IsHeadAnswer {X = Y} (Err f) o
  fault_here X Y f o h e = subst (λ p. IsHeadAnswer {X = Y} (Err f) p) (sym (ap (λ l. gauges_fault g l image) here)
      ∙ e) (head_answer_first X Y f _ _ h)

-- ---- the bodies behind it

module _ {X : Type 0} (lay : Layout) (s : Setup) (limit : ℕ) (image : Image) (see : X → ℕ × List ℕ) where
  pub walks_err : (index : ℕ) (stop : Stop) → StopsWalkAs (Walks lay s limit image 0 (start_of s) (nothing_held s)) index stop
      → WalksAs lay s limit image see (Err (fault_is index stop))
  walks_err index stops.Memory e = tt
  walks_err index stops.Disk e = tt
  walks_err index (stops.Damaged d) e = e

  pub unharmed_err : (index : ℕ) (stop : Stop) → NoDamage stop → IsUnharmed {X = X} (Err (fault_is index stop))
  unharmed_err index stops.Memory e = tt
  unharmed_err index stops.Disk e = tt
  unharmed_err index (stops.Damaged d) e = e

module _ {X : Type 0} (s : Setup) (image : Image) (see : X → ℕ × List ℕ) where
  pub resumes_err : (Y : Type 0) (f : ResumeFault) → IsHeadAnswer {X = Y} (Err f) (head_fault s image) → Resumes s image see (Err f)
  resumes_err Y NotAStore e = e
  resumes_err Y (Version v) e = e
  resumes_err Y (Differs field kept found) e = e
  resumes_err Y (Damaged index d) e = absurd e
  resumes_err Y DiskFault e = tt
  resumes_err Y OutOfMemory e = tt

some_none : {x : HeadFault} → Some x ≡ None → ⊥
some_none e = absurd cc

pub never_err : (X Y : Type 0) (s : Setup) (image : Image) (f : ResumeFault) → IsHeadAnswer {X = Y} (Err f) (head_fault s image)
    → head_fault s image ≡ None → IsUnharmed {X = X} (Err f)
never_err X Y s image NotAStore e n = absurd (some_none (sym e ∙ n))
never_err X Y s image (Version v) e n = absurd (some_none (sym e ∙ n))
never_err X Y s image (Differs field kept found) e n = absurd (some_none (sym e ∙ n))
never_err X Y s image (Damaged index d) e n = absurd e
never_err X Y s image DiskFault e n = tt
never_err X Y s image OutOfMemory e n = tt

-- what stands there, from the head and the walk
pub reads_found : (h : HeadValue) (image : Image) (place : ℕ) (ends : List ℕ) (bodies : List PartsValue) → IsHead h
    → start_of h.setup < length image → take (start_of h.setup) image ≡ head_of h
    → IsFound h.layout h.setup image (start_of h.setup) (nothing_held h.setup) place ends bodies
    → Reads h bodies ends image × (place ≡ length (head_of h ++ open_bodies h.layout bodies))
reads_found h image place ends bodies is lt head f =
    let start = start_of h.setup in
    let whole : image ≡ (head_of h ++ open_bodies h.layout bodies) ++ f.gate ∷ f.rest =
    sym (take-append-drop start image) ∙ ap (λ (l : List ℕ). l ++ drop start image) head ∙ ap (λ (l : List ℕ). head_of h ++ l) f.split
    ∙ sym (append_assoc (head_of h) (open_bodies h.layout bodies) (f.gate ∷ f.rest)) in
    let long : length (head_of h) ≡ start = omega (arith, ap length head, length-take start image, lt) in (
      record {
        is_head = is;
        gate = f.gate;
        rest = f.rest;
        whole = whole;
        closed = f.closed;
        tiles = f.tiles;
      },
      omega (arith, f.place_is, long, length-append (head_of h) (open_bodies h.layout bodies)),
    )

pub if_ok_any : {X E : Type 0} (P : Type 0) (r : Result X E) → P → IfOk r (λ x. P)
if_ok_any P (Ok x) p = p
if_ok_any P (Err e) p = tt

pub if_err_any : {X E : Type 0} (P : Type 0) (r : Result X E) → P → IfErr r (λ e. P)
if_err_any P (Ok x) p = tt
if_err_any P (Err e) p = p

pub if_err_more : {X E : Type 0} (P Q : Type 0) (r : Result X E) → (P → Q) → IfErr r (λ e. P) → IfErr r (λ e. Q)
if_err_more P Q (Ok x) go p = tt
if_err_more P Q (Err e) go p = go p

pub if_ok3 : {X E : Type 0} (P Q R S : X → Type 0) (r : Result X E) → ((x : X) → P x → Q x → R x → S x) → IfOk r P → IfOk r Q → IfOk r R
    → IfOk r S
if_ok3 P Q R S (Ok x) go p q s = go x p q s
if_ok3 P Q R S (Err e) go p q s = tt

-- a walk from equal places
module _ (lay : Layout) (s : Setup) (image : Image) (limit limit2 start start2 : ℕ) (ends ends2 : List ℕ) (l : limit ≡ limit2)
    (a : start ≡ start2) (e : ends ≡ ends2) where
  pub walks_moved : (r : Result (ℕ × List ℕ) (ℕ × Damage)) → Walks lay s limit image 0 start ends r
      → Walks lay s limit2 image 0 start2 ends2 r
  walks_moved r w = subst (λ n. Walks lay s n image 0 start2 ends2 r) l
      (subst (λ n. Walks lay s limit image 0 n ends2 r) a (subst (λ n. Walks lay s limit image 0 start n r) e w))

  pub starts_moved : (bodies : List PartsValue) (last : List ℕ) (gate : ℕ) (front rest : List ℕ)
      → StartsAt lay s limit2 image start2 ends2 bodies last gate front rest
      → StartsAt lay s limit image start ends bodies last gate front rest
  starts_moved bodies last gate front rest w = subst (λ n. StartsAt lay s n image start ends bodies last gate front rest) (sym l)
      (subst (λ n. StartsAt lay s limit2 image n ends bodies last gate front rest) (sym a)
      (subst (λ n. StartsAt lay s limit2 image start2 n bodies last gate front rest) (sym e) w))

  pub stops_moved : (index : ℕ) (stop : Stop) → StopsWalkAs (Walks lay s limit image 0 start ends) index stop
      → StopsWalkAs (Walks lay s limit2 image 0 start2 ends2) index stop
  stops_moved index stops.Memory w = tt
  stops_moved index stops.Disk w = tt
  stops_moved index (stops.Damaged d) w = walks_moved (Err (index, d)) w

-- a put with Ok, by the parts of the store
pub put_on : (r : Result (Unit {0}) PutFault) (u w : StoreValue) (bodies : List PartsValue) (p : PartsValue) (seen : Image)
    (leaves : Image → Type 0)
    → w.head ≡ u.head → u.count ≡ length bodies
    → OnOk r (IsNext u.head.setup (ends_of u.held) p × IsAt u.head (bodies ++ p ∷ []) (ends_of w.held) w.place seen leaves)
    → OnOk r (AreHeld u.head.setup.grid (bodies ++ p ∷ []) w.held) → OnOk r (w.count ≡ u.count + 1)
    → OnOk r (IsNext u.head.setup (ends_of u.held) p × IsOn w (bodies ++ p ∷ []) seen leaves)
put_on (Err e) u w bodies p seen leaves same count stored held counted = tt
put_on (Ok t) u w bodies p seen leaves same count stored held counted =
    let at = subst (λ (h : HeadValue). IsAt h (bodies ++ p ∷ []) (ends_of w.held) w.place seen leaves) (sym same) stored.1 in (
      stored.0,
      record {
        reads = at.reads;
        held = subst (λ (h : HeadValue). AreHeld h.setup.grid (bodies ++ p ∷ []) w.held) (sym same) held;
        count_is = omega (arith, counted, count, length-append bodies (p ∷ []));
        place_is = at.place_is;
        durable = at.durable;
      },
    )
