use Rattle.std.proofs.Common.{◌≡◌, ◌≤◌, ◌+◌, ◌-◌, ◌++◌, ℕ, List, take, drop, get_or, length, refl, slice_range, sym, subst, ap, ◌∙◌, arith}
use Rattle.std.proofs.lemmas.List.{with_items_is, take-take, drop-take, drop-drop, get_or-take, get_or-drop}
use Rattle.std.specs.Prelude.{Result, Ok, Err}
use Rattle.std.specs.Int.{w32, from_be_bytes, to_be_bytes}
use Rattle.sha2.specs.Sha256.{sha256}
use Rattle.outside.specs.station.Station.{Image}
use Rattle.segment.specs.segment_rules.Parts.{PartsValue}
use Rattle.segment.specs.Parts.{parts_of}
use Rattle.store_bytes.specs.declared.segment_bytes.layout.Layout.{Layout}
use Rattle.segment_store.specs.declared.damage.Damage.TheVariants as damages
use Rattle.segment_store.specs.declared.damage.Stop.{Stop}
use Rattle.segment_store.specs.declared.damage.Stop.TheVariants as stops
use Rattle.calibration.specs.declared.setup.Setup.{Setup}
use Rattle.segment_store.specs.Resuming.{field_at, length_at, bytes_at, kept_at, found_at, Checks, Finds, TellsAs, IsWhole, no_length, too_long, no_gate, whole}
use Rattle.segment_store.specs.declared.resuming.TheConstants.{BEHIND}
use Rattle.segment_store.specs.declared.filling.TheConstants.{FRAME_LENGTH}
use Rattle.segment_store.proofs.Nearness.{step_is}
use Rattle.segment_store.proofs.Quiet.{quiet_starts, quiet_on, quiet_then}
use Rattle.segment_store.proofs.resuming.stored_body.Goals as goal

field_is : (image : Image) (at : ℕ) (field : List ℕ) → field ≡ slice_range image (at + 1) (at + 1 + 4) → field ≡ field_at image at
field_is image at field is = let e : at + 1 + 4 ≡ at + 5 = omega arith in is ∙ ap (λ n. slice_range image (at + 1) n) e

length_is : (image : Image) (at : ℕ) (field : List ℕ) (n : ℕ) → field ≡ slice_range image (at + 1) (at + 1 + 4)
    → n ≡ from_be_bytes w32 field → n ≡ length_at image at
length_is image at field n is made = made ∙ ap (from_be_bytes w32) (field_is image at field is)

-- one read of a body, its digest and a gate
module _ (image read body rest : List ℕ) (at len : ℕ) (is : read ≡ take (len + BEHIND) (drop (at + 5) image)) (front : body ≡ take len read)
    (back : rest ≡ drop len read) where
  body_read : body ≡ slice_range image (at + 5) (at + 5 + len)
  body_read =
      let n : len ≡ at + 5 + len - (at + 5) = omega arith in
      front ∙ ap (take len) is ∙ take-take len (len + BEHIND) (drop (at + 5) image) (omega arith) ∙ ap (λ m. take m (drop (at + 5) image)) n

  rest_read : rest ≡ take BEHIND (drop (at + 5 + len) image)
  rest_read = back ∙ ap (drop len) is ∙ drop-take len BEHIND (drop (at + 5) image) ∙ ap (take BEHIND) (drop-drop len (at + 5) image)

  kept_read : take 32 rest ≡ slice_range image (at + 5 + len) (at + 5 + len + 32)
  kept_read =
      let n : 32 ≡ at + 5 + len + 32 - (at + 5 + len) = omega arith in
      ap (take 32) rest_read ∙ take-take 32 BEHIND (drop (at + 5 + len) image) (omega arith)
      ∙ ap (λ m. take m (drop (at + 5 + len) image)) n

  gate_read : get_or rest 32 0 ≡ get_or image (at + 5 + len + 32) 0
  gate_read = ap (λ (l : List ℕ). get_or l 32 0) rest_read ∙ get_or-take BEHIND (drop (at + 5 + len) image) 32 0 (omega arith)
      ∙ get_or-drop (at + 5 + len) image 32 0

-- a read of so many bytes
part_is : (image image2 : Image) (buf : List ℕ) (from len len2 : ℕ) → image2 ≡ image → len ≡ len2
    → buf ≡ slice_range image2 from (from + len) → buf ≡ take len2 (drop from image)
part_is image image2 buf from len len2 same a is =
    let n : from + len - from ≡ len2 = omega (arith, a) in
    is ∙ ap (λ i. slice_range i from (from + len)) same ∙ ap (λ m. take m (drop from image)) n

-- what the bytes that were read are, is what stands behind the gate
module _ (lay : Layout) (setup : Setup) (limit : ℕ) (image : Image) (ends : List ℕ) (at : ℕ) (view : Unit {0} → PartsValue)
    (field buf body rest : List ℕ) (len : ℕ) (field_read : field ≡ slice_range image (at + 1) (at + 1 + 4))
    (value : len ≡ from_be_bytes w32 field) (spelled : to_be_bytes w32 len ≡ field)
    (read : buf ≡ take (len + BEHIND) (drop (at + 5) image)) (front : body ≡ take len buf) (back : rest ≡ drop len buf)
    (within : len ≤ limit) (reaches : at + len + (FRAME_LENGTH + 1) ≤ length image) where
  n : len ≡ length_at image at
  n = length_is image at field len field_read value

  here : field ≡ field_at image at
  here = field_is image at field field_read

  body_is : body ≡ bytes_at image at
  body_is = body_read image buf body rest at len read front back ∙ ap (λ m. slice_range image (at + 5) (at + 5 + m)) n

  kept_is : take 32 rest ≡ kept_at image at
  kept_is = kept_read image buf body rest at len read front back ∙ ap (λ m. slice_range image (at + 5 + m) (at + 5 + m + 32)) n

  found_is : sha256 (field ++ body) ≡ found_at image at
  found_is = ap (λ (l : List ℕ). sha256 (l ++ body)) here ∙ ap (λ (l : List ℕ). sha256 (field_at image at ++ l)) body_is

  is_whole : IsWhole limit image at
  is_whole = record {
    field = omega (arith, reaches);
    spelled = ap (to_be_bytes w32) (sym n) ∙ spelled ∙ here;
    within = omega (arith, n, within);
    reaches = omega (arith, n, reaches);
  }

  found_there : (r : Result (Unit {0}) Stop)
      → TellsAs view (Checks lay setup ends (bytes_at image at) (kept_at image at) (found_at image at)) r
      → TellsAs view (Finds lay setup limit image ends at) r
  found_there (Ok u) t = whole is_whole t
  found_there (Err stops.Memory) t = tt
  found_there (Err stops.Disk) t = tt
  found_there (Err (stops.Damaged d)) t = whole is_whole t

  told : (kept found : List ℕ) → kept ≡ take 32 rest → found ≡ sha256 (field ++ body) → (r : Result (Unit {0}) Stop)
      → TellsAs view (Checks lay setup ends body kept found) r → TellsAs view (Finds lay setup limit image ends at) r
  told kept found k f r t = found_there r
      (subst (λ y. TellsAs view (Checks lay setup ends (bytes_at image at) (kept_at image at) y) r) (f ∙ found_is)
      (subst (λ y. TellsAs view (Checks lay setup ends (bytes_at image at) y found) r) (k ∙ kept_is)
      (subst (λ y. TellsAs view (Checks lay setup ends y kept found) r) body_is t)))

  gate_there : get_or rest 32 0 ≡ get_or image (at + FRAME_LENGTH + len) 0
  gate_there =
      let place : at + 5 + len + 32 ≡ at + FRAME_LENGTH + len = omega arith in
      gate_read image buf body rest at len read front back ∙ ap (λ m. get_or image m 0) place

pub returns-then-size-at-lt5-clause-finds : goal.returns-then-size-at-lt5-clause-finds
returns-then-size-at-lt5-clause-finds g c tells =
    let size = c.requires.size tells in
    subst (λ n. Finds c.args.stretch.layout c.args.setup.now c.args.stretch.limit (g.K.Station.seen c.args.station.now)
    c.args.ends.now c.args.at (Err (damages.Cut n))) (sym size) (no_length (omega (arith, size)))

pub returns-then-len-stretch-clause-finds : goal.returns-then-len-stretch-clause-finds
returns-then-len-stretch-clause-finds g c tells =
    let size = c.requires.size tells in
    let n = length_is (g.K.Station.seen c.args.station.now) c.args.at _ c.length_of-len.result
    (c.in_ok-read_at.ensures.bytes tells) c.length_of-len.ensures.value in
    subst (λ n. Finds c.args.stretch.layout c.args.setup.now c.args.stretch.limit (g.K.Station.seen c.args.station.now)
    c.args.ends.now c.args.at (Err (damages.Length n))) (sym n) (too_long (omega (arith, size)) (omega (arith, n)))

pub returns-then-size-at-clause-finds : goal.returns-then-size-at-clause-finds
returns-then-size-at-clause-finds g c tells =
    let size = c.requires.size tells in
    let n = length_is (g.K.Station.seen c.args.station.now) c.args.at _ c.length_of-len.result
    (c.in_ok-read_at.ensures.bytes tells) c.length_of-len.ensures.value in
    subst (λ n. Finds c.args.stretch.layout c.args.setup.now c.args.stretch.limit (g.K.Station.seen c.args.station.now)
    c.args.ends.now c.args.at (Err (damages.Cut n))) (sym size)
    (no_gate (omega (arith, size)) (omega (arith, n)) (omega (arith, n, size)))

pub returns-in-Ok-clause-finds : goal.returns-in-Ok-clause-finds
returns-in-Ok-clause-finds g c tells =
    let image = g.K.Station.seen c.args.station.now in
    let at = c.args.at in
    let len = c.length_of-len.result in
    let spelled = c.length_of-len.ensures in
    let size = c.requires.size tells in
    let long : length c.read_front.new.buf ≡ c.args.scratch.now.buf.len = omega (arith, c.deref_mut.ensures.len) in
    let items = c.deref.ensures.value ∙ with_items_is c.args.scratch.now.buf c.read_front.new.buf long in
    let read : take (len + BEHIND) c.deref.result.now ≡ take (len + BEHIND) (drop (at + 5) image) = ap (take (len + BEHIND)) items
    ∙ part_is image _ (take (len + BEHIND) c.read_front.new.buf) (at + 5) (len + BEHIND) (len + BEHIND) (c.read_at.ensures.seen tells) refl
    (c.in_ok-read_front.ensures.bytes tells) in
    told c.args.stretch.layout c.args.setup.now c.args.stretch.limit image c.args.ends.now at (λ _. parts_of c.check.new.segment) _
    (take (len + BEHIND) c.deref.result.now) c.split_at.result.0.now c.split_at.result.1.now len (c.in_ok-read_at.ensures.bytes tells) spelled.value
    spelled.spelled read c.split_at.ensures.front c.split_at.ensures.back (omega arith) (omega (arith, size)) _ _
    c.digest_in-kept.ensures c.digest_of-found.ensures (Ok tt) c.in-Ok.ensures.checks

pub returns-in-Err-clause-finds : goal.returns-in-Err-clause-finds
returns-in-Err-clause-finds g c tells =
    let image = g.K.Station.seen c.args.station.now in
    let at = c.args.at in
    let len = c.length_of-len.result in
    let spelled = c.length_of-len.ensures in
    let size = c.requires.size tells in
    let long : length c.read_front.new.buf ≡ c.args.scratch.now.buf.len = omega (arith, c.deref_mut.ensures.len) in
    let items = c.deref.ensures.value ∙ with_items_is c.args.scratch.now.buf c.read_front.new.buf long in
    let read : take (len + BEHIND) c.deref.result.now ≡ take (len + BEHIND) (drop (at + 5) image) = ap (take (len + BEHIND)) items
    ∙ part_is image _ (take (len + BEHIND) c.read_front.new.buf) (at + 5) (len + BEHIND) (len + BEHIND) (c.read_at.ensures.seen tells) refl
    (c.in_ok-read_front.ensures.bytes tells) in
    told c.args.stretch.layout c.args.setup.now c.args.stretch.limit image c.args.ends.now at (λ _. parts_of c.check.new.segment) _
    (take (len + BEHIND) c.deref.result.now) c.split_at.result.0.now c.split_at.result.1.now len (c.in_ok-read_at.ensures.bytes tells) spelled.value
    spelled.spelled read c.split_at.ensures.front c.split_at.ensures.back (omega arith) (omega (arith, size)) _ _
    c.digest_in-kept.ensures c.digest_of-found.ensures (Err c.in-Err.stop) c.in-Err.ensures.checks

pub returns-in-Ok-clause-gate_byte : goal.returns-in-Ok-clause-gate_byte
returns-in-Ok-clause-gate_byte g c tells =
    let image = g.K.Station.seen c.args.station.now in
    let at = c.args.at in
    let len = c.length_of-len.result in
    let spelled = c.length_of-len.ensures in
    let size = c.requires.size tells in
    let long : length c.read_front.new.buf ≡ c.args.scratch.now.buf.len = omega (arith, c.deref_mut.ensures.len) in
    let items = c.deref.ensures.value ∙ with_items_is c.args.scratch.now.buf c.read_front.new.buf long in
    let read : take (len + BEHIND) c.deref.result.now ≡ take (len + BEHIND) (drop (at + 5) image) = ap (take (len + BEHIND)) items
    ∙ part_is image _ (take (len + BEHIND) c.read_front.new.buf) (at + 5) (len + BEHIND) (len + BEHIND) (c.read_at.ensures.seen tells) refl
    (c.in_ok-read_front.ensures.bytes tells) in
    gate_there c.args.stretch.layout c.args.setup.now c.args.stretch.limit image c.args.ends.now at (λ _. parts_of c.check.new.segment) _
    (take (len + BEHIND) c.deref.result.now) c.split_at.result.0.now c.split_at.result.1.now len (c.in_ok-read_at.ensures.bytes tells) spelled.value
    spelled.spelled read c.split_at.ensures.front c.split_at.ensures.back (omega arith) (omega (arith, size))

pub returns-in-Ok-clause-quiet : goal.returns-in-Ok-clause-quiet
returns-in-Ok-clause-quiet g c tells =
    let k = g.K.Station in
    let first = quiet_starts (k.clock c.args.station.now) (k.moments c.args.station.now) (k.told c.args.station.now)
    (k.seen c.args.station.now) (k.leaves c.args.station.now) (g.met.K.Station.only_now tells c.args.station.now) in
    quiet_then (quiet_on first (c.read_at.ensures.time tells) (c.read_at.ensures.told tells) (c.read_at.ensures.seen tells)
    (c.read_at.ensures.crash tells).none_new) (c.read_front.ensures.quiet tells)

pub returns-in-Err-clause-quiet : goal.returns-in-Err-clause-quiet
returns-in-Err-clause-quiet g c tells =
    let k = g.K.Station in
    let first = quiet_starts (k.clock c.args.station.now) (k.moments c.args.station.now) (k.told c.args.station.now)
    (k.seen c.args.station.now) (k.leaves c.args.station.now) (g.met.K.Station.only_now tells c.args.station.now) in
    quiet_then (quiet_on first (c.read_at.ensures.time tells) (c.read_at.ensures.told tells) (c.read_at.ensures.seen tells)
    (c.read_at.ensures.crash tells).none_new) (c.read_front.ensures.quiet tells)

pub returns-in_err-read_front-clause-quiet : goal.returns-in_err-read_front-clause-quiet
returns-in_err-read_front-clause-quiet g c tells =
    let k = g.K.Station in
    let first = quiet_starts (k.clock c.args.station.now) (k.moments c.args.station.now) (k.told c.args.station.now)
    (k.seen c.args.station.now) (k.leaves c.args.station.now) (g.met.K.Station.only_now tells c.args.station.now) in
    quiet_then (quiet_on first (c.read_at.ensures.time tells) (c.read_at.ensures.told tells) (c.read_at.ensures.seen tells)
    (c.read_at.ensures.crash tells).none_new) (c.read_front.ensures.quiet tells)

pub returns-in-Ok-clause-gate : goal.returns-in-Ok-clause-gate
returns-in-Ok-clause-gate g c tells =
    let n = length_is (g.K.Station.seen c.args.station.now) c.args.at _ c.length_of-len.result
    (c.in_ok-read_at.ensures.bytes tells) c.length_of-len.ensures.value in
    omega (arith, n)

pub returns-in-Ok-clause-step : goal.returns-in-Ok-clause-step
returns-in-Ok-clause-step g c =
    let next = c.in-Ok.ensures.next in
    step_is c.args.stretch.layout c.args.setup.now.grid c.args.ends.now _ c.args.at _ (parts_of c.check.new.segment) c.check.ensures.grid
    c.in-Ok.ensures.body next.joins next.body.some (omega arith)

pub returns-in_err-read_front-clause-room : goal.returns-in_err-read_front-clause-room
returns-in_err-read_front-clause-room g c = record {
  over = c.requires.room.over;
  longest = c.requires.room.longest;
  places = c.requires.room.places;
}

pub returns-in-Ok-clause-room : goal.returns-in-Ok-clause-room
returns-in-Ok-clause-room g c = record { over = c.check.ensures.over; longest = c.check.ensures.longest; places = c.requires.room.places }

pub returns-in-Err-clause-room : goal.returns-in-Err-clause-room
returns-in-Err-clause-room g c = record { over = c.check.ensures.over; longest = c.check.ensures.longest; places = c.requires.room.places }
