use Rattle.std.proofs.Common.{◌≡◌, ◌≤◌, ◌+◌, ◌<◌, ◌++◌, List, ℕ, length, get_or, inr, sym, ap, subst, ◌∙◌, arith}
use Rattle.outside.specs.Sink.{AppendsPrefix}
use Rattle.outside.specs.station.Station.{Image}
use Rattle.calibration.specs.Grid.{GridValue}
use Rattle.segment.specs.segment_rules.Parts.{PartsValue}
use Rattle.segment.specs.segment_rules.Rules.{AreSegmentParts}
use Rattle.segment.specs.Segment.{SegmentValue, IsSegment, empty_at}
use Rattle.segment.specs.Parts.{parts_of}
use Rattle.store_bytes.specs.segment_bytes.Sizes.{max_body}
use Rattle.store_bytes.specs.declared.segment_bytes.layout.Layout.TheVariants.{Two}
use Rattle.store_bytes.specs.store_head.Head.{see_head, IsHead}
use Rattle.segment_store.specs.declared.filling.TheConstants.{FRAME_LENGTH}
use Rattle.segment_store.specs.declared.putting.State.{State}
use Rattle.segment_store.specs.Copy.{IsCopy}
use Rattle.segment_store.specs.Held.{AreHeld, ends_of}
use Rattle.segment_store.specs.Image.{Reads}
use Rattle.segment_store.specs.Keeping.{IsKept, see_state}
use Rattle.segment_store.proofs.Copied.{is_copy}
use Rattle.segment_store.proofs.Fronts.{copy_text}
use Rattle.segment_store.proofs.Holding.{held_is}
use Rattle.segment_store.proofs.compacting.copy_state.Goals as goal

-- a body of each held segment finds room
room_for_each : (s : State) (held : List SegmentValue) (room : ℕ) → IsKept s → held ≡ s.held
    → 1 + (FRAME_LENGTH + max_body Two s.head.setup.grid.classes) ≤ room → (g : ℕ) (d : SegmentValue) → g < length held
    → 1 + (FRAME_LENGTH + max_body Two (get_or held g d).grid.classes) ≤ room
room_for_each s held room k same le g d lt =
    let lt2 : g < length s.held = omega (arith, lt, ap length same) in
    let grid : (get_or held g d).grid ≡ s.head.setup.grid = ap (λ (l : List SegmentValue). (get_or l g d).grid) same
    ∙ (held_is s.head.setup.grid g k.joined.0 (get_or s.held g d) (k.joined.1 g d lt2)).grid_is in
    subst (λ (x : GridValue). 1 + (FRAME_LENGTH + max_body Two x.classes) ≤ room) (sym grid) le

pub write_copy-requires-clause-room : goal.write_copy-requires-clause-room
write_copy-requires-clause-room g c =
    let limit = c.max_body-limit.ensures ∙ ap (max_body Two) c.classes.ensures.value in
    room_for_each c.args.state.now c.as_slice-held.result.now _ c.requires.kept c.as_slice-held.ensures
    (omega (arith, limit, c.in_ok-buf.ensures.len, c.deref_mut.ensures.len))

-- the copy, by what is known of the segments
copied : (s : State) (held : List SegmentValue) → IsKept s → held ≡ s.held → IsHead (see_head Two s.head)
    → ((g : ℕ) (d : SegmentValue) → g < length held → IsSegment (get_or held g d))
    → ((g : ℕ) (d : SegmentValue) → g < length held → AreSegmentParts (get_or held g d).grid (parts_of (get_or held g d)))
    → (bodies : List PartsValue) (seen : Image) → Reads (see_state s).head bodies (ends_of (see_state s).held) seen
    → AreHeld (see_state s).head.setup.grid bodies (see_state s).held → IsCopy (see_state s) bodies
copied s held k same head rules parts bodies seen reads all =
    let rules2 = subst (λ l. (g : ℕ) (d : SegmentValue) → g < length l → IsSegment (get_or l g d)) same rules in
    let parts2 = subst (λ l. (g : ℕ) (d : SegmentValue) → g < length l
    → AreSegmentParts (get_or l g d).grid (parts_of (get_or l g d))) same parts in
    is_copy (see_state s) bodies seen reads all head k.gauges rules2 parts2 (empty_at s.head.setup.grid 0 0 1)

pub returns-in-Ok-clause-ok : goal.returns-in-Ok-clause-ok
returns-in-Ok-clause-ok g c tells =
    let s = c.args.state.now in
    let text = copy_text c.deref.result.now (see_head Two s.head) c.as_slice-held.result.now s.held
    (c.deref.ensures.value ∙ c.in_ok-head.ensures.bytes) c.as_slice-held.ensures in
    c.in-Ok.ensures.ok tells ∙ ap (λ (l : List ℕ). g.O.Sink.written c.args.out.now ++ l) text

pub returns-in-Ok-clause-copy : goal.returns-in-Ok-clause-copy
returns-in-Ok-clause-copy g c = inr (copied c.args.state.now c.as_slice-held.result.now c.requires.kept c.as_slice-held.ensures
    c.in_ok-head.ensures.head c.know.ensures.rules c.know.ensures.parts)

pub returns-clause-failed : goal.returns-clause-failed
returns-clause-failed g c tells is =
    let s = c.args.state.now in
    let text = copy_text c.deref.result.now (see_head Two s.head) c.as_slice-held.result.now s.held
    (c.deref.ensures.value ∙ c.in_ok-head.ensures.bytes) c.as_slice-held.ensures in
    subst (AppendsPrefix (g.O.Sink.written c.args.out.now) (g.O.Sink.written c.write_copy.new.out)) text (c.in-Err.ensures.failed tells)

pub returns-clause-copy : goal.returns-clause-copy
returns-clause-copy g c = inr (copied c.args.state.now c.as_slice-held.result.now c.requires.kept c.as_slice-held.ensures
    c.in_ok-head.ensures.head c.know.ensures.rules c.know.ensures.parts)
