use Rattle.std.proofs.Common.{◌≡◌, ◌≤◌, get_or, sym, ap, subst, ◌∙◌, arith}
use Rattle.std.proofs.lemmas.Bool.{false≢true}
use Rattle.std.specs.Prelude.{ℕ, List, Ok, Err}
use Rattle.calibration.specs.declared.setup.Setup.{Setup}
use Rattle.segment.specs.segment_rules.Parts.{PartsValue}
use Rattle.segment.specs.Parts.{parts_of}
use Rattle.calibration.specs.Grid.{GridValue}
use Rattle.store_bytes.specs.declared.segment_bytes.layout.TheConstants.{MAX_CLASSES_ONE}
use Rattle.store_bytes.specs.declared.segment_bytes.fault.BytesFault.{BytesFault}
use Rattle.store_bytes.specs.declared.segment_bytes.fault.BytesFault.TheVariants as faults
use Rattle.store_bytes.specs.declared.segment_bytes.layout.Layout.{Layout}
use Rattle.store_bytes.specs.segment_bytes.Fields.{FailsWith}
use Rattle.store_bytes.specs.segment_bytes.Decoding.{IsBodyOf, segment_in}
use Rattle.segment.specs.declared.segment_rules.name.Name.{Name}
use Rattle.segment.specs.declared.segment.join.JoinRefusal.TheVariants as refusals
use Rattle.segment_store.specs.declared.damage.Damage.TheVariants as damages
use Rattle.segment_store.specs.declared.damage.Stop.{Stop}
use Rattle.segment_store.specs.Resuming.{Checks, TellsAs, StopsAs, digest, no_body, stranger, empty, apart, sound}
use Rattle.segment_store.proofs.checking.check.Goals as goal

module _ (view : Unit {0} → PartsValue) (lay : Layout) (setup : Setup) (ends bytes kept found : List ℕ) (same : found ≡ kept) where
  no_body_of : (e : BytesFault) (stop : Stop) → FailsWith e (segment_in lay setup.grid bytes) → StopsAs e stop
      → TellsAs {X = Unit {0}} view (Checks lay setup ends bytes kept found) (Err stop)
  no_body_of faults.OutOfMemory stop f is = subst (λ s. TellsAs {X = Unit {0}} view (Checks lay setup ends bytes kept found) (Err s)) (sym is) tt
  no_body_of (faults.Short need have) stop f is =
      subst (λ s. TellsAs {X = Unit {0}} view (Checks lay setup ends bytes kept found) (Err s)) (sym is) (no_body same f)
  no_body_of (faults.Trailing rest) stop f is =
      subst (λ s. TellsAs {X = Unit {0}} view (Checks lay setup ends bytes kept found) (Err s)) (sym is) (no_body same f)
  no_body_of (faults.Order list index) stop f is =
      subst (λ s. TellsAs {X = Unit {0}} view (Checks lay setup ends bytes kept found) (Err s)) (sym is) (no_body same f)
  no_body_of (faults.Sum rule) stop f is = subst (λ s. TellsAs {X = Unit {0}} view (Checks lay setup ends bytes kept found) (Err s)) (sym is)
      (no_body same f)
  no_body_of (faults.Residue rule) stop f is =
      subst (λ s. TellsAs {X = Unit {0}} view (Checks lay setup ends bytes kept found) (Err s)) (sym is) (no_body same f)

over_setup : (lay : Layout) (g h : GridValue) (bytes : List ℕ) (p : PartsValue) → g ≡ h → segment_in lay g bytes ≡ Ok p
    → segment_in lay h bytes ≡ Ok p
over_setup lay g h bytes p over is = ap (λ k. segment_in lay k bytes) (sym over) ∙ is

pub decode_into-requires-clause-narrow : goal.decode_into-requires-clause-narrow
decode_into-requires-clause-narrow c = λ one. subst (λ g. g.classes ≤ MAX_CLASSES_ONE) (sym c.requires.over) (c.requires.narrow one)

pub returns-then-not-are_same-clause-checks : goal.returns-then-not-are_same-clause-checks
returns-then-not-are_same-clause-checks c = digest (λ e. absurd (false≢true (sym c.if-not-are_same.true ∙ c.are_same.ensures.1 e)))

pub returns-in-Err-clause-checks : goal.returns-in-Err-clause-checks
returns-in-Err-clause-checks c = no_body_of (λ _. parts_of c.decode_into.new.segment) _ _ _ _ _ _
    (c.are_same.ensures.0 c.if-not-are_same.false) c.in-Err.fault c.stop_of.result
    (subst (λ g. FailsWith c.in-Err.fault (segment_in c.args.layout g c.args.bytes.now)) c.requires.over c.in-Err.ensures.exact)
    c.stop_of.ensures.as_is

pub returns-then-gauge-ends-clause-checks : goal.returns-then-gauge-ends-clause-checks
returns-then-gauge-ends-clause-checks c =
    let gauge = ap (λ (n : Name). n.gauge) c.name-name.ensures.value in
    subst (λ n. Checks c.args.layout c.args.setup.now c.args.ends.now c.args.bytes.now c.args.digests.kept c.args.digests.found
    (Err (damages.Gauge n))) (sym gauge)
    (stranger (c.are_same.ensures.0 c.if-not-are_same.false) (over_setup _ _ _ _ _ c.requires.over c.in-Ok.ensures.exact) (omega (arith, gauge, c.from-gauge.ensures)))

pub returns-then-name-clause-checks : goal.returns-then-name-clause-checks
returns-then-name-clause-checks c =
    let n = c.name-name.ensures.value in
    let gauge = ap (λ (n : Name). n.gauge) n in
    empty (c.are_same.ensures.0 c.if-not-are_same.false) (over_setup _ _ _ _ _ c.requires.over c.in-Ok.ensures.exact) (omega (arith, gauge, c.from-gauge.ensures))
    (omega (arith, ap (λ (n : Name). n.from) n, ap (λ (n : Name). n.to) n))

pub returns-then-name-to-clause-checks : goal.returns-then-name-to-clause-checks
returns-then-name-to-clause-checks c =
    let n = c.name-name.ensures.value in
    let gauge = ap (λ (n : Name). n.gauge) n in
    let from = ap (λ (n : Name). n.from) n in
    let to = ap (λ (n : Name). n.to) n in
    let end = ap (λ g. get_or c.args.ends.now g 0) (c.from-gauge.ensures ∙ gauge) in
    let joins : Checks c.args.layout c.args.setup.now c.args.ends.now c.args.bytes.now c.args.digests.kept c.args.digests.found
    (Err (damages.Join (refusals.NotNext (get_or c.args.ends.now c.decode_into.new.segment.gauge 0) c.decode_into.new.segment.from))) =
    apart (c.are_same.ensures.0 c.if-not-are_same.false) (over_setup _ _ _ _ _ c.requires.over c.in-Ok.ensures.exact) (omega (arith, gauge, c.from-gauge.ensures)) (omega (
      arith,
      from,
      to,
    ))
    (λ e. c.if-name-to.true (from ∙ e ∙ sym end)) in
    subst (λ a. Checks c.args.layout c.args.setup.now c.args.ends.now c.args.bytes.now c.args.digests.kept c.args.digests.found
    (Err (damages.Join (refusals.NotNext a c.name-name.result.from)))) (sym end)
    (subst (λ b. Checks c.args.layout c.args.setup.now c.args.ends.now c.args.bytes.now c.args.digests.kept c.args.digests.found
    (Err (damages.Join (refusals.NotNext (get_or c.args.ends.now c.decode_into.new.segment.gauge 0) b)))) (sym from) joins)

pub returns-clause-checks : goal.returns-clause-checks
returns-clause-checks c =
    let n = c.name-name.ensures.value in
    let gauge = ap (λ (n : Name). n.gauge) n in
    let from = ap (λ (n : Name). n.from) n in
    let to = ap (λ (n : Name). n.to) n in
    let end = ap (λ g. get_or c.args.ends.now g 0) (c.from-gauge.ensures ∙ gauge) in
    sound (c.are_same.ensures.0 c.if-not-are_same.false)
    (subst (λ g. IsBodyOf c.args.layout g (parts_of c.decode_into.new.segment) c.args.bytes.now) c.requires.over c.in-Ok.ensures.found) (omega (
      arith,
      gauge,
      c.from-gauge.ensures,
      c.requires.gauges,
    ))
    (omega (arith, from, to)) (sym from ∙ c.if-name-to.false ∙ end)

pub returns-clause-body : goal.returns-clause-body
returns-clause-body c =
    subst (λ g. IsBodyOf c.args.layout g (parts_of c.decode_into.new.segment) c.args.bytes.now) c.requires.over c.in-Ok.ensures.found

pub returns-clause-next : goal.returns-clause-next
returns-clause-next c =
    let n = c.name-name.ensures.value in
    let gauge = ap (λ (n : Name). n.gauge) n in
    let from = ap (λ (n : Name). n.from) n in
    let body = subst (λ g. IsBodyOf c.args.layout g (parts_of c.decode_into.new.segment) c.args.bytes.now) c.requires.over
    c.in-Ok.ensures.found in
    record {
      body = record {
        segment = body.segment;
        gauge = omega (arith, gauge, c.from-gauge.ensures, c.requires.gauges);
        some = omega (arith, from, ap (λ (n : Name). n.to) n);
      };
      joins = sym from ∙ c.if-name-to.false ∙ ap (λ g. get_or c.args.ends.now g 0) (c.from-gauge.ensures ∙ gauge);
    }
