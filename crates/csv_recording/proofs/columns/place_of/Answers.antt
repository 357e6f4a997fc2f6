use Rattle.std.proofs.Common.{◌≡◌, ◌∙◌, Some, None, false, refl, sym, true, rules}
use Rattle.std.specs.Str.{bytes_eq}
use Rattle.csv.specs.Records.{field_at, fields_of}
use Rattle.csv_recording.proofs.ColumnFacts.{place_from-end, place_from-here, place_from-next}
use Rattle.csv_recording.proofs.columns.place_of.Goals as goal

pub loop-place-init : goal.loop-place-init
loop-place-init c = record {
  fits = search rules;
  row = search rules;
  at = search rules;
  found = refl;
}

pub returns-then-eq : goal.returns-then-eq
returns-then-eq c =
    let at : Some c.in-Some.field.now ≡ field_at (fields_of c.args.header.now) c.loop-place.place = search rules in
    let same : bytes_eq c.in-Some.field.now c.args.name.now ≡ true = search rules in
    sym (place_from-here c.args.name.now c.in-Some.field.now (fields_of c.args.header.now) c.loop-place.place at same)
    ∙ c.loop-place.invariant.found

pub loop-place-preserved : goal.loop-place-preserved
loop-place-preserved c =
    let at : Some c.in-Some.field.now ≡ field_at (fields_of c.args.header.now) c.loop-place.place = search rules in
    let other : bytes_eq c.in-Some.field.now c.args.name.now ≡ false = search rules in
    record {
      fits = search rules;
      row = search rules;
      at = search rules;
      found =
          sym (place_from-next c.args.name.now c.in-Some.field.now (fields_of c.args.header.now) c.loop-place.place at other)
          ∙ c.loop-place.invariant.found;
    }

pub returns : goal.returns
returns c =
    let past : None ≡ field_at (fields_of c.args.header.now) c.loop-place.place = search rules in
    sym (place_from-end c.args.name.now (fields_of c.args.header.now) c.loop-place.place past)
    ∙ c.loop-place.invariant.found
