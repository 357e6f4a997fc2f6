-- What decoding answers is what the bytes are.
use Rattle.std.proofs.Common.{◌≡◌, ℕ, ◌^◌, ◌<◌, List, Option, Some, None, Result, Ok, refl, ap, subst, sym, ◌∙◌}
use Rattle.std.specs.Int.{w16, w32}
use Rattle.tally.specs.declared.cells.Cell.{Cell}
use Rattle.calibration.specs.Grid.{GridValue, IsGrid}
use Rattle.segment.specs.declared.segment_rules.rule.BrokenRule.{BrokenRule}
use Rattle.segment.specs.segment_rules.Parts.{PartsValue}
use Rattle.segment.specs.segment_rules.Tests.{first_broken, order_broken}
use Rattle.segment.proofs.on_segment_rules.Broken.{rules_kept, none_broken}
use Rattle.segment.proofs.on_segment_rules.CellsFrom.{cells_in_order}
use Rattle.segment.proofs.on_segment_rules.Chosen.{no_place}
use Rattle.store_bytes.specs.declared.segment_bytes.fault.BytesFault.{BytesFault}
use Rattle.store_bytes.specs.segment_bytes.Fields.{◌>>=◌, list_at, list_bytes}
use Rattle.store_bytes.specs.declared.segment_bytes.layout.Layout.{Layout}
use Rattle.store_bytes.specs.declared.segment_bytes.layout.Layout.TheVariants.{One, Two}
use Rattle.store_bytes.specs.segment_bytes.Rows.{RowValue, rows_of, wrong_row}
use Rattle.store_bytes.specs.segment_bytes.Grammar.{cell, row, cell_at, row_at, Body, parts_of_body, flat_body, with_list0, body_with, body_of, FitsCells, FitsRows}
use Rattle.store_bytes.specs.segment_bytes.Decoding.{or_fault, all_of, parts_in, segment_in, IsBodyOf, NoPrefix}
use Rattle.store_bytes.proofs.on_segment_bytes.Formats.{IsBytes, bind_ok, ok_is}
use Rattle.store_bytes.proofs.on_segment_bytes.Bodies.{cells_format, rows_format, all_takes, all_again, front_is_whole}
use Rattle.store_bytes.proofs.on_segment_bytes.Rows.{cells_again, rows_again, rows_are, rows_ok, ok_rows}
use Rattle.store_bytes.proofs.on_segment_bytes.Lengths.{segment_fits}

or_fault_ok : (o : Option BrokenRule) (p q : PartsValue) → or_fault o p ≡ Ok q → (o ≡ None) × (p ≡ q)
or_fault_ok None p q e = (refl, cc)
or_fault_ok (Some f) p q e = absurd cc

-- the parts of a body in rows have these rows again
rows_whole : (g : GridValue) (x : Body (List RowValue)) → wrong_row 0 g.classes 0 x.1.1.0 ≡ None →
    with_list0 (rows_of (parts_of_body (flat_body x)).cells) (parts_of_body (flat_body x)) ≡ x
rows_whole g x e = ap (λ (r : List RowValue). with_list0 r (parts_of_body (flat_body x)))
    (rows_again 0 g.classes x.1.1.0 (rows_ok 0 g.classes 0 x.1.1.0 e))

-- parts that were read have these bytes
record AreRead (l : Layout) (p : PartsValue) (bytes : List ℕ) : Type 0 where
  gauge : p.name.gauge < 2 ^ 16
  bytes_are : bytes ≡ body_of l p

parts_take : (l : Layout) (g : GridValue) (bytes : List ℕ) (p : PartsValue) → IsBytes bytes → parts_in l g bytes ≡ Ok p → AreRead l p bytes
unfolding parts_in
parts_take One g bytes p fits e =
    let a = bind_ok (all_of (list_at w32 cell_at) bytes) (λ x. Ok (parts_of_body x)) p e in
    let t = all_takes FitsCells (list_bytes w32 cell) (list_at w32 cell_at) cells_format bytes a.0 fits a.1 in
    subst (λ (q : PartsValue). AreRead One q bytes) (ok_is (parts_of_body a.0) p a.2) (record { gauge = t.0.0.0.0; bytes_are = t.1 })
parts_take Two g bytes p fits e =
    let a = bind_ok (all_of (list_at w16 row_at) bytes) (λ x. or_fault (order_broken 0 (wrong_row 0 g.classes 0 x.1.1.0))
    (parts_of_body (flat_body x))) p e in
    let o = or_fault_ok (order_broken 0 (wrong_row 0 g.classes 0 a.0.1.1.0)) (parts_of_body (flat_body a.0)) p a.2 in
    let t = all_takes FitsRows (list_bytes w16 row) (list_at w16 row_at) rows_format bytes a.0 fits a.1 in
    let whole = rows_whole g a.0 (no_place 0 (wrong_row 0 g.classes 0 a.0.1.1.0) o.0) in
    subst (λ (q : PartsValue). AreRead Two q bytes) o.1 (record {
      gauge = t.0.0.0.0;
      bytes_are = t.1
          ∙ ap (body_with (list_bytes w16 row)) (sym whole);
    })

parts_again : (l : Layout) (g : GridValue) (bytes : List ℕ) (p : PartsValue) → IsGrid g → IsBodyOf l g p bytes → parts_in l g bytes ≡ Ok p
unfolding parts_in
parts_again One g bytes p grid is =
    let read : all_of (list_at w32 cell_at) bytes ≡ Ok (with_list0 p.cells p) = ap (all_of (list_at w32 cell_at)) is.bytes_are
    ∙ all_again FitsCells (list_bytes w32 cell) (list_at w32 cell_at) cells_format (with_list0 p.cells p)
    (segment_fits One g p grid is.gauge is.segment) in
    ap (λ (r : Result (Body (List Cell)) BytesFault). r >>= λ x. Ok (parts_of_body x)) read
parts_again Two g bytes p grid is =
    let rows = rows_of p.cells in
    let read : all_of (list_at w16 row_at) bytes ≡ Ok (with_list0 rows p) = ap (all_of (list_at w16 row_at)) is.bytes_are
    ∙ all_again FitsRows (list_bytes w16 row) (list_at w16 row_at) rows_format (with_list0 rows p)
    (segment_fits Two g p grid is.gauge is.segment) in
    let whole : parts_of_body (flat_body (with_list0 rows p)) ≡ p =
    ap (λ (c : List Cell). parts_of_body (with_list0 c p)) (cells_again p.cells) in
    let ordered = ok_rows 0 g.classes 0 rows (rows_are g.classes p.cells (cells_in_order g.classes p.cells is.segment.ordered.cells)) in
    ap (λ (r : Result (Body (List RowValue)) BytesFault). r >>= λ x. or_fault (order_broken 0 (wrong_row 0 g.classes 0 x.1.1.0))
    (parts_of_body (flat_body x))) read
    ∙ ap (λ o. or_fault (order_broken 0 o) (parts_of_body (flat_body (with_list0 rows p)))) ordered ∙ ap (λ (q : PartsValue). Ok q) whole

pub decoded_takes : (l : Layout) (g : GridValue) (bytes : List ℕ) (p : PartsValue) → IsBytes bytes → segment_in l g bytes ≡ Ok p
    → IsBodyOf l g p bytes
unfolding segment_in
decoded_takes l g bytes p fits e =
    let a = bind_ok (parts_in l g bytes) (λ p. or_fault (first_broken g p) p) p e in
    let o = or_fault_ok (first_broken g a.0) a.0 p a.2 in
    let t = parts_take l g bytes a.0 fits a.1 in
    subst (λ (q : PartsValue). IsBodyOf l g q bytes) o.1 (record
    { segment = rules_kept g a.0 o.0; gauge = t.gauge; bytes_are = t.bytes_are })

pub decoded_again : (l : Layout) (g : GridValue) (bytes : List ℕ) (p : PartsValue) → IsGrid g → IsBodyOf l g p bytes
    → segment_in l g bytes ≡ Ok p
unfolding segment_in
decoded_again l g bytes p grid is =
    ap (λ (r : Result PartsValue BytesFault). r >>= λ p. or_fault (first_broken g p) p) (parts_again l g bytes p grid is)
    ∙ ap (λ o. or_fault o p) (none_broken g p is.segment)

pub has_no_prefix : NoPrefix
has_no_prefix One g h p q a more first second b c =
    front_is_whole FitsCells (list_bytes w32 cell) (list_at w32 cell_at) cells_format (with_list0 p.cells p) (with_list0 q.cells q) a more
    (segment_fits One g p first b.gauge b.segment) (segment_fits One h q second c.gauge c.segment) b.bytes_are c.bytes_are
has_no_prefix Two g h p q a more first second b c =
    front_is_whole FitsRows (list_bytes w16 row) (list_at w16 row_at) rows_format (with_list0 (rows_of p.cells) p)
    (with_list0 (rows_of q.cells) q) a more
    (segment_fits Two g p first b.gauge b.segment) (segment_fits Two h q second c.gauge c.segment) b.bytes_are c.bytes_are
