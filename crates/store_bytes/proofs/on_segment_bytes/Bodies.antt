-- The body of the parts is a format.
use Rattle.std.proofs.Common.{◌≡◌, ℕ, ◌^◌, ◌<◌, Bool, true, false, if◌then◌else◌, ◌==◌, List, [], ◌++◌, length, Result, Ok, Err, refl, sym, ap, subst, ◌∙◌}
use Rattle.std.specs.Int.{w16, w32, to_be_bytes}
use Rattle.std.proofs.lemmas.Bool.{eqb-true}
use Rattle.std.proofs.lemmas.List.{append-nil, nil_from_length}
use Rattle.store_bytes.specs.declared.segment_bytes.fault.BytesFault.{BytesFault}
use Rattle.store_bytes.specs.declared.segment_bytes.fault.BytesFault.TheVariants.{Trailing}
use Rattle.store_bytes.specs.segment_bytes.Fields.{◌>>=◌, Reader, number_at, list_at, list_bytes}
use Rattle.store_bytes.specs.segment_bytes.Grammar.{cell, bin, row, name_and_counts_bytes, ends, back, body_with, cell_at, bin_at, row_at, Body, name_and_counts_at, ends_at, back_at, body_at, FitsCell, FitsBin, FitsRow, FitsList, FitsBins, FitsCells, FitsRows, FitsNameAndCounts, FitsEnds, FitsBack, FitsBody}
use Rattle.store_bytes.specs.segment_bytes.Decoding.{all_of}
use Rattle.store_bytes.proofs.on_segment_bytes.Formats.{IsFormat, IsBytes, bind_ok, ok_is, number16, number32, number64, pair, seen, list}

cell_format : IsFormat FitsCell cell cell_at
cell_format = seen _ _ _ (pair _ _ _ _ _ _ number16 (pair _ _ _ _ _ _ number16 number64))
    (λ x. record { lo = x.0; hi = x.1.0; n = x.1.1 }) (λ c. (c.lo, (c.hi, c.n))) (λ x. refl) (λ y. refl)

pub bin_format : IsFormat FitsBin bin bin_at
bin_format = seen _ _ _ (pair _ _ _ _ _ _ number16 number64) (λ x. record { key = x.0; n = x.1 }) (λ b. (b.key, b.n)) (λ x. refl)
    (λ y. refl)

name_format : IsFormat FitsNameAndCounts name_and_counts_bytes name_and_counts_at
unfolding name_and_counts_at
name_format = pair _ _ _ _ _ _ number16 (pair _ _ _ _ _ _ number64
    (pair _ _ _ _ _ _ number64 (pair _ _ _ _ _ _ number64 (pair _ _ _ _ _ _ number64 number64))))

ends_format : IsFormat FitsEnds ends ends_at
unfolding ends_at
ends_format = seen _ _ _ (pair _ _ _ _ _ _ number64 (pair _ _ _ _ _ _ number16
    (pair _ _ _ _ _ _ number16 (pair _ _ _ _ _ _ number16 number16))))
    (λ x. record { points = x.0; first = x.1.0; second = x.1.1.0; before = x.1.1.1.0; last = x.1.1.1.1 })
    (λ e. (e.points, (e.first, (e.second, (e.before, e.last))))) (λ x. refl) (λ y. refl)

levels_format : IsFormat (FitsList (2 ^ 16) (λ n. n < 2 ^ 16)) (list_bytes w16 (to_be_bytes w16)) (list_at w16 (number_at w16))
levels_format = list _ _ _ number16 w16 (2 ^ 16) number16

pub bins_format : IsFormat FitsBins (list_bytes w16 bin) (list_at w16 bin_at)
bins_format = list _ _ _ bin_format w16 (2 ^ 16) number16

pub cells_format : IsFormat FitsCells (list_bytes w32 cell) (list_at w32 cell_at)
cells_format = list _ _ _ cell_format w32 (2 ^ 32) number32

row_format : IsFormat FitsRow row row_at
row_format = seen _ _ _ (pair _ _ _ _ _ _ number16 bins_format) (λ x. record { lo = x.0; bins = x.1 }) (λ r. (r.lo, r.bins)) (λ x. refl)
    (λ y. refl)

pub rows_format : IsFormat FitsRows (list_bytes w16 row) (list_at w16 row_at)
rows_format = list _ _ _ row_format w16 (2 ^ 16) number16

guard_ended : {A : Type 0} (b : Bool) (d : BytesFault) (x y : A) → (if b then Ok x else Err d) ≡ Ok y → (b ≡ true) × (x ≡ y)
guard_ended true d x y e = (refl, cc)
guard_ended false d x y e = absurd cc

-- over any way to write list 0
module _ {L : Type 0} (F : L → Type 0) (list0 : L → List ℕ) (list0_at : Reader L) (format0 : IsFormat F list0 list0_at) where
  back_format : IsFormat (FitsBack F) (back list0) (back_at list0_at)
  unfolding back_at
  back_format = pair _ _ _ _ _ _ levels_format (pair _ _ _ _ _ _ format0
      (pair _ _ _ _ _ _ bins_format (pair _ _ _ _ _ _ bins_format (pair _ _ _ _ _ _ bins_format bins_format))))

  pub body_format : IsFormat (FitsBody F) (body_with list0) (body_at list0_at)
  unfolding body_at
  body_format = pair _ _ _ _ _ _ (pair _ _ _ _ _ _ name_format ends_format) back_format

  pub all_takes : (bytes : List ℕ) (x : Body L) → IsBytes bytes → all_of list0_at bytes ≡ Ok x → FitsBody F x × (bytes ≡ body_with list0 x)
  unfolding all_of
  all_takes bytes x fits e =
      let a = bind_ok (body_at list0_at (length bytes) bytes)
      (λ x. (if (length x.1) == 0 then Ok x.0 else Err (Trailing (length x.1)))) x e in
      let g = guard_ended ((length a.0.1) == 0) (Trailing (length a.0.1)) a.0.0 x a.2 in
      let t = body_format.takes (length bytes) bytes a.0 fits a.1 in
      let nothing : a.0.1 ≡ [] = nil_from_length a.0.1 (eqb-true _ _ g.0) in
      subst (λ (v : Body L). FitsBody F v × (bytes ≡ body_with list0 v)) g.1
      (t.1, t.0.parts ∙ ap (λ (r : List ℕ). body_with list0 a.0.0 ++ r) nothing ∙ append-nil (body_with list0 a.0.0))

  pub all_again : (x : Body L) → FitsBody F x → all_of list0_at (body_with list0 x) ≡ Ok x
  unfolding all_of
  all_again x fits =
      let have = length (body_with list0 x) in
      let read : body_at list0_at have (body_with list0 x) ≡ Ok (x, []) = ap (body_at list0_at have)
      (sym (append-nil (body_with list0 x))) ∙ body_format.again have x [] fits in
      ap (λ (r : Result (Body L × List ℕ) BytesFault). r >>= λ x. (if (length x.1) == 0 then Ok x.0 else Err (Trailing (length x.1)))) read

  -- two bodies of which one is a front of the other
  pub front_is_whole : (x y : Body L) (a more : List ℕ) → FitsBody F x → FitsBody F y → a ≡ body_with list0 x
      → a ++ more ≡ body_with list0 y → more ≡ []
  front_is_whole x y a more f g b c =
      let first : body_at list0_at 0 (a ++ more) ≡ Ok (x, more) = ap (λ (l : List ℕ). body_at list0_at 0 (l ++ more)) b
      ∙ body_format.again 0 x more f in
      let second : body_at list0_at 0 (a ++ more) ≡ Ok (y, []) = ap (body_at list0_at 0) (c ∙ sym (append-nil (body_with list0 y)))
      ∙ body_format.again 0 y [] g in
      ap (λ (z : Body L × List ℕ). z.1) (ok_is (x, more) (y, []) (sym first ∙ second))
