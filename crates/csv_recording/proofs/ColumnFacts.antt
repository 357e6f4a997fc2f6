-- Where a column is, and what its rows add to the samples so far.
use Rattle.std.proofs.Common.{◌≡◌, ◌+◌, if◌then◌else◌, ◌∙◌, ◌++◌, ℕ, ℤ, zero, suc, Bool, true, false, List, [], ◌∷◌, drop, Option, Some, None, Result, Ok, Err, refl, sym, ap, arith, append_assoc}
use Rattle.std.specs.List.{position_from}
use Rattle.std.specs.Str.{bytes_eq}
use Rattle.std.proofs.lemmas.List.{append-nil}
use Rattle.csv.specs.Records.{field_at}
use Rattle.csv_recording.specs.Column.{◌>>=◌, GivesColumn, sample_of_row, samples_of_rows}
use Rattle.csv_recording.specs.declared.columns.ColumnFault.{ColumnFault}
use Rattle.csv_recording.specs.declared.columns.ColumnFault.TheVariants.{NoColumn, ShortRow, Cell, OutOfMemory}

-- the first place of the name among the fields from this place on
abbrev pub place_from : List ℕ → ℕ → List (List ℕ) → Option ℕ
place_from name k fields = position_from (λ field. bytes_eq field name) k (drop k fields)

drop_field : (fields : List (List ℕ)) (k : ℕ) (field : List ℕ) → Some field ≡ field_at fields k
    → drop k fields ≡ field ∷ drop (k + 1) fields
unfolding field_at
drop_field [] k field e = cc
drop_field (f ∷ fields) zero field e = cc
drop_field (f ∷ fields) (suc k) field e = let next : suc k + 1 ≡ suc (k + 1) = omega arith in rw next (drop_field fields k field e)

pub place_from-here : (name field : List ℕ) (fields : List (List ℕ)) (k : ℕ) → Some field ≡ field_at fields k → bytes_eq field name ≡ true
    → place_from name k fields ≡ Some k
place_from-here name field fields k at same = rw (drop_field fields k field at, same) refl

pub place_from-next : (name field : List ℕ) (fields : List (List ℕ)) (k : ℕ) → Some field ≡ field_at fields k → bytes_eq field name ≡ false
    → place_from name k fields ≡ place_from name (k + 1) fields
place_from-next name field fields k at other = rw (drop_field fields k field at, other) refl

past_fields : (fields : List (List ℕ)) (k : ℕ) → None ≡ field_at fields k → drop k fields ≡ []
unfolding field_at
past_fields [] zero e = refl
past_fields [] (suc k) e = refl
past_fields (f ∷ fields) zero e = cc
past_fields (f ∷ fields) (suc k) e = past_fields fields k e

pub place_from-end : (name : List ℕ) (fields : List (List ℕ)) (k : ℕ) → None ≡ field_at fields k → place_from name k fields ≡ None
place_from-end name fields k past = rw (past_fields fields k past) refl

-- the samples so far, and those of the rows that are left
abbrev pub behind : List ℤ → Result (List ℤ) ColumnFault → Result (List ℤ) ColumnFault
behind samples (Ok more) = Ok (samples ++ more)
behind samples (Err fault) = Err fault

pub behind-all : (place row : ℕ) (samples : List ℤ) → behind samples (samples_of_rows place row []) ≡ Ok samples
unfolding samples_of_rows
behind-all place row samples = ap Ok (append-nil samples)

pub behind-sample : (place row : ℕ) (fields : List (List ℕ)) (rows : List (List (List ℕ))) (samples : List ℤ) (sample : ℤ)
    → sample_of_row place row fields ≡ Ok sample
    → behind samples (samples_of_rows place row (fields ∷ rows)) ≡ behind (samples ++ sample ∷ []) (samples_of_rows place (row + 1) rows)
unfolding samples_of_rows
behind-sample place row fields rows samples sample e = rw e (go (samples_of_rows place (row + 1) rows))
  where
    go : (r : Result (List ℤ) ColumnFault) → behind samples (r >>= λ more. Ok (sample ∷ more)) ≡ behind (samples ++ sample ∷ []) r
    go (Ok more) = ap Ok (sym (append_assoc samples (sample ∷ []) more))
    go (Err fault) = refl

pub behind-fault : (place row : ℕ) (fields : List (List ℕ)) (rows : List (List (List ℕ))) (samples : List ℤ) (fault : ColumnFault)
    → sample_of_row place row fields ≡ Err fault
    → behind samples (samples_of_rows place row (fields ∷ rows)) ≡ Err fault
unfolding samples_of_rows
behind-fault place row fields rows samples fault e = rw e refl

pub gives-fault : {S : Type 0} (see : S → List ℤ) (fault : ColumnFault) (asked : Result (List ℤ) ColumnFault) → asked ≡ Err fault
    → GivesColumn see (Err fault) asked
gives-fault see NoColumn asked e = e
gives-fault see (ShortRow row fields) asked e = e
gives-fault see (Cell row) asked e = e
gives-fault see OutOfMemory asked e = tt

-- what a column asks for where these samples were read, and these rows are left
abbrev pub Asks : Result (List ℤ) ColumnFault → List ℤ → ℕ → ℕ → List (List (List ℕ)) → Type 0
Asks asked samples place row rows = asked ≡ behind samples (samples_of_rows place row rows)

pub asks-end : (asked : Result (List ℤ) ColumnFault) (samples : List ℤ) (place row : ℕ) (rows next : List (List (List ℕ))) (found : Bool)
    → found ≡ false
    → rows ≡ (if found then next else []) → Asks asked samples place row rows → asked ≡ Ok samples
asks-end asked samples place row rows next found none is asks =
    let left : rows ≡ [] = rw none at is in
    asks ∙ ap (λ r. behind samples (samples_of_rows place row r)) left ∙ behind-all place row samples

pub asks-fault : (asked : Result (List ℤ) ColumnFault) (samples : List ℤ) (place row : ℕ) (rows more : List (List (List ℕ)))
    (fields : List (List ℕ)) (found : Bool) (fault : ColumnFault) → found ≡ true
    → rows ≡ (if found then fields ∷ more else []) → Asks asked samples place row rows → sample_of_row place row fields ≡ Err fault
    → asked ≡ Err fault
asks-fault asked samples place row rows more fields found fault some is asks faulty =
    let left : rows ≡ fields ∷ more = rw some at is in
    asks ∙ ap (λ r. behind samples (samples_of_rows place row r)) left ∙ behind-fault place row fields more samples fault faulty

pub asks-sample : (asked : Result (List ℤ) ColumnFault) (samples : List ℤ) (place row : ℕ) (rows more : List (List (List ℕ)))
    (fields : List (List ℕ)) (found : Bool) (sample : ℤ) → found ≡ true
    → rows ≡ (if found then fields ∷ more else []) → Asks asked samples place row rows → sample_of_row place row fields ≡ Ok sample
    → Asks asked (samples ++ sample ∷ []) place (row + 1) more
asks-sample asked samples place row rows more fields found sample some is asks read =
    let left : rows ≡ fields ∷ more = rw some at is in
    asks ∙ ap (λ r. behind samples (samples_of_rows place row r)) left ∙ behind-sample place row fields more samples sample read
