-- What a reader over bytes has left when it gave a record, or none.
use Rattle.std.proofs.Common.{◌≡◌, ◌<◌, ◌+◌, ◌∙◌, ℕ, suc, Bool, true, false, if◌then◌else◌, List, [], ◌∷◌, length, Option, Some, None, unwrap_or, inl, refl, sym, ap, arith}
use Rattle.std.specs.Bool.{OnTrue}
use Rattle.csv.specs.Machine.{Read, next_record, ends_at_end}
use Rattle.csv.specs.Reading.{NextIs, ReadRecord, ReadsNext, default_config, pending_of, records_from, took_first}
use Rattle.csv.specs.declared.parser.State.{State}
use Rattle.csv_recording.specs.Rows.{IsPlain, SliceReader, rows_left, source_left, text_left}
use Rattle.csv_recording.proofs.Records.{records_enough, shorter}

found_record : (o : Option Read) (fields : List (List ℕ)) (s : State) (rest : List ℕ) → NextIs o true fields s rest
    → o ≡ Some (fields, s, rest)
found_record None fields s rest n = cc n
found_record (Some p) fields s rest n = rw (n.1, n.2, n.3) refl

no_record : (o : Option Read) (fields : List (List ℕ)) (s : State) (rest : List ℕ) → NextIs o false fields s rest → o ≡ None
no_record None fields s rest n = refl
no_record (Some p) fields s rest n = cc n.0

found_in : (s s2 : State) (xs : List ℕ) (after : Option (List ℕ)) (fields : List (List ℕ))
    → ReadsNext default_config s (Some xs) after true fields s2
    → (ys : List ℕ) × (after ≡ Some ys) × (next_record default_config s [] [] xs ≡ Some (fields, s2, ys))
found_in s s2 xs None fields h = absurd h
found_in s s2 xs (Some ys) fields h = (ys, refl, found_record (next_record default_config s [] [] xs) fields s2 ys h)

none_in : (s s2 : State) (xs : List ℕ) (after : Option (List ℕ)) (fields : List (List ℕ))
    → ReadsNext default_config s (Some xs) after false fields s2 → next_record default_config s [] [] xs ≡ None
none_in s s2 xs None fields h = absurd h
none_in s s2 xs (Some ys) fields h = no_record (next_record default_config s [] [] xs) fields s2 ys h

-- what a reader has left after a read
pub record After (old new : SliceReader) (found : Bool) (fields : List (List ℕ)) : Type 0 where
  pub rows : rows_left old ≡ (if found then fields ∷ rows_left new else [])
  pub plain : OnTrue found (IsPlain new)
  pub shorter : OnTrue found (length (text_left new) < length (text_left old))

left_after : (n : ℕ) (s s2 : State) (xs ys : List ℕ) (fields : List (List ℕ)) → length xs ≡ n → ends_at_end s2 ≡ false → length ys < n
    → next_record default_config s [] [] xs ≡ Some (fields, s2, ys)
    → records_from default_config (length xs + 1) s xs ≡ fields ∷ records_from default_config (length ys + 1) s2 ys
unfolding records_from
left_after n s s2 xs ys fields size between few next =
    let same = records_enough default_config (length xs) (length ys + 1) s2 ys between (omega arith) (omega arith) in
    let turns : length xs + 1 ≡ suc (length xs) = omega arith in
    rw (turns, next) (ap (λ rows. fields ∷ rows) same)

after_found : (old new : SliceReader) (fields : List (List ℕ)) → IsPlain old → took_first new ≡ true
    → ReadRecord (λ slice. Some slice.now) old new true fields → After old new true fields
unfolding rows_left
after_found old new fields plain first read =
    let (reads, begun, config, trims, named, lengths) = read in
    let here = rw (plain.config, plain.source) at reads in
    let (ys, after, next) = found_in old.state new.state (text_left old) (pending_of (Some new.rdr.now) new) fields here in
    let small = shorter default_config old.state [] [] (text_left old) (fields, new.state, ys) next in
    let source : source_left new ≡ Some ys = rw begun after in
    let text : text_left new ≡ ys = ap (λ (o : Option (List ℕ)). unwrap_or o []) source in
    record {
      rows = rw text (left_after (length (text_left old)) old.state new.state (text_left old) ys fields refl small.state
          (small.strict plain.between) next);
      plain = record {
        config = config ∙ plain.config;
        trim = trims ∙ plain.trim;
        ready = inl first;
        between = small.state;
        source = source ∙ ap Some (sym text);
      };
      shorter = rw text (small.strict plain.between);
    }

after_none : (old new : SliceReader) (fields : List (List ℕ)) → IsPlain old → ReadRecord (λ slice. Some slice.now) old new false fields
    → After old new false fields
unfolding rows_left records_from
after_none old new fields plain read =
    let here = rw (plain.config, plain.source) at read.0 in
    let none = none_in old.state new.state (text_left old) (pending_of (Some new.rdr.now) new) fields here in
    let turns : length (text_left old) + 1 ≡ suc (length (text_left old)) = omega arith in
    record { rows = rw (turns, none) refl; plain = tt; shorter = tt }

pub after_read : (old new : SliceReader) (found : Bool) (fields : List (List ℕ)) → IsPlain old → took_first new ≡ true
    → ReadRecord (λ slice. Some slice.now) old new found fields → After old new found fields
after_read old new true fields plain first read = after_found old new fields plain first read
after_read old new false fields plain first read = after_none old new fields plain read
