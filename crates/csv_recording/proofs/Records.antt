-- Records that take a text to its end are all its records, and a record that was read leaves fewer bytes.
--   shorter        what follows a record is no longer than the text, and shorter where the text could have ended
--   whole          records that take a text to its end are those that `records_from` lists
--   records_are    all the records of a text
--   records_enough any number of turns above the length of a text gives all its records
use Rattle.std.proofs.Common.{◌≡◌, ℕ, zero, suc, ◌+◌, ◌<◌, ◌≤◌, Bool, true, false, cond, ◌==◌, ◌&&◌, List, [], ◌∷◌, ◌++◌, length, Option, Some, None, refl, ap, subst, arith}
use Rattle.std.proofs.lemmas.Option.{same_Some}
use Rattle.csv.specs.Machine.{Read, next_record, step, in_field, start_field, start_record, after_end, ends_with, is_byte, carriage_return, line_feed, is_end, ends_at_end, fields_after, field_after}
use Rattle.csv.specs.Reading.{Reached, AreRecords, records, records_from, records_next, default_config}
use Rattle.csv.specs.declared.parser.Config.{Config}
use Rattle.csv.specs.declared.parser.Terminator.{Terminator}
use Rattle.csv.specs.declared.parser.Terminator.TheVariants as term
use Rattle.csv.specs.declared.parser.State.{State}
use Rattle.csv.specs.declared.parser.State.TheVariants as st
use Rattle.csv.specs.declared.parser.Action.{Action}
use Rattle.csv.specs.declared.parser.Action.TheVariants as act

-- a state in which a text may end without one more record, where the step ended a record
abbrev Plain : State × Action → Type 0
Plain q = is_end q.1 ≡ true → ends_at_end q.0 ≡ false

cond_plain : (b : Bool) (x y : State × Action) → Plain x → Plain y → Plain (cond b x y)
cond_plain true x y a c = a
cond_plain false x y a c = c

after_plain : (t : Terminator) (c : ℕ) → ends_at_end (after_end t c) ≡ false
after_plain term.CRLF c = go (c == carriage_return)
  where
    go : (b : Bool) → ends_at_end (cond b st.AfterCr st.StartRecord) ≡ false
    go true = refl
    go false = refl
after_plain (term.Any t) c = refl

in_field_plain : (cfg : Config) (c : ℕ) → Plain (in_field cfg c)
in_field_plain cfg c = cond_plain (c == cfg.delimiter) _ _ (λ e. cc)
    (cond_plain (ends_with cfg.terminator c) _ _ (λ e. after_plain cfg.terminator c) (λ e. cc))

start_field_plain : (cfg : Config) (c : ℕ) → Plain (start_field cfg c)
start_field_plain cfg c = cond_plain (cfg.quoting && (c == cfg.quote)) (st.InQuoted, act.Skip) (in_field cfg c) (λ e. cc)
    (in_field_plain cfg c)

start_record_plain : (cfg : Config) (c : ℕ) → Plain (start_record cfg c)
start_record_plain cfg c = cond_plain (ends_with cfg.terminator c) (st.StartRecord, act.Skip) _ (λ e. cc)
    (cond_plain (is_byte cfg.comment c) (st.InComment, act.Skip) (start_field cfg c) (λ e. cc) (start_field_plain cfg c))

step_plain : (cfg : Config) (s : State) (c : ℕ) → Plain (step cfg s c)
step_plain cfg st.StartRecord c = start_record_plain cfg c
step_plain cfg st.StartField c = start_field_plain cfg c
step_plain cfg st.InField c = in_field_plain cfg c
step_plain cfg st.InQuoted c = cond_plain (cfg.quoting && (c == cfg.quote)) (st.AfterQuote, act.Skip) _ (λ e. cc)
    (cond_plain (cfg.quoting && is_byte cfg.escape c) (st.InEscape, act.Skip) (st.InQuoted, act.Copy) (λ e. cc) (λ e. cc))
step_plain cfg st.InEscape c = λ e. cc
step_plain cfg st.AfterQuote c = cond_plain (cfg.quoting && cfg.double_quote && (c == cfg.quote)) (st.InQuoted, act.Copy) (in_field cfg c)
    (λ e. cc) (in_field_plain cfg c)
step_plain cfg st.InComment c = cond_plain (c == line_feed) (st.StartRecord, act.Skip) (st.InComment, act.Skip) (λ e. cc) (λ e. cc)
step_plain cfg st.AfterCr c = cond_plain (c == line_feed) (st.StartRecord, act.Skip) (start_record cfg c) (λ e. cc)
    (start_record_plain cfg c)

pub record Shorter (s : State) (xs : List ℕ) (p : Read) : Type 0 where
  pub rest : length p.2 ≤ length xs
  pub state : ends_at_end p.1 ≡ false
  pub strict : ends_at_end s ≡ false → length p.2 < length xs

-- what follows a record is no longer than the text, and shorter where the text could have ended
pub shorter : (cfg : Config) (s : State) (fields : List (List ℕ)) (field xs : List ℕ) (p : Read)
    → next_record cfg s fields field xs ≡ Some p → Shorter s xs p
unfolding next_record
shorter cfg s fields field [] p e = go (ends_at_end s) refl
  where
    go : (b : Bool) → ends_at_end s ≡ b → Shorter s [] p
    go true h =
        let same : (fields ++ (field ∷ []), st.StartRecord, []) ≡ p = same_Some _ _ (rw h at e) in
        let P : Read → Type 0 = λ q. Shorter s [] q in
        subst P same (record { rest = omega arith; state = refl; strict = λ n. cc })
    go false h = let bad : None ≡ Some p = rw h at e in cc
shorter cfg s fields field (c ∷ rest) p e = go (is_end (step cfg s c).1) refl
    (shorter cfg (step cfg s c).0 (fields_after (step cfg s c).1 fields field) (field_after (step cfg s c).1 c field) rest p)
  where
    go : (b : Bool) → is_end (step cfg s c).1 ≡ b
        → (next_record cfg (step cfg s c).0 (fields_after (step cfg s c).1 fields field) (field_after (step cfg s c).1 c field) rest ≡ Some
        p → Shorter (step cfg s c).0 rest p)
        → Shorter s (c ∷ rest) p
    go true h more =
        let same : (fields_after (step cfg s c).1 fields field, (step cfg s c).0, rest) ≡ p = same_Some _ _ (rw h at e) in
        let P : Read → Type 0 = λ q. Shorter s (c ∷ rest) q in
        subst P same (record { rest = omega arith; state = step_plain cfg s c h; strict = λ n. omega arith })
    go false h more =
        let below = more (rw h at e) in
        record { rest = omega (arith, below.rest); state = below.state; strict = λ n. omega (arith, below.rest) }

-- records that take a text to its end are those that `records_from` lists
pub whole : (cfg : Config) (n : ℕ) (s : State) (xs : List ℕ) (rows : List (List (List ℕ))) (s2 : State) (ys : List ℕ)
    → ends_at_end s ≡ false → length xs < n → Reached cfg s xs rows s2 ys → next_record cfg s2 [] [] ys ≡ None
    → records_from cfg n s xs ≡ rows
unfolding records_from Reached
whole cfg zero s xs rows s2 ys start lt h none = absurd (omega arith)
whole cfg (suc n) s xs [] s2 ys start lt h none = let here : next_record cfg s [] [] xs ≡ None = rw (h.0, h.1) none in rw here refl
whole cfg (suc n) s xs (r ∷ rs) s2 ys start lt h none =
    let (p, found, first, rest) = h in
    let small = shorter cfg s [] [] xs p found in
    let below : length p.2 < n = omega (arith, small.strict start) in
    let more = whole cfg n p.1 p.2 rs s2 ys small.state below rest none in
    rw (found, more, first) refl

-- all the records of a text
pub records_are : (xs : List ℕ) (rows : List (List (List ℕ))) → AreRecords default_config st.StartRecord xs rows
    → records default_config xs ≡ rows
records_are xs rows h = whole default_config (length xs + 1) st.StartRecord xs rows h.0 h.1 refl (omega arith) h.2 h.3

-- any number of turns above the length of a text gives all its records
pub records_enough : (cfg : Config) (n m : ℕ) (s : State) (xs : List ℕ) → ends_at_end s ≡ false → length xs < n → length xs < m
    → records_from cfg n s xs ≡ records_from cfg m s xs
unfolding records_from
records_enough cfg zero m s xs start few more = absurd (omega arith)
records_enough cfg (suc n) zero s xs start few more = absurd (omega arith)
records_enough cfg (suc n) (suc m) s xs start few more = go (next_record cfg s [] [] xs) refl
    (λ p small. records_enough cfg n m p.1 p.2 small.state (omega (arith, small.strict start)) (omega (arith, small.strict start)))
  where
    go : (o : Option Read) → next_record cfg s [] [] xs ≡ o
        → ((p : Read) → Shorter s xs p → records_from cfg n p.1 p.2 ≡ records_from cfg m p.1 p.2)
        → records_next (records_from cfg n) (next_record cfg s [] [] xs) ≡ records_next (records_from cfg m) (next_record cfg s [] [] xs)
    go None is same = rw is refl
    go (Some p) is same = rw is (ap (λ rows. p.0 ∷ rows) (same p (shorter cfg s [] [] xs p is)))
