-- A held line tells its gauge and its number back.
use Rattle.std.proofs.Common.{◌≡◌, ◌≤◌, ◌<◌, ◌^◌, ℕ, List, [], ◌∷◌, ◌++◌, true, get_or, refl, ◌∙◌, ap, subst, arith}
use Rattle.std.specs.Prelude.{length}
use Rattle.std.specs.List.{list_all}
use Rattle.std.specs.Fmt.{decimal}
use Rattle.site_config.specs.Fields.{is_in_limits, is_name, is_name_byte}
use Rattle.site_config.specs.declared.limits.TheConstants.{MAX_NAME_BYTES}
use Rattle.site_config.specs.recorded.Recorded.{Recorded}
use Rattle.count_command.specs.held_samples.Told.{held_line, IsBelow}
use Rattle.std.proofs.lemmas.Fmt.{decimal_injective}
use Rattle.std.proofs.lemmas.List.{append_cancel_right}
use Rattle.std.proofs.lemmas.Bool.{and_parts}
use Rattle.count_command.specs.held_samples.Going.{AreNames}

space_no_letter : is_name_byte 32 ≡ true → ⊥
space_no_letter is = cc

-- letters up to a space
same_front : (a b m n : List ℕ) → list_all is_name_byte a ≡ true → list_all is_name_byte b ≡ true → a ++ 32 ∷ m ≡ b ++ 32 ∷ n →
    (a ≡ b) × (m ≡ n)
same_front [] [] m n la lb is = (refl, cc)
same_front [] (y ∷ b) m n la lb is = let first : y ≡ 32 = cc in absurd (space_no_letter (subst (λ (c : ℕ). is_name_byte c ≡ true) first
    (and_parts (is_name_byte y) (list_all is_name_byte b) lb).0))
same_front (x ∷ a) [] m n la lb is = let first : x ≡ 32 = cc in absurd (space_no_letter (subst (λ (c : ℕ). is_name_byte c ≡ true) first
    (and_parts (is_name_byte x) (list_all is_name_byte a) la).0))
same_front (x ∷ a) (y ∷ b) m n la lb is =
    let first : x ≡ y = cc in
    let rest : a ++ 32 ∷ m ≡ b ++ 32 ∷ n = cc in
    let inner = same_front a b m n (and_parts (is_name_byte x) (list_all is_name_byte a) la).1
    (and_parts (is_name_byte y) (list_all is_name_byte b) lb).1 rest in
    (ap (λ (c : ℕ). c ∷ a) first ∙ ap (λ (l : List ℕ). y ∷ l) inner.0, inner.1)

pub line_tells : (a b : List ℕ) (n m : ℕ) → list_all is_name_byte a ≡ true → list_all is_name_byte b ≡ true → n < 2 ^ 64 → m < 2 ^ 64 →
    held_line a n ≡ held_line b m → (a ≡ b) × (n ≡ m)
line_tells a b n m la lb nl ml is =
    let tail : a ++ 32 ∷ (decimal n ++ 10 ∷ []) ≡ b ++ 32 ∷ (decimal m ++ 10 ∷ []) = cc in
    let both = same_front a b (decimal n ++ 10 ∷ []) (decimal m ++ 10 ∷ []) la lb tail in
    (both.0, decimal_injective n m nl ml (append_cancel_right (decimal n) (decimal m) (10 ∷ []) both.1))

has_letters : (name : List ℕ) → is_name name ≡ true → list_all is_name_byte name ≡ true
has_letters name is = (and_parts (is_in_limits 1 MAX_NAME_BYTES (length name)) (list_all is_name_byte name) is).1

-- a held line of a number that is held
pub held_below : (r : Recorded) → AreNames r.names r.gauges → (held : List ℕ) (g n : ℕ) → g < r.gauges → n < 2 ^ 64 → n ≤ get_or held g 0 →
    IsBelow r held (held_line (r.names g) n)
held_below r named held g n lt small le h m hlt msmall is =
    let same = line_tells (r.names g) (r.names h) n m (has_letters (r.names g) (named.letters g lt))
    (has_letters (r.names h) (named.letters h hlt)) small msmall is in
    let gauge : g ≡ h = named.differ g h lt hlt same.0 in
    omega (arith, same.1, le, ap (λ (i : ℕ). get_or held i 0) gauge)
