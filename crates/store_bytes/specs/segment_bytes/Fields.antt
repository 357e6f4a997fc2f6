-- Reading one number after the other, with the first that does not fit.
--   ◌>>=◌        a step after a step that did not fail
--   Gives        what a function answered is what reading gives, unless memory ran out
--   Reader       a value and the bytes after it, of a body of so many bytes
--   number_at    a number of so many bytes
--   both         one, and then the other; seen_as: the same, seen otherwise
--   entry_list   so many; list_at: a number, and so many
--   list_bytes   how a list is written: the number of its entries, and each
use Rattle.std.specs.Prelude.{◌≡◌, ◌+◌, ◌-◌, ℕ, zero, suc, List, [], ◌∷◌, ◌++◌, length, take, drop, Result, Ok, Err, nat_lt, if◌then◌else◌}
use Rattle.std.specs.Int.{Width, byte_len, from_be_bytes, to_be_bytes}
use Rattle.std.specs.List.{flat_map}
use Rattle.store_bytes.specs.declared.segment_bytes.fault.BytesFault.{BytesFault}
use Rattle.store_bytes.specs.declared.segment_bytes.fault.BytesFault.TheVariants.{Short, OutOfMemory}

infixl 10 ◌>>=◌
abbrev pub ◌>>=◌ : {A B : Type 0} → Result A BytesFault → (A → Result B BytesFault) → Result B BytesFault
(Ok x) >>= f = f x
(Err e) >>= f = Err e

-- reading fails with this fault; of want of memory nothing is said
abbrev pub FailsWith : {Y : Type 0} → BytesFault → Result Y BytesFault → Type 0
FailsWith OutOfMemory read = Unit {0}
FailsWith fault read = read ≡ Err fault

abbrev pub Gives : {X Y : Type 0} → (X → Y) → Result X BytesFault → Result Y BytesFault → Type 0
Gives view (Ok x) read = read ≡ Ok (view x)
Gives view (Err e) read = FailsWith e read

abbrev pub Reader : Type 0 → Type 0
Reader A = ℕ → List ℕ → Result (A × List ℕ) BytesFault

abbrev pub number_at : Width → Reader ℕ
number_at w have bytes =
    if nat_lt (length bytes) (byte_len w) then Err (Short (have - length bytes + byte_len w) have)
    else Ok (from_be_bytes w (take (byte_len w) bytes), drop (byte_len w) bytes)

abbrev pub both : {A B : Type 0} → Reader A → Reader B → Reader (A × B)
both first second have bytes = first have bytes >>= λ x. second have x.1 >>= λ y. Ok ((x.0, y.0), y.1)

abbrev pub seen_as : {A B : Type 0} → (A → B) → Reader A → Reader B
seen_as f reader have bytes = reader have bytes >>= λ x. Ok (f x.0, x.1)

unfoldable pub entry_list : {A : Type 0} → Reader A → ℕ → Reader (List A)
entry_list one zero have bytes = Ok ([], bytes)
entry_list one (suc n) have bytes = one have bytes >>= λ x. entry_list one n have x.1 >>= λ y. Ok (x.0 ∷ y.0, y.1)

abbrev pub list_at : {A : Type 0} → Width → Reader A → Reader (List A)
list_at w one have bytes = number_at w have bytes >>= λ n. entry_list one n.0 have n.1

abbrev pub list_bytes : {A : Type 0} → Width → (A → List ℕ) → List A → List ℕ
list_bytes w one xs = to_be_bytes w (length xs) ++ flat_map one xs
