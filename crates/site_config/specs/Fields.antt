-- The rule of one key: it is missing, of another kind, outside its limits, or its value.
--   number_at      a number within limits           number_or    the same with a default
--   natural_at     the same of a natural number     natural_or
--   text_at        a text                           name_at, file_at
--   Gives          what a function of the code returns, beside its definition
use Rattle.std.specs.Prelude.{◌≡◌, ◌||◌, ◌&&◌, ◌==◌, if◌then◌else◌, ℕ, ℤ, pos, Bool, true, false, List, [], ◌∷◌, length, Option, Some, None, Result, Ok, Err, nat_le, int_lt, unsigned_abs, ok_or}
use Rattle.std.specs.List.{list_all, position_from}
use Rattle.std.specs.Cmp.Lexicographic.{pointwise}
use Rattle.toml.specs.Data.{Data, as_integer, as_str, as_array, Items, no_items, item, Members, get_member}
use Rattle.site_config.specs.declared.limits.TheConstants.{MAX_NAME_BYTES, MAX_FILE_NAME_BYTES}
use Rattle.site_config.specs.Keys.{name_text}
use Rattle.site_config.specs.declared.fault.Key.{Key}
use Rattle.site_config.specs.declared.fault.Part.{Part}
use Rattle.site_config.specs.declared.fault.KeyName.TheVariants.{Itself}
use Rattle.site_config.specs.declared.fault.ConfigFault.{ConfigFault}
use Rattle.site_config.specs.declared.fault.ConfigFault.TheVariants.{Missing, Kind, Limit, Double, OutOfMemory}

infixl 10 ◌>>=◌
abbrev pub ◌>>=◌ : {A B : Type 0} → Result A ConfigFault → (A → Result B ConfigFault) → Result B ConfigFault
(Ok x) >>= f = f x
(Err e) >>= f = Err e

-- What a function returns is what the definition gives, unless memory runs out.
abbrev pub GivesFault : {Y : Type 0} → ConfigFault → Result Y ConfigFault → Type 0
GivesFault OutOfMemory given = Unit {0}
GivesFault fault given = given ≡ Err fault

abbrev pub Gives : {X Y : Type 0} → (X → Y) → Result X ConfigFault → Result Y ConfigFault → Type 0
Gives see (Ok x) given = given ≡ Ok (see x)
Gives see (Err fault) given = GivesFault fault given

-- the value, where it passes
abbrev pub within_limits : {X : Type 0} → Bool → Key → X → Result X ConfigFault
within_limits passes key x = if passes then Ok x else Err (Limit key)

-- the value at a key that has to be there
unfoldable pub value_at : Key → Members → Result Data ConfigFault
value_at key ms = ok_or (get_member (name_text key.name) ms) (Missing key)

-- a whole number from low to high
abbrev pub is_within : ℤ → ℤ → ℤ → Bool
is_within low high n = if int_lt n low then false else if int_lt high n then false else true

unfoldable pub number_in : Key → ℤ → ℤ → Data → Result ℤ ConfigFault
number_in key low high value = do
  n ← ok_or (as_integer value) (Kind key)
  within_limits (is_within low high n) key n

unfoldable pub number_at : Key → ℤ → ℤ → Members → Result ℤ ConfigFault
number_at key low high ms = value_at key ms >>= number_in key low high

abbrev pub number_if : Option Data → ℤ → Key → ℤ → ℤ → Result ℤ ConfigFault
number_if None default key low high = Ok default
number_if (Some value) default key low high = number_in key low high value

unfoldable pub number_or : ℤ → Key → ℤ → ℤ → Members → Result ℤ ConfigFault
number_or default key low high ms = number_if (get_member (name_text key.name) ms) default key low high

-- a natural number from low to high
unfoldable pub natural_at : Key → ℕ → ℕ → Members → Result ℕ ConfigFault
natural_at key low high ms = do
  n ← number_at key (pos low) (pos high) ms
  Ok (unsigned_abs n)

unfoldable pub natural_or : ℕ → Key → ℕ → ℕ → Members → Result ℕ ConfigFault
natural_or default key low high ms = do
  n ← number_or (pos default) key (pos low) (pos high) ms
  Ok (unsigned_abs n)

unfoldable pub text_at : Key → Members → Result (List ℕ) ConfigFault
text_at key ms = do
  value ← value_at key ms
  ok_or (as_str value) (Kind key)

-- ASCII letters, digits, - or _
abbrev pub is_in_limits : ℕ → ℕ → ℕ → Bool
is_in_limits low high c = nat_le low c && nat_le c high

abbrev pub is_name_byte : ℕ → Bool
is_name_byte c = is_in_limits 97 122 c || is_in_limits 65 90 c || is_in_limits 48 57 c || c == 45 || c == 95

abbrev pub is_name : List ℕ → Bool
is_name text = is_in_limits 1 MAX_NAME_BYTES (length text) && list_all is_name_byte text

unfoldable pub name_at : Key → Members → Result (List ℕ) ConfigFault
name_at key ms = do
  text ← text_at key ms
  within_limits (is_name text) key text

-- the name of a file
unfoldable pub file_at : Key → Members → Result (List ℕ) ConfigFault
file_at key ms = do
  text ← text_at key ms
  within_limits (is_in_limits 1 MAX_FILE_NAME_BYTES (length text)) key text

-- the place of a name
abbrev pub place_of : List ℕ → List (List ℕ) → Option ℕ
place_of name names = position_from (λ other. pointwise ◌==◌ other name) 0 names

-- the name, where none of those before has it
abbrev pub unless_taken : Option ℕ → Part → ℕ → List ℕ → Result (List ℕ) ConfigFault
unless_taken None part second name = Ok name
unless_taken (Some first) part second name = Err (Double part first second)

unfoldable pub unless_taken_before : Part → ℕ → List (List ℕ) → List ℕ → Result (List ℕ) ConfigFault
unless_taken_before part second names name = unless_taken (place_of name names) part second name

-- the items of an array
abbrev pub items_list : Items → List Data
items_list no_items = []
items_list (item d ds) = d ∷ items_list ds

-- the tables of a part, a number of them from low to high
unfoldable pub items_in : Part → ℕ → ℕ → Data → Result (List Data) ConfigFault
items_in part low high value = do
  items ← ok_or (as_array value) (Kind (record { part = part; index = 0; name = Itself }))
  within_limits (is_in_limits low high (length (items_list items))) (record { part = part; index = 0; name = Itself })
      (items_list items)
