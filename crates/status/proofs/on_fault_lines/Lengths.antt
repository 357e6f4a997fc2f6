-- How long a line is beside its name, whatever its numbers: a decimal has 64 digits at most.
use Rattle.std.proofs.Common.{◌≤◌, ◌+◌, ◌/◌, ◌%◌, ℕ, Bool, true, false, zero, suc, List, [], ◌∷◌, ◌++◌, length, take, codes, arith}
use Rattle.std.specs.Prelude.{ℤ, pos, negsuc}
use Rattle.std.specs.Fmt.{digit_glyph, digits_onto, digits, decimal, signed_decimal}
use Rattle.std.proofs.lemmas.List.{length-take, length-map}
use Rattle.hex.specs.Hex.{lower_digits}
use Rattle.hex.proofs.HexLemmas.{length-encode_with}
use Rattle.status.specs.line_room.Room.{shown_text, shown_byte}
use Rattle.site_config.specs.Keys.{part_text, index_text, has_index, name_behind, key_text}
use Rattle.site_config.specs.FaultText.{fault_words, place_behind, config_fault_text}
use Rattle.site_config.specs.declared.fault.Key.{Key}
use Rattle.site_config.specs.declared.fault.Part.{Part}
use Rattle.site_config.specs.declared.fault.Part.TheVariants as part
use Rattle.site_config.specs.declared.fault.KeyName.{KeyName}
use Rattle.site_config.specs.declared.fault.KeyName.TheVariants as name
use Rattle.site_config.specs.declared.fault.ConfigFault.{ConfigFault}
use Rattle.site_config.specs.declared.fault.ConfigFault.TheVariants as config
use Rattle.store_bytes.specs.declared.store_head.fault.Field.{Field}
use Rattle.store_bytes.specs.declared.store_head.fault.Field.TheVariants as field
use Rattle.segment_store.specs.declared.damage.Damage.{Damage}
use Rattle.segment_store.specs.declared.damage.Damage.TheVariants as damage
use Rattle.recount.specs.declared.compare.What.{What}
use Rattle.recount.specs.declared.compare.What.TheVariants as what
use Rattle.status.specs.declared.status.RecordingFault.{RecordingFault}
use Rattle.status.specs.declared.status.RecordingFault.TheVariants as recording
use Rattle.status.specs.declared.status.StoreFault.{StoreFault}
use Rattle.status.specs.declared.status.StoreFault.TheVariants as store
use Rattle.status.specs.declared.status.Status.{Status}
use Rattle.status.specs.declared.status.Status.TheVariants.{Done, Usage, Config, Store, Recording, Torn, ReadFault, WriteFault, DiskFault, OutOfMemory, TooLong, Differs}
use Rattle.store_bytes.specs.store_head.FaultText.{field_text}
use Rattle.status.specs.fault_lines.FaultLine.{what_text, differs_text, torn_text, recording_line, fault_line}
use Rattle.status.specs.FaultText.{digest_digits, id_digits, damage_text, store_text, recording_text}
use Rattle.status.specs.declared.fault_lines.line.TheConstants.{MAX_BYTES_BESIDE_NAME}
use Rattle.lemmas.proofs.Lists.{length-append-le as appended, length-cond-le as either}

onto-short : (k n : ℕ) (acc : List ℕ) → length (digits_onto k 10 false n acc) ≤ k + length acc
onto-short zero n acc = omega arith
onto-short (suc k) n acc =
    let glyph = digit_glyph false (n % 10) in
    let rest : length (digits_onto k 10 false (n / 10) (glyph ∷ acc)) ≤ suc k + length acc = omega
    (arith, onto-short k (n / 10) (glyph ∷ acc)) in
    either _ (glyph ∷ acc) (digits_onto k 10 false (n / 10) (glyph ∷ acc)) (suc k + length acc) (omega arith) rest

number-short : (n : ℕ) → length (decimal n) ≤ 64
unfolding digits
number-short n = onto-short 64 n []

signed-short : (z : ℤ) → length (signed_decimal z) ≤ 65
signed-short (pos n) = omega (arith, number-short n)
signed-short (negsuc n) = omega (arith, number-short (suc n))

digest-short : (bytes : List ℕ) → length (digest_digits bytes) ≤ 64
digest-short bytes = omega (arith, length-encode_with lower_digits (take 32 bytes), length-take 32 bytes)

id-short : (bytes : List ℕ) → length (id_digits bytes) ≤ 32
id-short bytes = omega (arith, length-encode_with lower_digits (take 16 bytes), length-take 16 bytes)

part-short : (p : Part) → length (part_text p) ≤ 6
part-short part.Grid = omega arith
part-short part.Count = omega arith
part-short part.Gauge = omega arith
part-short part.Detail = omega arith

index-short : (b : Bool) (n : ℕ) → length (index_text b n) ≤ 65
index-short true n = appended (codes " ") (decimal n) 1 64 (omega arith) (number-short n)
index-short false n = omega arith

name-short : (k : KeyName) → length (name_behind k) ≤ 10
name-short name.Itself = omega arith
name-short name.Classes = omega arith
name-short name.Width = omega arith
name-short name.Low = omega arith
name-short name.Reference = omega arith
name-short name.Block = omega arith
name-short name.Workers = omega arith
name-short name.Name = omega arith
name-short name.File = omega arith
name-short name.Num = omega arith
name-short name.Den = omega arith
name-short name.Offset = omega arith
name-short name.Gauge = omega arith
name-short name.Kind = omega arith
name-short name.Category = omega arith
name-short name.Gamma = omega arith

key-short : (k : Key) → length (codes " " ++ key_text k) ≤ 82
key-short k =
    let front = appended (part_text k.part) (index_text (has_index k.part) k.index) 6 65 (part-short k.part)
    (index-short (has_index k.part) k.index) in
    let all = appended (part_text k.part ++ index_text (has_index k.part) k.index) (name_behind k.name) 71 10 front (name-short k.name) in
    appended (codes " ") (key_text k) 1 81 (omega arith) all

words-short : (f : ConfigFault) → length (fault_words f) ≤ 13
words-short config.NotToml = omega arith
words-short (config.Missing k) = omega arith
words-short (config.Kind k) = omega arith
words-short (config.Limit k) = omega arith
words-short (config.Double p a b) = omega arith
words-short (config.NoSuchGauge d) = omega arith
words-short config.TooLong = omega arith
words-short config.OutOfMemory = omega arith

place-short : (f : ConfigFault) → length (place_behind f) ≤ 140
place-short config.NotToml = omega arith
place-short (config.Missing k) = omega (arith, key-short k)
place-short (config.Kind k) = omega (arith, key-short k)
place-short (config.Limit k) = omega (arith, key-short k)
place-short (config.Double p a b) =
    let to1 = appended (codes " ") (part_text p) 1 6 (omega arith) (part-short p) in
    let to2 = appended (codes " " ++ part_text p) (codes " ") 7 1 to1 (omega arith) in
    let to3 = appended (codes " " ++ part_text p ++ codes " ") (decimal a) 8 64 to2 (number-short a) in
    let to4 = appended (codes " " ++ part_text p ++ codes " " ++ decimal a) (codes " ") 72 1 to3 (omega arith) in
    let to5 = appended (codes " " ++ part_text p ++ codes " " ++ decimal a ++ codes " ") (decimal b) 73 64 to4 (number-short b) in
    omega (arith, to5)
place-short (config.NoSuchGauge d) = omega (arith, appended (codes ", detail ") (decimal d) 9 64 (omega arith) (number-short d))
place-short config.TooLong = omega arith
place-short config.OutOfMemory = omega arith

word-short : (word : List ℕ) (n : ℕ) → length word ≤ 7 → length (word ++ decimal n) ≤ 71
word-short word n h = appended word (decimal n) 7 64 h (number-short n)

field-short : (f : Field) → length (field_text f) ≤ 71
field-short field.Gauges = omega arith
field-short field.Classes = omega arith
field-short field.Width = omega arith
field-short field.Low = omega arith
field-short field.Reference = omega arith
field-short (field.Num g) = word-short (codes "num ") g (omega arith)
field-short (field.Den g) = word-short (codes "den ") g (omega arith)
field-short (field.Offset g) = word-short (codes "offset ") g (omega arith)

damage-short : (d : Damage) → length (damage_text d) ≤ 143
damage-short (damage.Cut size) = omega arith
damage-short (damage.Length n) = omega arith
damage-short (damage.Digest kept found) =
    let to1 = appended (codes ", kept ") (digest_digits kept) 7 64 (omega arith) (digest-short kept) in
    let to2 = appended (codes ", kept " ++ digest_digits kept) (codes ", found ") 71 8 to1 (omega arith) in
    appended (codes ", kept " ++ digest_digits kept ++ codes ", found ") (digest_digits found) 79 64 to2 (digest-short found)
damage-short (damage.Bytes f) = omega arith
damage-short (damage.Gauge g) = omega arith
damage-short damage.Empty = omega arith
damage-short (damage.Join r) = omega arith

store-short : (f : StoreFault) → length (store_text f) ≤ 218
store-short store.NotAStore = omega arith
store-short (store.Version v) = omega (arith, appended (codes "version ") (decimal v) 8 64 (omega arith) (number-short v))
store-short (store.Differs f kept found) =
    let to1 = appended (field_text f) (codes " was ") 71 5 (field-short f) (omega arith) in
    let to2 = appended (field_text f ++ codes " was ") (signed_decimal kept) 76 65 to1 (signed-short kept) in
    let to3 = appended (field_text f ++ codes " was " ++ signed_decimal kept) (codes ", is ") 141 5 to2 (omega arith) in
    let to4 = appended (field_text f ++ codes " was " ++ signed_decimal kept ++ codes ", is ") (signed_decimal found) 146 65 to3
    (signed-short found) in
    omega (arith, to4)
store-short (store.Damaged i d) =
    let to1 = appended (codes "damaged at ") (decimal i) 11 64 (omega arith) (number-short i) in
    appended (codes "damaged at " ++ decimal i) (damage_text d) 75 143 to1 (damage-short d)
store-short (store.NotEmpty size) =
    let to1 = appended (codes "not empty, ") (decimal size) 11 64 (omega arith) (number-short size) in
    omega (arith, appended (codes "not empty, " ++ decimal size) (codes " bytes") 75 6 to1 (omega arith))

recording-short : (f : RecordingFault) → length (recording_text f) ≤ 144
recording-short recording.Short = omega arith
recording-short recording.Magic = omega arith
recording-short (recording.Version v) = omega (arith, appended (codes "version ") (decimal v) 8 64 (omega arith) (number-short v))
recording-short recording.NotZero = omega arith
recording-short (recording.Id kept found) =
    let to1 = appended (codes "id was ") (id_digits kept) 7 32 (omega arith) (id-short kept) in
    let to2 = appended (codes "id was " ++ id_digits kept) (codes ", is ") 39 5 to1 (omega arith) in
    omega (arith, appended (codes "id was " ++ id_digits kept ++ codes ", is ") (id_digits found) 44 32 to2 (id-short found))
recording-short (recording.Period kept found) =
    let to1 = appended (codes "period was ") (decimal kept) 11 64 (omega arith) (number-short kept) in
    let to2 = appended (codes "period was " ++ decimal kept) (codes ", is ") 75 5 to1 (omega arith) in
    omega (arith, appended (codes "period was " ++ decimal kept ++ codes ", is ") (decimal found) 80 64 to2 (number-short found))
recording-short (recording.Fewer held there) =
    let to1 = appended (decimal held) (codes " held, ") 64 7 (number-short held) (omega arith) in
    let to2 = appended (decimal held ++ codes " held, ") (decimal there) 71 64 to1 (number-short there) in
    omega (arith, appended (decimal held ++ codes " held, " ++ decimal there) (codes " there") 135 6 to2 (omega arith))
recording-short recording.NoColumn = omega arith
recording-short (recording.ShortRow row fields) =
    let to1 = appended (codes "row ") (decimal row) 4 64 (omega arith) (number-short row) in
    let to2 = appended (codes "row " ++ decimal row) (codes " has ") 68 5 to1 (omega arith) in
    let to3 = appended (codes "row " ++ decimal row ++ codes " has ") (decimal fields) 73 64 to2 (number-short fields) in
    omega (arith, appended (codes "row " ++ decimal row ++ codes " has " ++ decimal fields) (codes " fields") 137 7 to3 (omega arith))
recording-short (recording.Cell row) =
    let to1 = appended (codes "row ") (decimal row) 4 64 (omega arith) (number-short row) in
    omega (arith, appended (codes "row " ++ decimal row) (codes " is no number") 68 13 to1 (omega arith))

what-short : (w : What) → length (what_text w) ≤ 134
what-short what.Used = omega arith
what-short what.Missing = omega arith
what-short what.Refused = omega arith
what-short (what.Cell lo hi) =
    let to1 = appended (codes "cell ") (decimal lo) 5 64 (omega arith) (number-short lo) in
    let to2 = appended (codes "cell " ++ decimal lo) (codes " ") 69 1 to1 (omega arith) in
    appended (codes "cell " ++ decimal lo ++ codes " ") (decimal hi) 70 64 to2 (number-short hi)

differs-short : (w : What) (held found : ℕ) → length (differs_text w held found) ≤ 278
differs-short w held found =
    let to1 = appended (what_text w) (codes " held ") 134 6 (what-short w) (omega arith) in
    let to2 = appended (what_text w ++ codes " held ") (decimal held) 140 64 to1 (number-short held) in
    let to3 = appended (what_text w ++ codes " held " ++ decimal held) (codes ", recount ") 204 10 to2 (omega arith) in
    appended (what_text w ++ codes " held " ++ decimal held ++ codes ", recount ") (decimal found) 214 64 to3 (number-short found)

-- a front, a name, a text behind it, and the end of the line
named : (front name text : List ℕ) (m : ℕ) → length front ≤ 10 → length text ≤ m →
    length (front ++ shown_text name ++ codes ": " ++ text ++ codes "\n") ≤ m + 13 + length name
named front name text m f t =
    let n : length (shown_text name) ≤ length name = omega (arith, length-map name shown_byte) in
    let to1 = appended front (shown_text name) 10 (length name) f n in
    let to2 = appended (front ++ shown_text name) (codes ": ") (10 + length name) 2 to1 (omega arith) in
    let to3 = appended (front ++ shown_text name ++ codes ": ") text (10 + length name + 2) m to2 t in
    omega (arith, appended (front ++ shown_text name ++ codes ": " ++ text) (codes "\n") (10 + length name + 2 + m) 1 to3 (omega arith))

ended : (front text : List ℕ) (m : ℕ) → length front ≤ 8 → length text ≤ m → length (front ++ text ++ codes "\n") ≤ m + 9
ended front text m f t = omega (arith, appended (front ++ text) (codes "\n") (8 + m) 1 (appended front text 8 m f t) (omega arith))

recording_line-short : (name text : List ℕ) (m : ℕ) → length text ≤ m → length (recording_line name text) ≤ m + 13 + length name
recording_line-short name text m t = named (codes "recording ") name text m (omega arith) t

pub fault_line-short : (s : Status) (name : List ℕ) → length (fault_line s name) ≤ MAX_BYTES_BESIDE_NAME + length name
fault_line-short Done name = omega arith
fault_line-short Usage name = omega arith
fault_line-short (Config f) name = omega (
  arith,
  ended (codes "config: ") (config_fault_text f) 153 (omega arith)
      (appended (fault_words f) (place_behind f) 13 140 (words-short f) (place-short f)),
)
fault_line-short (Store f) name = omega (arith, ended (codes "store: ") (store_text f) 218 (omega arith) (store-short f))
fault_line-short (Recording g f) name = omega (arith, recording_line-short name (recording_text f) 144 (recording-short f))
fault_line-short (Torn g bytes) name =
    let to1 = appended (codes "ends in ") (decimal bytes) 8 64 (omega arith) (number-short bytes) in
    omega (
      arith,
      recording_line-short name (torn_text bytes) 82 (appended (codes "ends in " ++ decimal bytes) (codes " odd bytes") 72 10
          to1 (omega arith)),
    )
fault_line-short ReadFault name = omega arith
fault_line-short WriteFault name = omega arith
fault_line-short DiskFault name = omega arith
fault_line-short OutOfMemory name = omega arith
fault_line-short (TooLong g) name = omega (arith, recording_line-short name (codes "too long") 8 (omega arith))
fault_line-short (Differs g w held found) name =
    omega (arith, named (codes "audit ") name (differs_text w held found) 278 (omega arith) (differs-short w held found))
