-- What is told of a recording and of a store that are refused: a fault's `Display` gives the same text.
--   digest_digits, id_digits  in hexadecimal
--   damage_text, store_text   of a store
--   recording_text            of a recording
use Rattle.std.specs.Prelude.{ℕ, List, [], ◌++◌, codes, take}
use Rattle.std.specs.Fmt.{decimal, signed_decimal}
use Rattle.hex.specs.Hex.{encode_lower}
use Rattle.store_bytes.specs.store_head.FaultText.{field_text}
use Rattle.segment_store.specs.declared.damage.Damage.{Damage}
use Rattle.segment_store.specs.declared.damage.Damage.TheVariants.{Digest}
use Rattle.status.specs.declared.status.RecordingFault.{RecordingFault}
use Rattle.status.specs.declared.status.RecordingFault.TheVariants as recording
use Rattle.status.specs.declared.status.StoreFault.{StoreFault}
use Rattle.status.specs.declared.status.StoreFault.TheVariants as store

-- two digits for each byte of a digest, and of an id
abbrev pub digest_digits : List ℕ → List ℕ
digest_digits bytes = encode_lower (take 32 bytes)

abbrev pub id_digits : List ℕ → List ℕ
id_digits bytes = encode_lower (take 16 bytes)

-- both digests, where these are what is wrong
abbrev pub damage_text : Damage → List ℕ
damage_text (Digest kept found) = codes ", kept " ++ digest_digits kept ++ codes ", found " ++ digest_digits found
damage_text damage = []

abbrev pub store_text : StoreFault → List ℕ
store_text store.NotAStore = codes "not a store"
store_text (store.Version v) = codes "version " ++ decimal v
store_text (store.Differs f kept found) =
    field_text f ++ codes " was " ++ signed_decimal kept ++ codes ", is " ++ signed_decimal found
store_text (store.Damaged index damage) = codes "damaged at " ++ decimal index ++ damage_text damage
store_text (store.NotEmpty size) = codes "not empty, " ++ decimal size ++ codes " bytes"

abbrev pub recording_text : RecordingFault → List ℕ
recording_text recording.Short = codes "short"
recording_text recording.Magic = codes "no SGRC"
recording_text (recording.Version v) = codes "version " ++ decimal v
recording_text recording.NotZero = codes "not zero"
recording_text (recording.Id kept found) = codes "id was " ++ id_digits kept ++ codes ", is " ++ id_digits found
recording_text (recording.Period kept found) = codes "period was " ++ decimal kept ++ codes ", is " ++ decimal found
recording_text (recording.Fewer held there) = decimal held ++ codes " held, " ++ decimal there ++ codes " there"
recording_text recording.NoColumn = codes "no column"
recording_text (recording.ShortRow row fields) =
    codes "row " ++ decimal row ++ codes " has " ++ decimal fields ++ codes " fields"
recording_text (recording.Cell row) = codes "row " ++ decimal row ++ codes " is no number"
