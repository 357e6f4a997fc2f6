-- What never happens to a store: that it loses or changes what it has, or that a line acknowledges what it has not.
--   HasGrown    the image is one of entry, or reads as the head and the bodies of entry, and more
--   TellsTruly  so it is, and no line behind those of entry acknowledges more than its bodies have
use Rattle.std.specs.Prelude.{◌≡◌, ◌⊎◌, ◌++◌, ℕ, List, []}
use Rattle.outside.specs.station.Station.{Image, Lines, IsMoment}
use Rattle.segment.specs.segment_rules.Parts.{PartsValue}
use Rattle.store_bytes.specs.store_head.Head.{HeadValue}
use Rattle.site_config.specs.recorded.Recorded.{Recorded}
use Rattle.count_command.specs.held_samples.Kept.{ReadsBeyond}
use Rattle.count_command.specs.held_samples.Told.{AreBelow}

-- leaves: what a crash could leave at entry
abbrev pub HasGrown : HeadValue → List PartsValue → (Image → Type 0) → IsMoment
HasGrown first front leaves lines c = leaves c ⊎ ((n : List ℕ) × ReadsBeyond first front n c)

-- told: the lines of entry. As long as the image is one of entry, nothing is acknowledged.
pub record TellsTruly (r : Recorded) (first : HeadValue) (front : List PartsValue) (told : Lines)
    (leaves : Image → Type 0) (lines : Lines) (c : Image) : Type 0 where
  pub new : Lines
  pub grew : lines ≡ told ++ new
  pub has_grown : (leaves c × AreBelow r [] new)
      ⊎ ((n : List ℕ) × ReadsBeyond first front n c × AreBelow r n new)
