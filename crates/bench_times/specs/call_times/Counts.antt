-- Two parts of one history.
--   SameGrid   both are over the same classes and reference
use Rattle.std.specs.Prelude.{◌≡◌}
use Rattle.simple_counts.specs.level_crossing.Crossings.{CrossingsValue}
use Rattle.simple_counts.specs.Simple.{SimpleValue}

pub record SameGrid (s : SimpleValue) (c : CrossingsValue) : Type 0 where
  pub classes : c.classes ≡ s.classes
  pub reference : c.reference ≡ s.reference
