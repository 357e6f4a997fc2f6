-- What a run is about: the setup, and for each gauge its name, its samples and how many bytes stand behind the last
-- whole one.
--   body_in      what stands behind the head of a file
--   recordings   the recordings of a configuration
use Rattle.std.specs.Prelude.{ℕ, ℤ, List, [], drop, length, Option, Some, None}
use Rattle.outside.specs.Site.{Files}
use Rattle.recording.specs.Samples.{samples, torn_bytes}
use Rattle.calibration.specs.declared.setup.Setup.{Setup}
use Rattle.site_config.specs.declared.config.Config.{Config}
use Rattle.site_config.specs.Valid.{name_of, file_of}
use Rattle.recording.specs.declared.head.TheConstants.{HEAD_LENGTH}

pub record Recorded : Type 0 where
  pub setup : Setup
  pub gauges : ℕ
  -- by gauge
  pub names : ℕ → List ℕ
  pub samples : ℕ → List ℤ
  pub torn : ℕ → ℕ

-- the 32 bytes of the head stand in front; of no file it is empty
abbrev pub body_in : Option (List ℕ) → List ℕ
body_in (Some file) = drop HEAD_LENGTH file
body_in None = []

abbrev pub recordings : Config → Files → Recorded
recordings c files = record {
  setup = c.setup;
  gauges = length c.gauges;
  names = name_of c;
  samples = λ g. samples (body_in (files (file_of c g)));
  torn = λ g. torn_bytes (body_in (files (file_of c g)));
}
