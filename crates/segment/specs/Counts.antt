-- How many samples there are of each kind.
--   kinds_of    of a list of samples
--   kinds_sum   of two lists together
use Rattle.std.specs.Prelude.{◌+◌, ℤ, List, length}
use Rattle.calibration.specs.Gain.{GainValue}
use Rattle.calibration.specs.Grid.{GridValue}
use Rattle.calibration.specs.History.{history, missing_count, refused_count}
use Rattle.segment.specs.declared.counts.SampleCounts.{SampleCounts}

abbrev pub kinds_of : GridValue → GainValue → List ℤ → SampleCounts
kinds_of grid gain w = record {
  samples = length w;
  used = length (history grid gain w);
  missing = missing_count grid gain w;
  refused = refused_count grid gain w;
}

abbrev pub kinds_sum : SampleCounts → SampleCounts → SampleCounts
kinds_sum a b = record {
  samples = a.samples + b.samples;
  used = a.used + b.used;
  missing = a.missing + b.missing;
  refused = a.refused + b.refused;
}
