-- How many entries lists in order have: their keys are numbers of 16 bits.
use Rattle.std.specs.Prelude.{◌<◌, ◌≤◌, ◌^◌, length}
use Rattle.segment.specs.segment_rules.Parts.{PartsValue}

pub record AreFew (p : PartsValue) : Type 0 where
  pub cells : length p.cells < 2 ^ 32
  pub crossings : length p.crossings ≤ 2 ^ 16
  pub peaks : length p.peaks ≤ 2 ^ 16
  pub valleys : length p.valleys ≤ 2 ^ 16
  pub ranges : length p.ranges ≤ 2 ^ 16
