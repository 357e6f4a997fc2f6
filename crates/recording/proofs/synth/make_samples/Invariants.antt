use Rattle.std.proofs.Common.{◌≡◌, ◌*◌, ◌-◌, ◌++◌, take}
use Rattle.recording.specs.Samples.{sample_bytes}
use Rattle.recording.specs.Synth.{made_samples, state_after}
use Rattle.recording.proofs.synth.make_samples.Given as goal

abbrev pub invariant-loop-i : goal.invariant-loop-i
invariant-loop-i l = record {
  made : take (4 * l.i) l.bytes ++ sample_bytes (made_samples (l.samples - l.i) l.state) ≡ sample_bytes (made_samples l.samples l.fn.state);
  behind : state_after (l.samples - l.i) l.state ≡ state_after l.samples l.fn.state;
}
