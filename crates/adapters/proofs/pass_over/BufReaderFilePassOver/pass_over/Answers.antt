use Rattle.std.specs.Io.Buffered.{reader_remaining}
use Rattle.std.specs.Prelude.{None}
use Rattle.adapters.proofs.Known.{unknown_passed, unknown_ahead}
use Rattle.adapters.proofs.pass_over.BufReaderFilePassOver.pass_over.Goals as goal

-- no contract says what a file holds
pub returns-in-Ok-eq1-clause-bytes : goal.returns-in-Ok-eq1-clause-bytes
returns-in-Ok-eq1-clause-bytes c =
    unknown_passed _ (reader_remaining (λ _. None) c.read.new.self) c.min-n.result (unknown_ahead c.args.self.now)
