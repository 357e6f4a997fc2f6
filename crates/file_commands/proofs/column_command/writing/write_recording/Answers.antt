use Rattle.std.proofs.lemmas.Result.{on_err_weaker}
use Rattle.lemmas.proofs.Outcomes.{on_err}
use Rattle.recording.specs.Head.{head_bytes}
use Rattle.recording.specs.Samples.{sample_bytes}
use Rattle.outside.proofs.Parts.{first_part_front, second_part_front}
use Rattle.file_commands.proofs.column_command.writing.write_recording.Goals as goal

pub returns-in_err-write_head-clause-failed : goal.returns-in_err-write_head-clause-failed
returns-in_err-write_head-clause-failed g c = λ tells.
    on_err _ (first_part_front (g.O.Sink.written c.args.out.now) (g.O.Sink.written c.write_head.new.out) (head_bytes c.args.head.now)
    (sample_bytes c.args.samples.now) (c.in_err-write_head.ensures.failed tells))

pub returns-clause-failed : goal.returns-clause-failed
returns-clause-failed g c = λ tells.
    on_err_weaker c.write_samples.result (second_part_front (g.O.Sink.written c.args.out.now) (g.O.Sink.written c.write_head.new.out)
    (g.O.Sink.written c.write_samples.new.out) (head_bytes c.args.head.now) (sample_bytes c.args.samples.now)
    (c.in_ok-write_head.ensures.ok tells))
    (c.write_samples.ensures.failed tells)
