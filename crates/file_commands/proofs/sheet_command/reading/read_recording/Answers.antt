use Rattle.std.proofs.Common.{List, ℕ, sym, ◌∙◌, ap}
use Rattle.file_commands.specs.file_tasks.FileState.{file_state}
use Rattle.file_commands.proofs.sheet_command.reading.read_recording.Goals as goal

pub returns-in-Ok-read-clause-sound : goal.returns-in-Ok-read-clause-sound
returns-in-Ok-read-clause-sound g c = λ tells.
    ap (λ (name : List ℕ). file_state (g.T.Site.files c.args.site.now name)) (sym c.as_str.ensures)
    ∙ (ap file_state (c.in-Ok.ensures.file tells) ∙ c.in-Ok-read.ensures.answer (c.in-Ok.ensures.source_tells tells) 0)
