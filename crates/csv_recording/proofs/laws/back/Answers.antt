use Rattle.csv_recording.proofs.Back.{reads_back}
use Rattle.csv_recording.proofs.laws.back.Goals as goal

pub returns : goal.returns
returns c = reads_back
