use Rattle.csv_recording.proofs.ReadBack.{reads_back}
use Rattle.csv_recording.proofs.laws.read_back.Goals as goal

pub returns : goal.returns
returns c = reads_back
