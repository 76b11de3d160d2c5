use Rattle.host.proofs.Writes.{◌>>◌}
use Rattle.host.proofs.writer.Writer.place.Goals as goal

pub returns-clause-wrote : goal.returns-clause-wrote
returns-clause-wrote c = rw c.in-Some.is (c.word.ensures >> c.number.ensures)
