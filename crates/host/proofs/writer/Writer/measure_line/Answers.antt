use Rattle.host.specs.Listing.{measure_line}
use Rattle.host.proofs.Writes.{◌>>◌}
use Rattle.host.proofs.writer.Writer.measure_line.Goals as goal

pub returns-clause-wrote : goal.returns-clause-wrote
unfolding measure_line
returns-clause-wrote c = c.word.ensures >> c.number.ensures >> c.word-2.ensures
