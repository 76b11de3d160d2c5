use Rattle.host.specs.Listing.{held_line}
use Rattle.host.proofs.Writes.{◌>>◌, writes_same}
use Rattle.host.proofs.writer.Writer.held_line.Goals as goal

pub returns-clause-wrote : goal.returns-clause-wrote
unfolding held_line
returns-clause-wrote c =
    writes_same
    (c.word.ensures >> c.number.ensures >> c.word-2.ensures >> c.number-2.ensures >> c.word-3.ensures >> c.number-3.ensures >> c.word-4.ensures)
    cc
