use Rattle.host.specs.Listing.{refusal_line}
use Rattle.host.proofs.Writes.{◌>>◌, writes_same}
use Rattle.host.proofs.writer.Writer.refusal.Goals as goal

pub returns-clause-wrote : goal.returns-clause-wrote
unfolding refusal_line
returns-clause-wrote c = writes_same (c.word.ensures >> c.number-2.ensures >> c.place-2.ensures.wrote >> c.word-2.ensures) cc
