use Rattle.std.proofs.Common.{arith}
use Rattle.host.specs.Listing.{measure_line}
use Rattle.host.proofs.Writes.{◌>>◌, writes-more, writes-all}
use Rattle.host.proofs.writer.Writer.held.Goals as goal

pub loop-m-preserved : goal.loop-m-preserved
loop-m-preserved c = record {
  wrote = writes-more measure_line c.members-m-items.result.now c.loop-m.m-index (omega arith) c.loop-m.invariant.wrote c.measure_line.ensures.wrote;
  within = omega arith;
}

pub returns-clause-wrote : goal.returns-clause-wrote
returns-clause-wrote c =
    c.held_line.ensures.wrote >> rw (← c.members-m-items.ensures) (writes-all measure_line c.members-m-items.result.now c.loop-m.m-index (omega arith) c.loop-m.invariant.wrote)
