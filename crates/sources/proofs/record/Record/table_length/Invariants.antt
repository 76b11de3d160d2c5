use Rattle.std.proofs.Common.{◌≡◌, ◌*◌}
use Rattle.sources.specs.Layout.{classes_of}
use Rattle.sources.proofs.Lengths.{classes_product}
use Rattle.sources.proofs.record.Record.table_length.Given as goal

abbrev pub invariant-loop-driver : goal.invariant-loop-driver
invariant-loop-driver l = l.length ≡ classes_product l.self.bytes.now l.self.m l.driver-index * classes_of l.self.bytes.now l.self.m
