use Rattle.std.proofs.Common.{◌+◌, ◌*◌, ◌≤◌, take}
use Rattle.std.specs.List.{flat_map}
use Rattle.host.specs.Writer.{Writes}
use Rattle.host.specs.Listing.{measure_line, longest_measure_line}
use Rattle.host.proofs.writer.Writer.held.Given as goal

-- the lines of the members so far are written
abbrev pub invariant-loop-m : goal.invariant-loop-m
invariant-loop-m l = record {
  wrote : Writes l.initial.self l.self (flat_map measure_line (take l.m-index l.m-items));
  within : l.self.at ≤ l.initial.self.at + longest_measure_line * l.m-index;
}
