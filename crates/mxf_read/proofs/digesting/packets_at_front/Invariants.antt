-- What stands at the front of the bytes that are left stands behind the packets so far.
use Rattle.std.proofs.Common.{◌++◌, ◌-◌, ◌≤◌, ◌+◌, List, length}
use Rattle.mxf_klv.specs.Parts.{PacketParts}
use Rattle.mxf_read.specs.WholePackets.{StandAtFront}
use Rattle.mxf_read.proofs.digesting.packets_at_front.Given as goal

abbrev pub invariant-packets : goal.invariant-packets
invariant-packets l = record {
  stand : (more : List PacketParts) → StandAtFront l.at l.rest more
      → StandAtFront l.initial.at l.initial.rest (l.packets.items ++ more);
  few : length l.packets.items ≤ 64;
  within : l.at + length l.rest ≤ l.initial.at + length l.initial.rest;
}

abbrev pub decreases-packets : goal.decreases-packets
decreases-packets l = 64 - length l.packets.items
