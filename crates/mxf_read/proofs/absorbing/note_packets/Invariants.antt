-- The first notes of the piece were added, and what is left of the bytes has the others and the stop.
use Rattle.mxf_views.proofs.Common.{◌≡◌, ◌+◌, ◌≤◌, length, notes_in, packets_in, stop_in}
use Rattle.mxf_read.proofs.Taking.{IsPart}
use Rattle.mxf_read.proofs.absorbing.note_packets.Given as goal

abbrev pub invariant-packets : goal.invariant-packets
invariant-packets l = record {
  notes : IsPart l.initial.catalogue l.catalogue (notes_in l.initial.at l.initial.rest) l.noted (notes_in l.at l.rest);
  count : l.noted + length (packets_in l.at l.rest) ≡ length (packets_in l.initial.at l.initial.rest);
  stop : stop_in l.initial.at l.initial.rest ≡ stop_in l.at l.rest;
  fits : l.noted + length l.rest ≤ length l.initial.rest;
}

abbrev pub decreases-packets : goal.decreases-packets
decreases-packets l = length l.rest
