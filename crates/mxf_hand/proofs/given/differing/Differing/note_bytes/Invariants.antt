-- What is noted so far, with what the bytes to come will add.
use Rattle.std.proofs.Common.{◌≡◌, ◌+◌, drop, length}
use Rattle.mxf_hand.specs.Differing.{with_bytes}
use Rattle.mxf_hand.proofs.given.differing.Differing.note_bytes.Given as goal

abbrev pub invariant-loop-byte : goal.invariant-loop-byte
invariant-loop-byte l = record {
  at : l.at ≡ l.start + length l.yielded;
  all : with_bytes l.self l.at (drop (length l.yielded) l.fn.bytes) (drop (length l.yielded) l.fn.others)
      ≡ with_bytes l.fn.self l.start l.fn.bytes l.fn.others;
}
