use Rattle.std.proofs.Common.{◌+◌, ◌++◌, ℕ, arith, length-take, subst, take}
use Rattle.std.proofs.lemmas.List.{take-append-le}
use Rattle.mxf_read.specs.Feeding.{Feeds}
use Rattle.mxf_hand.specs.Given.{bytes_between}
use Rattle.mxf_hand.proofs.ReadBytes.{between_len}
use Rattle.mxf_hand.proofs.given.Given.feed_step.Goals as goal

pub returns-then-passing-buffer-clause-taken : goal.returns-then-passing-buffer-clause-taken
returns-then-passing-buffer-clause-taken g c =
    let n = c.min-passing.result in
    let least = c.min-passing.ensures in
    let more = c.if-passing-buffer.true in
    let passed = c.in_ok-pass.ensures.passed in
    let some = bytes_between (λ (x : ℕ). 0) 0 n in
    let (scan, offset, bytes, fed) = c.requires.fed in
    record {
      some = omega (arith, more);
      within = omega (arith, least);
      goes_on = (
        scan,
        offset,
        bytes ++ some,
        passed some (omega (arith, between_len (λ (x : ℕ). 0) 0 n)) scan offset bytes fed,
      );
      fed = λ given byte are of.
          let at = c.args.at in
          passed (bytes_between byte at (at + n)) (omega (arith, between_len byte at (at + n)));
    }

pub returns-clause-taken : goal.returns-clause-taken
returns-clause-taken g c =
    let n = c.in_ok-count.count in
    let room = c.read_step_at.new.room in
    let within = c.in_ok-count.ensures.room in
    let size = length-take c.min-room.result c.args.buffer.now in
    let least = c.min-room.ensures in
    let feeds : Feeds c.args.piece.now c.feed.new.self (take n room) =
    subst (Feeds c.args.piece.now c.feed.new.self) (take-append-le n room _ within) c.in_ok-feed.ensures.fed in
    let (scan, offset, bytes, fed) = c.requires.fed in
    record {
      some = c.in_ok-count.ensures.some;
      within = omega (arith, within, size, least, c.read_step_at.auto.room);
      goes_on = (scan, offset, bytes ++ take n room, feeds scan offset bytes fed);
      fed = λ given byte are of.
          subst (Feeds c.args.piece.now c.feed.new.self) (c.in_ok-count.ensures.bytes given byte are of) feeds;
    }
