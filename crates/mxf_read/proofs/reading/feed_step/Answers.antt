use Rattle.std.proofs.Common.{arith, length-take, take, subst}
use Rattle.std.proofs.lemmas.List.{take-append-le}
use Rattle.mxf_read.specs.Feeding.{Feeds}
use Rattle.mxf_read.proofs.reading.feed_step.Goals as goal

pub returns-in_ok-feed-in-Took : goal.returns-in_ok-feed-in-Took
returns-in_ok-feed-in-Took g c =
    let (some, within, more) = c.in-Took.ensures in
    let count = length-take c.in-Took.count c.read_step.new.room in
    record {
      within = omega (arith, within, c.read_step.auto.room, length-take c.min-room.result c.args.buffer.now);
      bytes = take c.in-Took.count c.read_step.new.room;
      counted = omega (arith, count, within);
      consumed = more;
      fed = subst (Feeds c.args.piece.now c.feed.new.self) (take-append-le c.in-Took.count c.read_step.new.room _ within)
          c.in_ok-feed-in-Took.ensures.fed;
      ended = λ none. absurd (omega (arith, none, some));
    }
