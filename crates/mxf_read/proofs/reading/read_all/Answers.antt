use Rattle.std.proofs.Common.{◌++◌, arith, subst, length-append, length-take, take}
use Rattle.std.proofs.KnownBytes.{Consumes-trans}
use Rattle.std.proofs.lemmas.List.{take-append-le}
use Rattle.mxf_read.specs.Feeding.{Fails, Feeds}
use Rattle.mxf_read.proofs.Feeding.{Fails-joined, Feeds-trans}
use Rattle.mxf_read.proofs.reading.read_all.Goals as goal

pub returns-in-Err-clause-bytes : goal.returns-in-Err-clause-bytes
returns-in-Err-clause-bytes g c =
    let (done, counted, consumed, fed, repeats, grows, reads) = c.reads.invariant in
    let (some, within, more) = c.in-Took.ensures.bytes in
    let taken = take c.in-Took.count c.read_once.new.room in
    let fails = subst (Fails c.reads.piece c.feed.new.self) (take-append-le c.in-Took.count c.read_once.new.room _
    within)
    c.in-Err.ensures.err in
    let count = length-take c.in-Took.count c.read_once.new.room in
    let room = length-take c.min-room.result c.reads.buffer in (
      done ++ taken,
      record {
        within = omega (arith, length-append done taken, count, room, c.read_once.auto.room);
        consumed = Consumes-trans _ _ _ done taken consumed more;
      },
      Fails-joined c.args.piece.now c.reads.piece c.feed.new.self done taken fed fails,
    )

pub reads-preserved-in-Took-1 : goal.reads-preserved-in-Took-1
reads-preserved-in-Took-1 g c =
    let (done, counted, consumed, fed, repeats, grows, reads) = c.reads.invariant in
    let (some, within, more) = c.in-Took.ensures.bytes in
    let taken = take c.in-Took.count c.read_once.new.room in
    let feeds = subst (Feeds c.reads.piece c.feed.new.self) (take-append-le c.in-Took.count c.read_once.new.room _
    within)
    c.in-Ok.ensures.fed in
    let count = length-take c.in-Took.count c.read_once.new.room in
    let room = length-take c.min-room.result c.reads.buffer in
    let both = length-append done taken in (
      done ++ taken,
      omega (arith, counted, both, count, room, within),
      Consumes-trans _ _ _ done taken consumed more,
      Feeds-trans c.args.piece.now c.reads.piece c.feed.new.self done taken fed feeds,
      repeats,
      omega (arith, grows, c.in-Took.ensures.one),
      omega (arith, reads, c.in-Took.ensures.one, some, within, room, c.read_once.auto.room),
    )
