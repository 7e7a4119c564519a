use Rattle.std.proofs.Common.{◌++◌, arith, drop, inl, inr, length, length-append, length-drop, length-take}
use Rattle.std.proofs.KnownBytes.{Consumes-trans}
use Rattle.mxf_read.proofs.Feeding.{Feeds-trans}
use Rattle.mxf_read.proofs.reading.read_through.Goals as goal

pub returns-in-Ok-eq0 : goal.returns-in-Ok-eq0
returns-in-Ok-eq0 g c =
    let (done, counted, consumed, fed, repeats, some, wide) = c.steps.invariant in
    let step = c.in-Ok-eq0.ensures in
    let both = length-append done step.bytes in (
      done ++ step.bytes,
      record {
        within = omega (arith, counted, both, step.counted, step.within, c.min-asked.ensures);
        consumed = Consumes-trans _ _ _ done step.bytes consumed step.consumed;
      },
      Feeds-trans c.args.piece.now c.steps.piece c.feed_step.new.piece done step.bytes fed step.fed,
      inl (inr (step.ended (omega (arith, c.in-Ok-eq0.field-0-test)))),
    )

pub steps-preserved-then-gains_by_more : goal.steps-preserved-then-gains_by_more
steps-preserved-then-gains_by_more g c =
    let (done, counted, consumed, fed, repeats, some, wide) = c.steps.invariant in
    let step = c.in-Ok.ensures in
    let both = length-append done step.bytes in (
      done ++ step.bytes,
      omega (arith, counted, both, step.counted, step.within, c.min-asked.ensures),
      Consumes-trans _ _ _ done step.bytes consumed step.consumed,
      Feeds-trans c.args.piece.now c.steps.piece c.feed_step.new.piece done step.bytes fed step.fed,
      repeats,
      c.more_room-room.ensures.some,
      c.more_room-room.ensures.within,
    )

pub steps-preserved-else-count-asked : goal.steps-preserved-else-count-asked
steps-preserved-else-count-asked g c =
    let (done, counted, consumed, fed, repeats, some, wide) = c.steps.invariant in
    let step = c.in-Ok.ensures in
    let both = length-append done step.bytes in
    let items = c.steps.window.items in
    let now = c.feed_step.new.buffer in
    let back = drop (length now) items in (
      done ++ step.bytes,
      omega (arith, counted, both, step.counted, step.within, c.min-asked.ensures),
      Consumes-trans _ _ _ done step.bytes consumed step.consumed,
      Feeds-trans c.args.piece.now c.steps.piece c.feed_step.new.piece done step.bytes fed step.fed,
      repeats,
      some,
      omega (
        arith,
        wide,
        c.steps.window.ok.0,
        length-take c.steps.window.len (now ++ back),
        length-append now back,
        length-drop (length now) items,
      ),
    )

pub returns-in-Err-OutOfMemory : goal.returns-in-Err-OutOfMemory
returns-in-Err-OutOfMemory g c =
    let (done, counted, consumed, fed, repeats, some, wide) = c.steps.invariant in
    let (more, takes) = rw c.in-Err-OutOfMemory.field-0-is at c.in-Err-OutOfMemory.ensures in
    let both = length-append done more in
    let within = takes.within in (
      done ++ more,
      record {
        within = omega (arith, counted, both, within, c.min-asked.ensures);
        consumed = Consumes-trans _ _ _ done more consumed takes.consumed;
      },
    )
