use Rattle.std.proofs.Common.{◌++◌, arith, inl, inr, length-append}
use Rattle.std.proofs.KnownBytes.{Consumes-trans}
use Rattle.mxf_read.proofs.Feeding.{Feeds-trans}
use Rattle.mxf_read.proofs.skimming.skim_all.Goals as goal

pub returns-in-Ok-eq0 : goal.returns-in-Ok-eq0
returns-in-Ok-eq0 g c =
    let (done, counted, consumed, fed, repeats) = c.steps.invariant in
    let step = c.in-Ok-eq0.ensures in
    let both = length-append done step.bytes in (
      done ++ step.bytes,
      record {
        within = omega (arith, counted, both, step.counted, step.within);
        consumed = Consumes-trans _ _ _ done step.bytes consumed step.consumed;
      },
      Feeds-trans c.args.piece.now c.steps.piece c.skim_step.new.piece done step.bytes fed step.fed,
      inl (inr (step.ended (omega (arith, c.in-Ok-eq0.field-0-test)))),
    )

pub steps-preserved-in-Ok : goal.steps-preserved-in-Ok
steps-preserved-in-Ok g c =
    let (done, counted, consumed, fed, repeats) = c.steps.invariant in
    let step = c.in-Ok.ensures in
    let both = length-append done step.bytes in (
      done ++ step.bytes,
      omega (arith, counted, both, step.counted, step.within),
      Consumes-trans _ _ _ done step.bytes consumed step.consumed,
      Feeds-trans c.args.piece.now c.steps.piece c.skim_step.new.piece done step.bytes fed step.fed,
      repeats,
    )

pub returns-in-Err-OutOfMemory : goal.returns-in-Err-OutOfMemory
returns-in-Err-OutOfMemory g c =
    let (done, counted, consumed, fed, repeats) = c.steps.invariant in
    let (more, takes) = rw c.in-Err-OutOfMemory.field-0-is at c.in-Err-OutOfMemory.ensures in
    let both = length-append done more in
    let within = takes.within in (
      done ++ more,
      record {
        within = omega (arith, counted, both, within);
        consumed = Consumes-trans _ _ _ done more consumed takes.consumed;
      },
    )
