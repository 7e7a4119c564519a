use Rattle.std.proofs.Common.{arith}
use Rattle.mxf_read.proofs.SavedLaws.{too_long, whole, saved_read, saved_refused}
use Rattle.mxf_read.proofs.gathering.read_saved.Goals as goal

pub returns-then-len-gt-GREATEST_SAVED-clause-fault : goal.returns-then-len-gt-GREATEST_SAVED-clause-fault
returns-then-len-gt-GREATEST_SAVED-clause-fault g c =
    too_long (g.R.Read.remaining c.args.from.now) c.read_up_to.new.bytes.items c.in_ok-read_up_to.ensures.bytes
    (omega arith)

pub returns-in-Ok-clause-saved : goal.returns-in-Ok-clause-saved
returns-in-Ok-clause-saved g c =
    let o = g.R.Read.remaining c.args.from.now in
    saved_read o c.read_up_to.new.bytes.items c.deref.result.now c.in-Ok.saved
    (whole o c.read_up_to.new.bytes.items c.in_ok-read_up_to.ensures.bytes
    (omega arith)) c.deref.ensures.value c.in-Ok.ensures.reads

pub returns : goal.returns
returns g c =
    let o = g.R.Read.remaining c.args.from.now in
    record {
      left = tt;
      saved = tt;
      fault = saved_refused o c.read_up_to.new.bytes.items c.deref.result.now c.in-Err.fault c.saved_fault.result
          (whole o c.read_up_to.new.bytes.items c.in_ok-read_up_to.ensures.bytes
          (omega arith)) c.deref.ensures.value c.in-Err.ensures.reads c.saved_fault.ensures;
    }
