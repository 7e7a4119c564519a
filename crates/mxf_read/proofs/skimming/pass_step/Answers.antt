use Rattle.mxf_read.proofs.skimming.pass_step.Goals as goal

pub returns-in_ok-pass-in-Ok : goal.returns-in_ok-pass-in-Ok
returns-in_ok-pass-in-Ok g c =
    let passed = c.in-Ok.ensures in
    record {
      within = passed.within;
      bytes = passed.bytes;
      counted = passed.counted;
      consumed = passed.consumed;
      fed = c.in_ok-pass-in-Ok.ensures.passed passed.bytes passed.counted;
      ended = passed.ended;
    }
