use Rattle.mxf_partial.proofs.PlaceLaws.{agreed, contradicted, never_alone, unlisted}
use Rattle.mxf_partial.proofs.place_streams.stream_of.Goals as goal
use Rattle.mxf_partial.proofs.place_streams.stream_of.Goals.{in_default-last_below-via-in-Some-last_below+else-first-last}
use Rattle.mxf_partial.proofs.place_streams.stream_of.Goals.{in_default-last_below-via-in_default-last_below}

pub returns-in_default : goal.returns-in_default
returns-in_default c = λ notes are. unlisted notes c.args.listed.now are c.args.place c.in_default.ensures

pub returns-in-Some-last_below : goal.returns-in-Some-last_below
returns-in-Some-last_below c = λ notes are.
    contradicted notes c.args.listed.now are c.args.place c.in-Some.first.now c.in-Some-last_below.last.now
    c.in-Some.ensures c.in-Some-last_below.ensures c.if-first-last.true

pub returns-in_default-last_below : goal.returns-in_default-last_below
returns-in_default-last_below c = λ notes are.
    elim c.in_default-last_below.branch [
      | in_default-last_below-via-in-Some-last_below+else-first-last w ↦
          agreed notes c.args.listed.now are c.args.place c.in-Some.first.now w.in-Some-last_below.last.now
          c.in-Some.ensures w.in-Some-last_below.ensures w.if-first-last.false
      | in_default-last_below-via-in_default-last_below w ↦
          never_alone notes c.args.listed.now are c.args.place c.in-Some.first.now c.in-Some.ensures
          w.in_default-last_below.ensures
    ]
