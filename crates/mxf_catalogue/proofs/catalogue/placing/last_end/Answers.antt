use Rattle.std.proofs.Common.{sym}
use Rattle.mxf_catalogue.proofs.Ranges.{ends_last, ends_none}
use Rattle.mxf_catalogue.proofs.catalogue.placing.last_end.Goals as goal

pub returns-in-Some : goal.returns-in-Some
returns-in-Some c = λ bound.
    ends_last c.args.notes.now c.in-Some.last.now c.requires.content c.requires.apart (sym c.in-Some.ensures.value)
    bound c.end.result c.end.ensures

pub returns-in-None : goal.returns-in-None
returns-in-None c = λ bound. ends_none c.args.notes.now (sym c.in-None.ensures.value) bound
