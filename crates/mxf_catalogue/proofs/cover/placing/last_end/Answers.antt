use Rattle.std.proofs.Common.{sym}
use Rattle.mxf_catalogue.proofs.CoverLaws.{last_end}
use Rattle.mxf_catalogue.proofs.cover.placing.last_end.Goals as goal

pub returns-in-Some : goal.returns-in-Some
returns-in-Some c = last_end c.args.runs.now c.in-Some.run'.now c.requires.maximal (sym c.in-Some.ensures.value)
