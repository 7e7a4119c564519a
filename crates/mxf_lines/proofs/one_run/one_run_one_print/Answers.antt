use Rattle.mxf_catalogue.specs.History.{Hands}
use Rattle.mxf_read.specs.Gathering.{HandedBy}
use Rattle.mxf_lines.proofs.OneRun.{one_content, one_run_one_print}
use Rattle.mxf_lines.proofs.one_run.one_run_one_print.Goals as goal

pub returns-clause-content : goal.returns-clause-content
returns-clause-content g c = λ parts others m n.
    one_content (HandedBy g.R.Read.remaining parts) (HandedBy g.S.Read.remaining others) m n

pub returns-clause-print : goal.returns-clause-print
returns-clause-print g c = λ parts others m n.
    one_run_one_print (HandedBy g.R.Read.remaining parts) (HandedBy g.S.Read.remaining others) m n

pub returns-clause-calls : goal.returns-clause-calls
returns-clause-calls g c = λ h k m n. one_run_one_print (Hands h) (Hands k) m n
