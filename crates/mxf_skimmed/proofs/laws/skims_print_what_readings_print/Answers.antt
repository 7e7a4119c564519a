use Rattle.mxf_skimmed.proofs.LineLaws.{head_line, not_passed_over, parts_print_the_same, passed_over}
use Rattle.mxf_skimmed.proofs.LineLaws.{skim_prints_the_same}
use Rattle.mxf_skimmed.proofs.laws.skims_print_what_readings_print.Goals as goal

pub returns-clause-prints : goal.returns-clause-prints
returns-clause-prints g c = skim_prints_the_same

pub returns-clause-parts : goal.returns-clause-parts
returns-clause-parts g c = parts_print_the_same g.R.Read.remaining

pub returns-clause-passed : goal.returns-clause-passed
returns-clause-passed g c = passed_over

pub returns-clause-others : goal.returns-clause-others
returns-clause-others g c = not_passed_over

pub returns-clause-head : goal.returns-clause-head
returns-clause-head g c = head_line
