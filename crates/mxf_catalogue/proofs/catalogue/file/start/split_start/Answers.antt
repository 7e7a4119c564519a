use Rattle.mxf_klv.proofs.Common.{arith, length-drop}
use Rattle.mxf_catalogue.proofs.FileParts.{at_front_of_rest, start_split}
use Rattle.mxf_catalogue.proofs.catalogue.file.start.split_start.Goals as goal

pub returns-in_default-of-clause-fault : goal.returns-in_default-of-clause-fault
returns-in_default-of-clause-fault c = grind (arith, at_front_of_rest)

pub returns-in_default-split_number-clause-fault : goal.returns-in_default-split_number-clause-fault
returns-in_default-split_number-clause-fault c = grind (arith, at_front_of_rest, length-drop)

pub returns-clause-start : goal.returns-clause-start
returns-clause-start c = grind (arith, start_split)
