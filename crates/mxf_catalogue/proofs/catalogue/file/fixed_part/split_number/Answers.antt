use Rattle.std.proofs.Common.{arith}
use Rattle.mxf_catalogue.proofs.FileParts.{number_split}
use Rattle.mxf_catalogue.proofs.catalogue.file.fixed_part.split_number.Goals as goal

pub returns-clause-some : goal.returns-clause-some
returns-clause-some c = grind (arith, number_split)
