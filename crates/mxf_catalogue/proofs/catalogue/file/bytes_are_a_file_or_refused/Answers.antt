use Rattle.mxf_catalogue.proofs.FileCauses.{file_or_refused}
use Rattle.mxf_catalogue.proofs.catalogue.file.bytes_are_a_file_or_refused.Goals as goal

pub returns : goal.returns
returns c = file_or_refused
