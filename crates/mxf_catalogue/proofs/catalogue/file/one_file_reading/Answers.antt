use Rattle.mxf_catalogue.proofs.FileLaws.{one_reading}
use Rattle.mxf_catalogue.proofs.catalogue.file.one_file_reading.Goals as goal

pub returns : goal.returns
returns c = one_reading
