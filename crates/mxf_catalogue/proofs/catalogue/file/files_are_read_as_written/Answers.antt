use Rattle.std.proofs.Common.{refl}
use Rattle.mxf_catalogue.specs.CatalogueFile.{file_bytes}
use Rattle.mxf_catalogue.specs.declared.catalogue.file.start.Version.TheVariants.{Two}
use Rattle.mxf_catalogue.proofs.FileLaws.{version_two, written_file}
use Rattle.mxf_catalogue.proofs.catalogue.file.files_are_read_as_written.Goals as goal

pub returns : goal.returns
returns c = record {
  file = λ notes c p h. (Two, written_file notes c p h (file_bytes notes) refl);
  read_back = λ notes c p h. (Two, written_file notes c p h (file_bytes notes) refl);
  written_back = λ bytes notes e f. version_two f.0 bytes notes f.1 e;
}
