use Rattle.std.proofs.Common.{refl}
use Rattle.mxf_catalogue.specs.CatalogueFile.{file_bytes}
use Rattle.mxf_catalogue.proofs.FileLaws.{file_of_one, reduced_in_one, version_of_file, written_file}
use Rattle.mxf_catalogue.proofs.catalogue.file.files_of_both_versions.Goals as goal

pub returns : goal.returns
returns c = record {
  two = λ notes c p h. written_file notes c p h (file_bytes notes) refl;
  one = file_of_one;
  told = version_of_file;
  reduced = reduced_in_one;
}
