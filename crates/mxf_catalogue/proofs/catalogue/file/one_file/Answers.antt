use Rattle.std.proofs.Common.{refl, sym, ◌∙◌}
use Rattle.mxf_catalogue.specs.CatalogueFile.{file_bytes}
use Rattle.mxf_catalogue.specs.declared.catalogue.file.start.Version.TheVariants.{Two}
use Rattle.mxf_catalogue.proofs.FileLaws.{one_content, written_file}
use Rattle.mxf_catalogue.proofs.catalogue.file.one_file.Goals as goal

pub returns : goal.returns
returns c = record {
  content = one_content;
  bytes = λ v x y notes p q. p.whole ∙ sym q.whole;
  equal = λ a b p q u v m n e. one_content (file_bytes a) a b (Two, written_file a p u m (file_bytes a) refl)
      (Two, written_file b q v n (file_bytes a) e);
}
