use Rattle.mxf_catalogue.proofs.ContentLaws.{same_content, In-with_note, In-union_of}
use Rattle.mxf_catalogue.proofs.HeadLaws.{In-reduced, IsContent-reduced_with, IsContent-reduced_union, reduced-before}
use Rattle.mxf_catalogue.proofs.HeadLaws.{reduced_union-is}
use Rattle.mxf_catalogue.proofs.HeadWords.{replaced_words}
use Rattle.mxf_catalogue.proofs.catalogue.contents_are_sets.Goals as goal

pub returns : goal.returns
returns c = record {
  one = same_content;
  with_note = In-with_note;
  union = In-union_of;
  replaced = replaced_words;
  reduced = In-reduced;
  reduced_before = reduced-before;
  reduced_union = reduced_union-is;
  reduced_with_rises = IsContent-reduced_with;
  reduced_union_rises = IsContent-reduced_union;
}
