use Rattle.mxf_findings.proofs.Common.{refl, item_at, items_of, left_of, entries_of, read_pack, read_rip, read_segment}
use Rattle.mxf_findings.proofs.small_files.an_indexed_file_is_read_from_the_front.Goals as goal

pub returns : goal.returns
unfolding entries_of item_at items_of left_of read_pack read_rip read_segment
returns c = record {
  links = refl;
  link = refl;
  no_link = refl;
  chain = refl;
  copies = refl;
  place = refl;
  last_place = refl;
  no_place = refl;
  other_index = refl;
  rip = refl;
}
