use Rattle.mxf_findings.proofs.Common.{refl, is_preface_note, is_set_note, read_pack, read_rip, read_segment}
use Rattle.mxf_findings.proofs.small_files.two_copies_are_read_from_the_front.Goals as goal

pub returns : goal.returns
unfolding is_preface_note is_set_note read_pack read_rip read_segment
returns c = record {
  links = refl;
  chain = refl;
  copies = refl;
  sets = refl;
  preferred = refl;
  segments = refl;
  rip = refl;
}
