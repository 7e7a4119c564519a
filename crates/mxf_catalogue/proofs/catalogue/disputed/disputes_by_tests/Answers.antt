use Rattle.mxf_catalogue.proofs.DisputeLaws.{is_byte_shared-SharesByte, is_offset_shared-SharesOffset}
use Rattle.mxf_catalogue.proofs.DisputeLaws.{is_overlapped-Overlaps, is_disputed-IsDisputed}
use Rattle.mxf_catalogue.proofs.catalogue.disputed.disputes_by_tests.Goals as goal

pub returns : goal.returns
returns c = record {
  byte = is_byte_shared-SharesByte;
  same_offset = is_offset_shared-SharesOffset;
  overlaps = is_overlapped-Overlaps;
  disputed = is_disputed-IsDisputed;
}
