use Rattle.mxf_findings.proofs.RefusedLaws.{differing_refused, early_footer_refused, early_random_index_refused}
use Rattle.mxf_findings.proofs.RefusedLaws.{empty_segment_refused, long_iff, metadata_with_a_pack_refused}
use Rattle.mxf_findings.proofs.RefusedLaws.{misplaced_refused, narrow_refused, no_footer_refused, no_header_refused}
use Rattle.mxf_findings.proofs.RefusedLaws.{no_metadata_refused, other_entries_refused, short_metadata_refused}
use Rattle.mxf_findings.proofs.RefusedLaws.{two_headers_refused, unlinked_refused}
use Rattle.mxf_findings.proofs.small_files.each_condition_of_well_formed_files_refuses_a_file.Goals as goal

pub returns : goal.returns
returns c = record {
  packets = narrow_refused;
  within = long_iff;
  header = no_header_refused;
  one_header = two_headers_refused;
  footer = no_footer_refused;
  footer_last = early_footer_refused;
  readable = empty_segment_refused;
  this = misplaced_refused;
  previous = unlinked_refused;
  metadata = no_metadata_refused;
  exact_metadata = short_metadata_refused;
  metadata_alone = metadata_with_a_pack_refused;
  index = differing_refused;
  random_index = other_entries_refused;
  random_index_last = early_random_index_refused;
}
