use Rattle.mxf_findings.proofs.GoodFiles.{agreeing_well_formed, filled_well_formed, m_well_formed, open_well_formed}
use Rattle.mxf_findings.proofs.GoodFiles.{twice_filled_well_formed}
use Rattle.mxf_findings.proofs.SmallFiles.{h_not_well_formed, n_well_formed, r_not_well_formed, w_well_formed}
use Rattle.mxf_findings.proofs.small_files.small_files_are_well_formed_or_not.Goals as goal

pub returns : goal.returns
returns c = record {
  two_copies = n_well_formed;
  indexed = w_well_formed;
  no_footer = h_not_well_formed;
  no_footer_either = r_not_well_formed;
  random_index = m_well_formed;
  filled = filled_well_formed;
  twice_filled = twice_filled_well_formed;
  open_header = open_well_formed;
  agreeing_segments = agreeing_well_formed;
}
