use Rattle.mxf_map.proofs.ExtentLaws.{extent-alone, extent-members, extent-offsets, members-extent, one_list_of_extents}
use Rattle.mxf_map.proofs.extent.extents_by_definition.Goals as goal

pub returns : goal.returns
returns c = record {
  members = λ stands end es e are. (extent-members stands end es e are, members-extent stands end es e are);
  offsets = extent-offsets;
  alone = extent-alone;
  one = one_list_of_extents;
}
