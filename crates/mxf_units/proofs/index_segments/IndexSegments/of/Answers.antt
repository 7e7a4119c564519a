use Rattle.mxf_views.proofs.Common.{◌∙◌, subst}
use Rattle.mxf_units.proofs.RepeatedLaws.{ordered_after}
use Rattle.mxf_units.proofs.index_segments.IndexSegments.of.Goals as goal

pub returns : goal.returns
returns c = ordered_after _ c.in_ok-left.left.items c.in_ok-segments.segments c.in_ok-left.ensures c.in_ok-segments.ensures
