use Rattle.mxf_views.proofs.Common.{clear_notes, AreApart-clear_notes}
use Rattle.mxf_views.proofs.SpanCounts.{zone-count}
use Rattle.mxf_views.proofs.copy.covered_counts_offsets.Goals as goal

pub returns : goal.returns
returns c notes start bytes r = zone-count (clear_notes notes) 0 start bytes (AreApart-clear_notes notes r)
