use Rattle.mxf_views.proofs.Common.{◌∙◌, ap, arith, clear_notes, length, length-filter_map, placed_segment}
use Rattle.mxf_views.proofs.Common.{segments_among, segments_of}
use Rattle.mxf_views.proofs.KeptLaws.{segments_kept}
use Rattle.mxf_views.proofs.index.Segments.of.Goals as goal

pub returns-clause-segments : goal.returns-clause-segments
returns-clause-segments c =
    ap segments_among c.of-notes.ensures ∙ segments_kept c.args.catalogue.now c.args.kept.now c.requires

pub returns-clause-bound : goal.returns-clause-bound
unfolding segments_of
returns-clause-bound c = grind (arith, length-filter_map, placed_segment, clear_notes, length, returns-clause-segments)
